-- What the fields of a page tell is what stands in it.
use Rattle.std.proofs.Common.{◌≡◌, ◌<◌, ◌≤◌, ◌+◌, ◌*◌, ◌^◌, ℕ, zero, suc, List, [], ◌∷◌, ◌++◌, length, drop, get_or, slice_index, refl, sym, ap, subst, ◌∙◌, arith}
use Rattle.grid_types.specs.declared.update.Record.{Record}
use Rattle.page_fields.specs.Fields.{number}
use Rattle.page_fields.specs.Corners.{CornerAt}
use Rattle.page_fields.proofs.Entries.{AreBytes, number_fits, drop_fits, entries_in}
use Rattle.page_fields.proofs.Places.{one_corner}
use Rattle.grid_model.specs.Spellings.{BucketOf}
use Rattle.bucket_page.proofs.Standing.{RowAt, RowsAt, BucketAt}
use Rattle.grid_model.specs.Buckets.{IsBucket, SpellsBucket}
use Rattle.bucket_page.specs.OnPage.{numbers_at, record_at, records_at, bucket_told}
use Rattle.bucket_page.proofs.Standing.{bucket_there, one_bucket}

pub length-numbers_at : (n at : ℕ) (page : List ℕ) → length (numbers_at n at page) ≡ n
length-numbers_at zero at page = refl
length-numbers_at (suc n) at page = let e = length-numbers_at n (at + 8) page in omega (arith, e)

-- the same numbers, as the lower crate names them
pub numbers_are : (n at : ℕ) (page : List ℕ) → numbers_at n at page ≡ entries_in 8 at n page
numbers_are zero at page = refl
numbers_are (suc n) at page = ap (λ (xs : List ℕ). number 8 (drop at page) ∷ xs) (numbers_are n (at + 8) page)

numbers_fit : (n at : ℕ) (page : List ℕ) → AreBytes page → (a : ℕ) → slice_index (numbers_at n at page) a < 256 ^ 8
numbers_fit zero at page fits a = omega (arith, number_fits 8 page fits)
numbers_fit (suc n) at page fits zero = number_fits 8 (drop at page) (drop_fits at page fits)
numbers_fit (suc n) at page fits (suc a) = numbers_fit n (at + 8) page fits a

each_number : (n at : ℕ) (page : List ℕ) (a : ℕ) → a < n → slice_index (numbers_at n at page) a ≡ number 8 (drop (at + 8 * a) page)
each_number zero at page a lt = absurd (omega arith)
each_number (suc n) at page zero lt = ap (λ (k : ℕ). number 8 (drop k page)) (omega arith)
each_number (suc n) at page (suc a) lt =
    let split : at + 8 + 8 * a ≡ at + 8 * suc a = omega arith in
    each_number n (at + 8) page a (omega (arith, lt)) ∙ ap (λ (k : ℕ). number 8 (drop k page)) split

-- a corner stands wherever there are bytes
pub corner_on : (K at : ℕ) (page : List ℕ) → AreBytes page → CornerAt K page at (numbers_at K at page)
corner_on K at page fits = record {
  count = length-numbers_at K at page;
  in_range = λ a. omega (arith, numbers_fit K at page fits a);
  each = each_number K at page;
}

-- a corner that stands there has these numbers
pub corner_is : (K at : ℕ) (page xs : List ℕ) → AreBytes page → CornerAt K page at xs → xs ≡ numbers_at K at page
corner_is K at page xs fits there = one_corner K page at (numbers_at K at page) xs (corner_on K at page fits) there

pub length-rows : (K : ℕ) (page : List ℕ) (at n : ℕ) → length (records_at K page at n) ≡ n
length-rows K page at zero = refl
length-rows K page at (suc n) = let e = length-rows K page (at + 80) n in omega (arith, e)

-- one of the records
pub row_of : (K : ℕ) (page : List ℕ) (at n i : ℕ) (d : Record K) → i < n → get_or (records_at K page at n) i d ≡ record_at K page (at + 80 * i)
row_of K page at zero i d lt = absurd (omega arith)
row_of K page at (suc n) zero d lt = ap (record_at K page) (omega arith)
row_of K page at (suc n) (suc i) d lt =
    let split : at + 80 + 80 * i ≡ at + 80 * suc i = omega arith in
    row_of K page (at + 80) n i d (omega (arith, lt)) ∙ ap (record_at K page) split

-- one record more
pub rows_more : (K : ℕ) (page : List ℕ) (at n : ℕ) → records_at K page at (n + 1) ≡ records_at K page at n ++ record_at K page (at + 80 * n) ∷ []
rows_more K page at zero = ap (λ (k : ℕ). record_at K page k ∷ []) (omega arith)
rows_more K page at (suc n) =
    let split : at + 80 + 80 * n ≡ at + 80 * suc n = omega arith in
    let next : suc n + 1 ≡ suc (n + 1) = omega arith in
    ap (records_at K page at) next ∙ ap (λ (rs : List (Record K)). record_at K page at ∷ rs) (rows_more K page (at + 80) n ∙ ap (λ (k : ℕ). records_at K page (at + 80) n ++ record_at K page k ∷ []) split)

-- a record of at most 40 bytes stands there
pub row_stands : (K : ℕ) (page : List ℕ) (at : ℕ) → AreBytes page → slice_index page (at + 32) ≤ 40 → RowAt K page at (record_at K page at)
row_stands K page at fits short = record { key = corner_on K at page fits; value = refl; short = short }

rows_stand : (K : ℕ) (page : List ℕ) (count : ℕ) → AreBytes page → ((i : ℕ) → i < count → slice_index page (96 + 80 * i + 32) ≤ 40) → RowsAt K page (records_at K page 96 count)
rows_stand K page count fits short i d h =
    let lt : i < count = omega (arith, h, length-rows K page 96 count) in
    subst (RowAt K page (96 + 80 * i)) (sym (row_of K page 96 count i d lt)) (row_stands K page (96 + 80 * i) fits (short i lt))

-- what a page tells stands in it, where no record says that it is longer than it may be
pub bucket_stands : (K : ℕ) (page : List ℕ) → AreBytes page → ((i : ℕ) → i < number 2 (drop 8 page) → slice_index page (96 + 80 * i + 32) ≤ 40) → BucketAt K page (bucket_told K page)
bucket_stands K page fits short = record {
  number_is = refl;
  in_range = omega (arith, number_fits 4 (drop 4 page) (drop_fits 4 page fits));
  turn = refl;
  lo = corner_on K 16 page fits;
  hi = corner_on K 48 page fits;
  count = length-rows K page 96 (number 2 (drop 8 page));
  rows = rows_stand K page (number 2 (drop 8 page)) fits short;
}

-- the bucket that a page spells is the one that its fields tell
pub told : (K capacity : ℕ) (page : List ℕ) (b : BucketOf K) → K ≤ 4 → capacity ≤ 48 → AreBytes page → SpellsBucket capacity page b → b ≡ bucket_told K page
told K capacity page b few lawful fits s =
    let there = bucket_there K capacity page b few lawful s.lawful s.bytes in
    let d : Record K = record_at K page 0 in
    one_bucket K page (bucket_told K page) b (bucket_stands K page fits (λ i lt. (there.rows i d (omega (arith, lt, there.count))).short)) there

-- each bucket that a page spells stands there, whatever capacity it is spelled for
pub there_of : (K capacity count : ℕ) (page : List ℕ) (b : BucketOf K) → K ≤ 4 → count ≤ 48 → SpellsBucket capacity page b → length b.rows ≡ count → BucketAt K page b
there_of K capacity count page b few many s is =
    let f = s.lawful in
    let fits : IsBucket 48 b = record { number = f.number; turn = f.turn; region = f.region; count = omega (arith, is, many); ascending = f.ascending; keys = f.keys; inside = f.inside; values = f.values } in
    bucket_there K 48 page b few (omega arith) fits s.bytes

-- the records of a bucket that a page spells are those that the page tells
pub rows_are : (K capacity count : ℕ) (page : List ℕ) (b : BucketOf K) → K ≤ 4 → count ≤ 48 → AreBytes page → SpellsBucket capacity page b → length b.rows ≡ count → b.rows ≡ records_at K page 96 count
rows_are K capacity count page b few many fits s is =
    let there = there_of K capacity count page b few many s is in
    let d : Record K = record_at K page 0 in
    let whole : b ≡ bucket_told K page = one_bucket K page (bucket_told K page) b (bucket_stands K page fits (λ i lt. (there.rows i d (omega (arith, lt, there.count))).short)) there in
    ap (λ (c : BucketOf K). c.rows) whole ∙ ap (records_at K page 96) (sym there.count ∙ is)
