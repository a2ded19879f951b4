-- The data pages that a table area names are named pages of the file, and stay where those do.
use Rattle.std.proofs.Common.{◌≡◌, ◌<◌, ◌==◌, ◌||◌, ◌++◌, ℕ, Bool, true, false, not, List, [], ◌∷◌, length, get_or, slice_index, Contains, refl, sym, ap, subst, ◌∙◌, arith, true≢false}
use Rattle.std.specs.Option.{is_some}
use Rattle.std.proofs.lemmas.Bool.{or_right}
use Rattle.std.proofs.lemmas.List.{get_or_default}
use Rattle.std.proofs.lemmas.List.Elements.{All-contains}
use Rattle.grid_types.specs.declared.shape.Shape.{Shape}
use Rattle.grid_types.specs.FilePages.{DataPage}
use Rattle.grid_model.specs.Lists.{is_among, below}
use Rattle.grid_model.specs.Layouts.{Layout}
use Rattle.grid_model.specs.Spellings.{RootFields, BucketOf}
use Rattle.grid_model.specs.Tables.{Table}
use Rattle.grid_model.specs.Lawful.{Area, IsAreaOf, pages_named, nowhere}
use Rattle.grid_model.specs.Buckets.{SpellsBucket}
use Rattle.grid_model.specs.Images.{numbers_of, entry_page, HasBuckets, PagesSpell, bucket_on}
use Rattle.grid_model.proofs.Members.{contains-filter, contains-from-filter, contains-from-range, contains-map, among-from-contains, contains-among}
use Rattle.grid_model.proofs.Numbered.{found-among}
use Rattle.file_images.specs.Free.{DiffersInFreePages}

among-left : (xs ys : List ℕ) (n : ℕ) → is_among xs n ≡ true → is_among (xs ++ ys) n ≡ true
among-left [] ys n h = absurd (true≢false (sym h))
among-left (x ∷ xs) ys n h = by (x == n) h (among-left xs ys n)
  where
    by : (b : Bool) → (b || is_among xs n) ≡ true → (is_among xs n ≡ true → is_among (xs ++ ys) n ≡ true) → (b || is_among (xs ++ ys) n) ≡ true
    by true h rest = refl
    by false h rest = rest h

among-right : (xs ys : List ℕ) (n : ℕ) → is_among ys n ≡ true → is_among (xs ++ ys) n ≡ true
among-right [] ys n h = h
among-right (x ∷ xs) ys n h = or_right (x == n) (is_among (xs ++ ys) n) (among-right xs ys n h)

-- an entry of a list stands in it
pub entry-there : (xs : List ℕ) (i : ℕ) → i < length xs → Contains xs (slice_index xs i)
entry-there xs i lt = (i, lt, get_or_default xs i (slice_index xs i) 0 lt)

-- the page of a bucket number is one that the table names
pub named-by-number : (table : List ℕ) (n : ℕ) → Contains (numbers_of table) n → is_among (pages_named table) (slice_index table n) ≡ true
named-by-number table n there =
    let numbered = contains-from-filter (λ i. not (slice_index table i == nowhere)) (below (length table)) n there in
    let inside = contains-from-range 0 (length table) n numbered.0 in
    among-from-contains (pages_named table) (slice_index table n)
    (contains-filter (λ p. not (p == nowhere)) table (slice_index table n) (entry-there table n (omega (arith, inside.1))) numbered.1)

module _ (s : Shape) (r : RootFields) (a : Area) (c d : List ℕ) (lawful : IsAreaOf s r a) (differs : DiffersInFreePages s a c d) where
  -- a named data page is the same
  named-stays : (entries : List ℕ) (i : ℕ) → is_among (a.parts ++ pages_named a.table) (slice_index entries i) ≡ true → entry_page s d entries i ≡ entry_page s c entries i
  named-stays entries i named =
      let small : slice_index entries i < s.pages = All-contains (λ p. p < s.pages) (a.parts ++ pages_named a.table) (slice_index entries i) lawful.pages (contains-among (a.parts ++ pages_named a.table) (slice_index entries i) named) in
      differs.same (DataPage (slice_index entries i)) small named

  -- the page of a directory part is the same
  pub part-stays : (p : ℕ) → p < length a.parts → entry_page s d a.parts p ≡ entry_page s c a.parts p
  part-stays p lt = named-stays a.parts p (among-left a.parts (pages_named a.table) (slice_index a.parts p) (among-from-contains a.parts (slice_index a.parts p) (entry-there a.parts p lt)))

  -- so is the page of a bucket
  pub bucket-stays : (n : ℕ) → Contains (numbers_of a.table) n → entry_page s d a.table n ≡ entry_page s c a.table n
  bucket-stays n there = named-stays a.table n (among-right a.parts (pages_named a.table) (slice_index a.table n) (named-by-number a.table n there))

  -- the buckets stay
  pub buckets-stay : {K : ℕ} (bs : List (BucketOf K)) → HasBuckets s c a.table bs → HasBuckets s d a.table bs
  buckets-stay {K} bs has = record {
    numbers = has.numbers;
    each = λ i b lt.
        let x = get_or bs i b in
        let there : Contains (numbers_of a.table) x.number = subst (λ ns. Contains ns x.number) has.numbers (contains-map (λ (y : BucketOf K). y.number) bs x (i, lt, get_or_default bs i x b lt)) in
        subst (λ page. SpellsBucket s.capacity page x) (sym (bucket-stays x.number there)) (has.each i b lt);
  }

  -- and so does what the pages spell
  pub pages-stay : {K : ℕ} (L : Layout K) (t : Table) → PagesSpell s c a.parts a.table L t → PagesSpell s d a.parts a.table L t
  pages-stay {K} L t spell = record {
    count = spell.count;
    directory = λ p lt. part-stays p (omega (arith, lt, spell.count)) ∙ spell.directory p lt;
    numbers = spell.numbers;
    buckets = λ m b there.
        let numbered : Contains (numbers_of a.table) m = contains-among (numbers_of a.table) m (ap (λ ns. is_among ns m) (sym spell.numbers) ∙ found-among L.boxes m (ap is_some there)) in
        subst (λ page. SpellsBucket s.capacity page (bucket_on t (m, b))) (sym (bucket-stays m numbered)) (spell.buckets m b there);
  }
