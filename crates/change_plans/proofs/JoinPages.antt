-- When the box that has a key joins with another one after the key is removed, and the page that they then have.
use Rattle.std.proofs.Common.{◌≡◌, ◌≤◌, ◌+◌, ◌*◌, ◌/◌, ℕ, true, ◌&&◌, List, [], ◌∷◌, map, length, min, nat_le, sym, ap, ◌∙◌, arith, leb-true}
use Rattle.std.specs.declared.cmp.Ordering.{Ordering}
use Rattle.std.specs.declared.cmp.Ordering.TheVariants.{Less, Equal, Greater}
use Rattle.std.specs.FinMap.Entries.{by_order}
use Rattle.std.proofs.lemmas.List.{length-map}
use Rattle.grid_types.specs.declared.key.Key.{Key}
use Rattle.grid_types.specs.declared.layout_change.LayoutChange.TheVariants as note
use Rattle.grid_types.specs.declared.owner.Owner.TheVariants.{Bucket}
use Rattle.grid_types.specs.declared.shape.Shape.{Shape}
use Rattle.grid_types.specs.declared.update.Record.{Record}
use Rattle.grid_types.specs.declared.update.Update.TheVariants.{Remove}
use Rattle.grid_types.specs.Keys.{key_cmp}
use Rattle.grid_types.specs.Regions.{make_a_box}
use Rattle.grid_types.proofs.Numbers.{second}
use Rattle.grid_model.specs.Buckets.{SpellsBucket}
use Rattle.grid_model.specs.Images.{bucket_on}
use Rattle.grid_model.specs.Layouts.{BucketBox, Layout}
use Rattle.grid_model.specs.Lone.{record_of}
use Rattle.grid_model.specs.Neighbours.{can_join}
use Rattle.grid_model.specs.Notes.{after_note_at}
use Rattle.grid_model.specs.Spellings.{BucketOf}
use Rattle.grid_model.specs.Tables.{Table, pair_of, pairs_of, with_data, without, effect}
use Rattle.history_pages.specs.OwnerPages.{owner_page}
use Rattle.bucket_page.specs.Changing.{without_key, with_all, joined_buckets}
use Rattle.change_plans.specs.Plans.{may_join, IsPageOf, IsPageBeside, IsMergeRemove}
use Rattle.change_plans.proofs.Buckets.{count-on, without-on, other-on, merged}
use Rattle.change_plans.proofs.Pages.{page-of}

-- a put adds one entry at most
one-more : (t : Table) (k d : List ℕ) → length (with_data t k d) ≤ length t + 1
one-more [] k d = omega arith
one-more (e ∷ t) k d = by (key_cmp k e.0) (one-more t k d)
  where
    by : (o : Ordering) → length (with_data t k d) ≤ length t + 1 → length (by_order o ((k, d) ∷ e ∷ t) ((e.0, d) ∷ t) (e ∷ with_data t k d)) ≤ length (e ∷ t) + 1
    by Less rest = omega arith
    by Equal rest = omega arith
    by Greater rest = omega (arith, rest)

-- and puts of records as many as they are
all-more : {K : ℕ} (t : Table) (rows : List (Record K)) → length (with_all t rows) ≤ length t + length rows
all-more t [] = omega arith
all-more t (r ∷ rows) = let rest = all-more (with_data t r.key.numbers r.value) rows in let one = one-more t r.key.numbers r.value in omega (arith, rest, one)

-- two buckets have no more records together than each by itself
pub joined-count : {K : ℕ} (b c : BucketOf K) → length (joined_buckets b c).rows ≤ length b.rows + length c.rows
joined-count {K} b c =
    let all = all-more (pairs_of b.rows) c.rows in
    let made : length (map (record_of {K = K}) (with_all (pairs_of b.rows) c.rows)) ≡ length (with_all (pairs_of b.rows) c.rows) = length-map (with_all (pairs_of b.rows) c.rows) (record_of {K = K}) in
    let pairs : length (pairs_of b.rows) ≡ length b.rows = length-map b.rows pair_of in
    omega (arith, all, made, pairs)

-- what is asked of two regions and a number of records is what is asked of the buckets
pub joinable-is : {K : ℕ} (capacity n : ℕ) (x y b c : BucketOf K) → n ≡ length x.rows + length y.rows → x ≡ b → y ≡ c → (make_a_box x.box.region y.box.region && nat_le n (7 * capacity / 10)) ≡ may_join capacity b c
joinable-is capacity n x y b c count p q = ap (λ m. make_a_box x.box.region y.box.region && nat_le m (7 * capacity / 10)) count ∙ (λ i. may_join capacity (p i) (q i))

-- two buckets that may be joined have room in one
pub joined-fits : {K : ℕ} (capacity n : ℕ) (x y z : BucketOf K) → n ≡ length x.rows + length y.rows → (make_a_box x.box.region y.box.region && nat_le n (7 * capacity / 10)) ≡ true → z ≡ joined_buckets x y → length z.rows ≤ capacity
joined-fits capacity n x y z count may made =
    let few = leb-true n (7 * capacity / 10) (second (make_a_box x.box.region y.box.region) (nat_le n (7 * capacity / 10)) may) in
    let most = joined-count x y in
    omega (arith, ap (λ b. length b.rows) made, most, count, few)

module _ {K : ℕ} (shape : Shape) (L : Layout K) (t : Table) (k : List ℕ) (e f : ℕ × BucketBox K) (from others : List ℕ) (n : ℕ) (h : IsPageOf shape L t k e from n) (g : IsPageBeside shape L t e f others) where
  -- both buckets over the table without the key
  both : may_join shape.capacity (without_key (bucket_on t e) k) (bucket_on t f) ≡ may_join shape.capacity (bucket_on (without t k) e) (bucket_on (without t k) f)
  both = λ i. may_join shape.capacity (sym (without-on t e k h.stands.table) i) (sym (other-on shape L t k e f.0 f.1 h.stands h.holds g.there g.differ) i)

  -- the buckets may be joined where the regions can be
  pub joins-so : may_join shape.capacity (without_key (bucket_on t e) k) (bucket_on t f) ≡ can_join shape (without t k) e.1.region f.1.region
  joins-so = both ∙ (λ i. make_a_box e.1.region f.1.region && nat_le (count-on (without t k) e i + count-on (without t k) f i) (7 * shape.capacity / 10))

-- the page of both buckets is the new one
pub merge-page : {K : ℕ} (shape : Shape) (L : Layout K) (t : Table) (k : Key K) (e f : ℕ × BucketBox K) (from others : List ℕ) (n c low : ℕ) (bytes : List ℕ) → IsPageOf shape L t k.numbers e from n → IsPageBeside shape L t e f others → make_a_box e.1.region f.1.region ≡ true
    → low ≡ min e.0 f.0 → SpellsBucket c bytes (joined_buckets (without_key (bucket_on t e) k.numbers) (bucket_on t f)) → IsMergeRemove L t k e f.0 low bytes
unfolding effect
merge-page shape L t k e f from others n c low bytes h g make number s =
    let M = after_note_at L e (note.Merge f.0) in
    let there = merged shape L t k.numbers e f.0 f.1 h.stands h.holds g.there g.differ make in
    record { number = number; page = ap (λ i. owner_page M (effect t (Remove k)) (Bucket i)) number ∙ page-of M (effect t (Remove k)) (min e.0 f.0) c (joined_buckets (without_key (bucket_on t e) k.numbers) (bucket_on t f)) bytes there s }
