-- How many buckets and records there are after a change, and its scales.
use Rattle.std.proofs.Common.{◌≡◌, ◌≢◌, ◌≤◌, ◌+◌, ◌*◌, ◌==◌, ℕ, min, max, Bool, true, false, cond, not, T, List, length, Some, None, IsSome, is_some, refl, sym, ap, subst, ◌∙◌, arith, nat_le, nat_cmp, leb-true, leb-false, eqb-true, All}
use Rattle.std.specs.Cmp.{nat_cmp_total}
use Rattle.std.specs.Cmp.Lexicographic.{nat_list_cmp_total}
use Rattle.std.specs.FinMap.{nat_cmp-IsAntisymmetric}
use Rattle.std.specs.FinMap.Entries.{find, put, where_key, is_sorted, find-where_key, is_sorted-where_key, length-put, length_without}
use Rattle.std.proofs.lemmas.List.Sums.{sum_by-le}
use Rattle.grid_types.specs.declared.layout_change.LayoutChange.{LayoutChange}
use Rattle.grid_types.specs.declared.layout_change.LayoutChange.TheVariants as note
use Rattle.grid_types.specs.declared.shape.Shape.{Shape}
use Rattle.grid_types.specs.declared.update.Update.{Update}
use Rattle.grid_types.specs.declared.update.Update.TheVariants.{Put, Remove}
use Rattle.grid_types.specs.Keys.{key_cmp}
use Rattle.grid_model.specs.Tables.{Table, IsTable, get, with_data, without, effect}
use Rattle.grid_model.specs.Layouts.{BucketBox, Layout, box, records_inside}
use Rattle.grid_model.specs.LayoutLaws.{StandsOver}
use Rattle.grid_model.specs.Notes.{IsLawfulNote, after_note_at, joined, together}
use Rattle.grid_model.proofs.Ascending.{each-found}
use Rattle.grid_model.proofs.CutBoxes.{length-split}
use Rattle.grid_model.proofs.Numbered.{put-there, without-one}
use Rattle.grid_model.proofs.Summed.{records_in_all, all-counted}
use Rattle.history_pages.specs.PageLaws.{IsChange}
use Rattle.history_pages.proofs.Changes.{box-there}
use Rattle.history_pages.proofs.Cutting.{CutsBox, lawful-cut, scales-of-split}
use Rattle.history_pages.proofs.Joining.{JoinsBox, lawful-join, after-join}
use Rattle.file_books.specs.declared.record_change.RecordChange.TheVariants.{More, Same}
use Rattle.file_books.specs.Effects.{records_after, buckets_after, scales_after_change}
use Rattle.file_standing.specs.Steps.{record_change}

-- a layout has no more records than its buckets hold
pub records-fit : {K : ℕ} (shape : Shape) (L : Layout K) (t : Table) → StandsOver shape L t → length t ≤ length L.boxes * shape.capacity
records-fit {K} shape L t h =
    let each : All (λ (e : ℕ × BucketBox K). find nat_cmp e.0 L.boxes ≡ Some e.1) L.boxes = each-found nat_cmp nat_cmp_total nat_cmp-IsAntisymmetric L.boxes h.sound.numbered in
    let few : records_in_all t L.boxes ≤ length L.boxes * shape.capacity = sum_by-le (λ (e : ℕ × BucketBox K). length (records_inside t e.1.region)) shape.capacity L.boxes (λ i d l. h.sound.room _ _ (each i d l)) in
    subst (λ (n : ℕ). n ≤ length L.boxes * shape.capacity) (all-counted shape L t h) few

-- how many records there are after an update
pub records-counted : {K : ℕ} (shape : Shape) (L : Layout K) (t : Table) (u : Update K) (n : LayoutChange) (most : ℕ) → IsTable t → IsLawfulNote shape L t u n → length (effect t u) ≤ most → length (effect t u) ≡ records_after most (length t) (record_change t u)
unfolding effect
records-counted shape L t (Put r) n most table lawful few = by (is_some (get t r.key.numbers)) (length-put key_cmp nat_list_cmp_total r.key.numbers r.value t table)
  where
    by : (b : Bool) → length (with_data t r.key.numbers r.value) ≡ cond b (length t) (length t + 1) → length (with_data t r.key.numbers r.value) ≡ records_after most (length t) (cond b Same More)
    by true is = omega (arith, is, few)
    by false is = omega (arith, is, few)
records-counted shape L t (Remove k) n most table lawful few =
    let all : cond true 1 0 + length (without t k.numbers) ≡ length t = ap (λ (b : Bool). cond b 1 0 + length (without t k.numbers)) (sym lawful.0) ∙ length_without key_cmp nat_list_cmp_total k.numbers t table in
    omega (arith, all, few)

-- two boxes that are joined are one fewer
module _ {K : ℕ} (L : Layout K) (n : ℕ) (b : BucketBox K) (m : ℕ) (o : BucketBox K) (there : box L n ≡ Some b) (other : box L m ≡ Some o) (differ : n ≢ m) (sorted : T (is_sorted nat_cmp L.boxes)) where
  rest : List (ℕ × BucketBox K)
  rest = where_key nat_cmp (λ x. not (x == max n m)) L.boxes

  lower-there : IsSome (box L (min n m))
  lower-there = by (nat_le n m) refl
    where
      by : (t : Bool) → nat_le n m ≡ t → IsSome (box L (min n m))
      by true e = let low = leb-true n m e in ap (λ i. is_some (box L i)) (omega (arith, low)) ∙ ap is_some there
      by false e = let low = leb-false n m e in ap (λ i. is_some (box L i)) (omega (arith, low)) ∙ ap is_some other

  higher-there : IsSome (box L (max n m))
  higher-there = by (nat_le n m) refl
    where
      by : (t : Bool) → nat_le n m ≡ t → IsSome (box L (max n m))
      by true e = let low = leb-true n m e in ap (λ i. is_some (box L i)) (omega (arith, low)) ∙ ap is_some other
      by false e = let low = leb-false n m e in ap (λ i. is_some (box L i)) (omega (arith, low)) ∙ ap is_some there

  apart : (min n m == max n m) ≡ false
  apart = by (min n m == max n m) refl
    where
      by : (t : Bool) → (min n m == max n m) ≡ t → t ≡ false
      by true e = absurd (differ (omega (arith, eqb-true (min n m) (max n m) e)))
      by false e = refl

  left-there : IsSome (find nat_cmp (min n m) rest)
  unfolding rest
  left-there = ap is_some (find-where_key nat_cmp (λ x. not (x == max n m)) (min n m) (λ x e. ap (λ y. not (y == max n m)) (sym (nat_cmp-IsAntisymmetric (min n m) x e))) L.boxes ∙ ap (λ t. cond (not t) (box L (min n m)) None) apart) ∙ lower-there

  one-fewer : length (joined L n b m o).boxes + 1 ≡ length L.boxes
  unfolding joined rest
  one-fewer =
      let kept : length (put nat_cmp (min n m) (together b o) rest) ≡ length rest = put-there (min n m) (together b o) rest (is_sorted-where_key nat_cmp (λ x. not (x == max n m)) L.boxes sorted) left-there in
      omega (arith, kept, without-one (max n m) L.boxes sorted higher-there)

module _ {K : ℕ} (shape : Shape) (L : Layout K) (t : Table) (u : Update K) (e : ℕ × BucketBox K) where
  -- how many buckets there are after a change
  pub buckets-counted : (n : LayoutChange) → IsChange shape L t u n e → length (after_note_at L e n).boxes ≡ buckets_after (length L.boxes) n
  buckets-counted note.Plain h = refl
  buckets-counted (note.Cut c right) h =
      let is : CutsBox L e.1 c right = lawful-cut shape L t u e c right h.stands h.lawful h.holds in
      length-split L e.0 e.1 c right (box-there shape L t u (note.Cut c right) e h).0 is.free h.stands.sound.numbered
  buckets-counted (note.Merge m) h =
      let is : JoinsBox shape L (effect t u) e.0 e.1 m = lawful-join shape L t u e m h.stands h.lawful h.holds in
      let one : length (joined L e.0 e.1 m is.other).boxes + 1 ≡ length L.boxes = one-fewer L e.0 e.1 m is.other (box-there shape L t u (note.Merge m) e h).0 is.beside is.differ h.stands.sound.numbered in
      omega (arith, ap (λ (M : Layout K). length M.boxes) (after-join shape L (effect t u) e m is), one)

-- and its scales
pub scales-counted : {K : ℕ} (L : Layout K) (e : ℕ × BucketBox K) (n : LayoutChange) → (after_note_at L e n).scales ≡ scales_after_change L.scales n
unfolding joined
scales-counted L e note.Plain = refl
scales-counted L e (note.Cut c right) = scales-of-split L e.0 e.1 c right
scales-counted L e (note.Merge m) = refl
