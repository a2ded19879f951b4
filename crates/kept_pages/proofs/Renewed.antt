-- The owners whose page a change replaces, or who vanish, and those that stay rooted.
use Rattle.std.proofs.Common.{◌≡◌, ℕ, ◌+◌, ◌==◌, List, [], ◌∷◌, ◌++◌, Bool, true, false, ◌&&◌, ◌||◌, cond, refl, sym, ◌∙◌, ap, filter, length, not, min, max, eqb-true, arith}
use Rattle.std.specs.List.{list_any}
use Rattle.std.proofs.lemmas.List.Folds.{list_any-append}
use Rattle.std.proofs.lemmas.Map.Views.{any-filter_same}
use Rattle.grid_types.specs.declared.layout_change.LayoutChange.{LayoutChange}
use Rattle.grid_types.specs.declared.layout_change.LayoutChange.TheVariants as note
use Rattle.grid_types.specs.declared.owner.Owner.{Owner}
use Rattle.grid_types.specs.declared.owner.Owner.TheVariants.{Bucket, Part}
use Rattle.grid_types.specs.Owners.{same_owner}
use Rattle.grid_model.specs.Layouts.{BucketBox, Layout}
use Rattle.grid_model.specs.Lists.{is_among}
use Rattle.grid_model.specs.Lone.{Owners, among, outside, how_many, renewed, dropped, parts_of_merge}
use Rattle.grid_model.proofs.Counts.{swap-eq}
use Rattle.history_pages.specs.NewPages.{in_order}
use Rattle.history_pages.specs.OwnerPages.{has_owner}
use Rattle.layout_pages.specs.Steps.{owners_renewed, owners_vanishing}
use Rattle.kept_pages.proofs.Listed.{in-order-has}

-- a change renews its owners in the order in which their pages are written
pub renews-owners : {K : ℕ} (L : Layout K) (e : ℕ × BucketBox K) (n : LayoutChange) → in_order (renewed L e n) ≡ owners_renewed e.0 n (renewed L e n).parts
unfolding renewed
renews-owners L e note.Plain = refl
renews-owners L e (note.Cut c right) = refl
renews-owners L e (note.Merge m) = refl

-- where none vanishes, those that are listed with it are the ones before
none-more : (o : Owner) (os : List Owner) → list_any (same_owner o) (os ++ []) ≡ list_any (same_owner o) os
none-more o [] = refl
none-more o (p ∷ os) = λ i. same_owner o p || none-more o os i

-- what a change drops are the owners that it renews, and those who vanish
pub drops-owners : {K : ℕ} (L : Layout K) (e : ℕ × BucketBox K) (n : LayoutChange) (o : Owner)
    → has_owner (dropped L e n) o ≡ list_any (same_owner o) (owners_renewed e.0 n (renewed L e n).parts ++ owners_vanishing e.0 n)
unfolding renewed dropped
drops-owners L e note.Plain o = sym (none-more o (in_order (renewed L e note.Plain)) ∙ in-order-has (renewed L e note.Plain) o)
drops-owners L e (note.Cut c right) o = sym (none-more o (in_order (renewed L e (note.Cut c right))) ∙ in-order-has (renewed L e (note.Cut c right)) o)
drops-owners L e (note.Merge m) o = by o ∙ sym (list_any-append (same_owner o) (in_order (renewed L e (note.Merge m))) (Bucket (max e.0 m) ∷ []))
  where
    aside : (a b : Bool) → (a || (b || false)) ≡ ((a || false) || (b || false))
    aside true b = refl
    aside false b = refl

    by : (o : Owner) → has_owner (dropped L e (note.Merge m)) o ≡ (list_any (same_owner o) (in_order (renewed L e (note.Merge m))) || list_any (same_owner o) (Bucket (max e.0 m) ∷ []))
    by (Bucket i) = (λ j. swap-eq (min e.0 m) i j || (swap-eq (max e.0 m) i j || false)) ∙ aside (i == min e.0 m) (i == max e.0 m)
        ∙ ap (λ (b : Bool). b || ((i == max e.0 m) || false)) ((λ j. swap-eq i (min e.0 m) j || false) ∙ sym (in-order-has (renewed L e (note.Merge m)) (Bucket i)))
    by (Part i) = none (is_among (parts_of_merge L e m) i) ∙ ap (λ (b : Bool). b || false) (sym (in-order-has (renewed L e (note.Merge m)) (Part i)))
      where
        none : (b : Bool) → b ≡ (b || false)
        none true = refl
        none false = refl

-- an owner is outside of others exactly where it is none of them
pub outside-has : (these those : Owners) (o : Owner) → has_owner (outside these those) o ≡ (not (has_owner these o) && has_owner those o)
outside-has these those (Bucket n) = any-filter_same (λ (m : ℕ). m == n) (λ (m : ℕ). not (is_among these.buckets m)) (not (is_among these.buckets n)) (λ m e. ap (λ (k : ℕ). not (is_among these.buckets k)) (eqb-true m n e)) those.buckets
outside-has these those (Part n) = any-filter_same (λ (m : ℕ). m == n) (λ (m : ℕ). not (is_among these.parts m)) (not (is_among these.parts n)) (λ m e. ap (λ (k : ℕ). not (is_among these.parts k)) (eqb-true m n e)) those.parts

-- numbers that pass a test, and those that do not, are all
parted : (test : ℕ → Bool) (ns : List ℕ) → length (filter test ns) + length (filter (λ n. not (test n)) ns) ≡ length ns
parted test [] = refl
parted test (n ∷ ns) = by (test n) (parted test ns)
  where
    by : (b : Bool) → length (filter test ns) + length (filter (λ m. not (test m)) ns) ≡ length ns → length (cond b (n ∷ filter test ns) (filter test ns)) + length (cond (not b) (n ∷ filter (λ m. not (test m)) ns) (filter (λ m. not (test m)) ns)) ≡ length (n ∷ ns)
    by true rest = omega (arith, rest)
    by false rest = omega (arith, rest)

-- owners that are among others, and those that are outside of them, are all
pub among-outside : (these those : Owners) → how_many (among these those) + how_many (outside these those) ≡ how_many those
among-outside these those = omega (arith, parted (is_among these.buckets) those.buckets, parted (is_among these.parts) those.parts)
