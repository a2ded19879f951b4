-- What a change of a layout does to its owners: it renews some and drops others, and the pages are counted.
use Rattle.std.proofs.Common.{◌≡◌, ◌≢◌, ◌<◌, ◌≤◌, ◌+◌, ◌==◌, ◌||◌, ℕ, min, max, Bool, true, false, cond, not, T, List, [], ◌∷◌, filter, length, Some, None, IsSome, IsTrue, refl, sym, ap, ◌∙◌, arith, true≢false, nat_le, nat_cmp, leb-true, leb-false, eqb-true, eq-eqb, slice_set}
use Rattle.std.proofs.lemmas.List.FromFn.{length-range_with_len}
use Rattle.std.specs.FinMap.{nat_cmp-IsAntisymmetric}
use Rattle.std.specs.Option.{is_some}
use Rattle.std.specs.Cmp.{nat_cmp_total}
use Rattle.std.specs.FinMap.Entries.{find, put, where_key, is_sorted, is_sorted-put, find-put, find-where_key, is_sorted-where_key}
use Rattle.grid_types.specs.declared.layout_change.LayoutChange.TheVariants as note
use Rattle.grid_types.specs.declared.layout_change.Cut.{Cut}
use Rattle.grid_model.specs.Lists.{below, is_among, AreDistinct}
use Rattle.grid_model.specs.Scales.{scale_of, is_scale, refined}
use Rattle.grid_model.specs.Cells.{parts, parts_holding}
use Rattle.grid_model.specs.Layouts.{BucketBox, Layout, box}
use Rattle.grid_model.specs.Notes.{split, joined, left_of, right_of, scales_after, together}
use Rattle.grid_model.specs.LayoutLaws.{IsMerge}
use Rattle.grid_model.specs.Lone.{Owners, among, how_many, renewed, dropped, parts_of_merge}
use Rattle.grid_model.proofs.Counts.{hits-more, few-among, count-absent, few-below, length-part}
use Rattle.grid_model.proofs.Refining.{parts-grow}
use Rattle.grid_model.proofs.Numbered.{put-few, put-there, without-one, cmp-apart}

-- a change of a layout renews owners and drops others: other boxes and parts stay, and there are no more pages than before and the new ones
pub record Swaps {K : ℕ} (L new : Layout K) (drops renews rooted : Owners) : Type 0 where
  pub boxes : (m : ℕ) → is_among drops.buckets m ≡ false → box new m ≡ box L m
  pub stay : (p : ℕ) → p < parts L.scales → is_among drops.parts p ≡ false → p < parts new.scales
  pub total : length new.boxes + parts new.scales + how_many (among drops rooted) ≤ length L.boxes + parts L.scales + how_many renews

-- what is rooted in a layout
pub record IsRooted {K : ℕ} (L : Layout K) (rooted : Owners) : Type 0 where
  pub buckets : (n : ℕ) → IsTrue (is_among rooted.buckets n) → IsSome (box L n)
  pub distinct_buckets : AreDistinct rooted.buckets
  pub parts_there : (p : ℕ) → IsTrue (is_among rooted.parts p) → p < parts L.scales
  pub distinct_parts : AreDistinct rooted.parts

neither-one : (s t : Bool) → (s || (t || false)) ≡ false → (s ≡ false) × (t ≡ false)
neither-one true t e = absurd (true≢false e)
neither-one false true e = absurd (true≢false e)
neither-one false false e = (refl, refl)

unlike : (x y : ℕ) → (x == y) ≡ false → x ≢ y
unlike x y e q = true≢false (sym (eq-eqb x y q) ∙ e)

min-left : (n m : ℕ) → n ≤ m → min n m ≡ n
min-left n m h = omega (arith, h)

min-right : (n m : ℕ) → m < n → min n m ≡ m
min-right n m h = omega (arith, h)

max-left : (n m : ℕ) → m < n → max n m ≡ n
max-left n m h = omega (arith, h)

max-right : (n m : ℕ) → n ≤ m → max n m ≡ m
max-right n m h = omega (arith, h)

-- a plain change renews one box
pub plain-swaps : {K : ℕ} (L : Layout K) (n : ℕ) (rooted : Owners) → IsRooted L rooted → Swaps L L (record { buckets = n ∷ []; parts = [] }) (record { buckets = n ∷ []; parts = [] }) rooted
plain-swaps L n rooted h = record {
  boxes = λ m e. refl;
  stay = λ p l e. l;
  total = omega (arith, few-among (n ∷ []) rooted.buckets h.distinct_buckets, few-among [] rooted.parts h.distinct_parts);
}

-- the parts of a cut: all of the refined directory, or those of the right part
parts-swap : {K : ℕ} (L : Layout K) (rooted : Owners) → IsRooted L rooted → (t : Bool) (new : List (List ℕ)) (held : List ℕ) → (t ≡ false → new ≡ L.scales) → parts L.scales ≤ parts new
    → parts new + length (filter (is_among (cond t (below (parts new)) held)) rooted.parts) ≤ parts L.scales + length (cond t (below (parts new)) held)
parts-swap L rooted h true new held same grow = omega (arith, length-part (is_among (below (parts new))) rooted.parts, few-below (parts L.scales) rooted.parts h.distinct_parts h.parts_there, length-range_with_len 0 (parts new))
parts-swap L rooted h false new held same grow = omega (arith, ap parts (same refl), few-among held rooted.parts h.distinct_parts)

module _ {K : ℕ} (L : Layout K) (n : ℕ) (b : BucketBox K) (c : Cut) (right : ℕ) (rooted : Owners) (there : box L n ≡ Some b) (free : box L right ≡ None) (sorted : T (is_sorted nat_cmp L.boxes)) (h : IsRooted L rooted) where
  left : List (ℕ × BucketBox K)
  left = put nat_cmp n (left_of b c) L.boxes

  -- a cut makes one box more
  one-more : length (split L n b c right).boxes ≤ length L.boxes + 1
  unfolding split left
  one-more = omega (arith, put-few right (right_of b c) left (is_sorted-put nat_cmp nat_cmp_total n (left_of b c) L.boxes sorted), put-there n (left_of b c) L.boxes sorted (ap is_some there))

  -- at most the box that is cut was rooted
  one-hit : length (filter (is_among (n ∷ right ∷ [])) rooted.buckets) ≤ 1
  one-hit = omega (arith, hits-more n (right ∷ []) rooted.buckets, hits-more right [] rooted.buckets, few-among [] rooted.buckets h.distinct_buckets, h.distinct_buckets n, count-absent right rooted.buckets fresh)
    where
      fresh : is_among rooted.buckets right ≡ false
      fresh = by (is_among rooted.buckets right) refl
        where
          by : (t : Bool) → is_among rooted.buckets right ≡ t → t ≡ false
          by true e = absurd (true≢false (sym (h.buckets right e) ∙ ap is_some free))
          by false e = refl

  others : (m : ℕ) → is_among (n ∷ right ∷ []) m ≡ false → box (split L n b c right) m ≡ box L m
  unfolding split left
  others m e =
      find-put nat_cmp nat_cmp_total m right (right_of b c) left
      ∙ ap (λ t. cond t (Some (right_of b c)) (find nat_cmp m left)) (cmp-apart right m (neither-one (n == m) (right == m) e).1)
      ∙ find-put nat_cmp nat_cmp_total m n (left_of b c) L.boxes
      ∙ ap (λ t. cond t (Some (left_of b c)) (box L m)) (cmp-apart n m (neither-one (n == m) (right == m) e).0)

  pub cut-swaps : IsTrue (is_scale (scale_of L.scales c.attribute)) → Swaps L (split L n b c right) (dropped L (n, b) (note.Cut c right)) (renewed L (n, b) (note.Cut c right)) rooted
  unfolding dropped renewed split
  cut-swaps a = record {
    boxes = others;
    stay = λ p l e. omega (arith, l, parts-grow L.scales c a);
    total = omega (arith, one-more, one-hit, parts-swap L rooted h c.fresh (scales_after L.scales c) (parts_holding L.scales (right_of b c).region) (λ e. ap (λ t. cond t (slice_set L.scales c.attribute (refined (scale_of L.scales c.attribute) c.value)) L.scales) e) (parts-grow L.scales c a));
  }

module _ {K : ℕ} (L : Layout K) (n : ℕ) (b : BucketBox K) (m : ℕ) (o : BucketBox K) (rooted : Owners) (there : box L n ≡ Some b) (other : box L m ≡ Some o) (differ : n ≢ m) (sorted : T (is_sorted nat_cmp L.boxes)) (h : IsRooted L rooted) where
  rest : List (ℕ × BucketBox K)
  rest = where_key nat_cmp (λ x. not (x == max n m)) L.boxes

  -- both numbers are among the boxes
  lower-there : IsSome (box L (min n m))
  lower-there = by (nat_le n m) refl
    where
      by : (t : Bool) → nat_le n m ≡ t → IsSome (box L (min n m))
      by true e = ap (λ i. is_some (box L i)) (min-left n m (leb-true n m e)) ∙ ap is_some there
      by false e = ap (λ i. is_some (box L i)) (min-right n m (leb-false n m e)) ∙ ap is_some other

  higher-there : IsSome (box L (max n m))
  higher-there = by (nat_le n m) refl
    where
      by : (t : Bool) → nat_le n m ≡ t → IsSome (box L (max n m))
      by true e = ap (λ i. is_some (box L i)) (max-right n m (leb-true n m e)) ∙ ap is_some other
      by false e = ap (λ i. is_some (box L i)) (max-left n m (leb-false n m e)) ∙ ap is_some there

  one-fewer : length (joined L n b m o).boxes + 1 ≤ length L.boxes
  unfolding joined rest
  one-fewer = omega (arith, without-one (max n m) L.boxes sorted higher-there, put-there (min n m) (together b o) rest (is_sorted-where_key nat_cmp (λ x. not (x == max n m)) L.boxes sorted) kept)
    where
      apart : (min n m == max n m) ≡ false
      apart = by (min n m == max n m) refl
        where
          by : (t : Bool) → (min n m == max n m) ≡ t → t ≡ false
          by true e = absurd (differ (omega (arith, eqb-true (min n m) (max n m) e)))
          by false e = refl

      kept : IsSome (find nat_cmp (min n m) rest)
      kept = ap is_some (find-where_key nat_cmp (λ x. not (x == max n m)) (min n m) (λ x e. ap (λ y. not (y == max n m)) (sym (nat_cmp-IsAntisymmetric (min n m) x e))) L.boxes ∙ ap (λ t. cond (not t) (box L (min n m)) None) apart) ∙ lower-there

  pub merge-swaps : IsMerge L n b m o (joined L n b m o) → Swaps L (joined L n b m o) (dropped L (n, b) (note.Merge m)) (renewed L (n, b) (note.Merge m)) rooted
  unfolding dropped renewed joined
  merge-swaps g = record {
    boxes = λ i e. g.others i (λ q. omega (arith, q, unlike (min n m) i (neither-one (min n m == i) (max n m == i) e).0, unlike (max n m) i (neither-one (min n m == i) (max n m == i) e).1)) (λ q. omega (arith, q, unlike (min n m) i (neither-one (min n m == i) (max n m == i) e).0, unlike (max n m) i (neither-one (min n m == i) (max n m == i) e).1));
    stay = λ p l e. l;
    total = omega (arith, one-fewer, few-among (min n m ∷ max n m ∷ []) rooted.buckets h.distinct_buckets, few-among (parts_of_merge L (n, b) m) rooted.parts h.distinct_parts);
  }
