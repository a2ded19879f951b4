-- A cut of a full box: it lies within the box, and each part has room for its records.
use Rattle.std.proofs.Common.{◌≡◌, ◌<◌, ◌≤◌, ◌+◌, ℕ, Bool, true, false, cond, not, ◌&&◌, List, [], ◌∷◌, length, filter, slice_index, Some, refl, sym, ap, ◌∙◌, arith, IsTrue, nat_le, nat_lt, ltb-true, ltb-false, lt-ltb, le-leb, leb-true}
use Rattle.std.proofs.lemmas.Bool.{lt-leb}
use Rattle.std.proofs.lemmas.List.{length-map}
use Rattle.std.proofs.lemmas.List.Filters.{length-filter_both}
use lib.Pointwise.{pointwise}
use Rattle.grid_types.specs.declared.layout_change.Cut.{Cut}
use Rattle.grid_types.specs.declared.region.Region.{Region}
use Rattle.grid_types.specs.declared.shape.Shape.{Shape}
use Rattle.grid_types.specs.Regions.{contains, IsRegion, is_within}
use Rattle.grid_types.proofs.Numbers.{both, first, second, each-at-most, as-long}
use Rattle.grid_types.proofs.Parted.{above-low, up-to-high}
use Rattle.grid_model.specs.Lists.{is_among}
use Rattle.grid_model.specs.Scales.{scale_of}
use Rattle.grid_model.specs.Tables.{Table, with_data}
use Rattle.grid_model.specs.Layouts.{BucketBox, records_inside}
use Rattle.grid_model.specs.Cuts.{cut, divides, left_part, right_part}
use Rattle.grid_model.specs.Notes.{keys_with, left_of, right_of}
use Rattle.grid_model.specs.CutLaws.{CutsBest}
use Rattle.grid_model.proofs.CutRegions.{left-contains, right-contains}
use Rattle.grid_model.proofs.CutScales.{CutsScale}
use Rattle.grid_model.proofs.RegionCounts.{keys_of, filter-both, filter-alike, keys-where, length-where, keys-put, count-put}

-- where some item passes, there is one that does
some_passes : {X : Type 0} (p : X → Bool) (xs : List X) → 0 < length (filter p xs) → (x : X) × (p x ≡ true)
some_passes p [] h = absurd (omega (arith, h))
some_passes {X} p (x ∷ xs) h = by (p x) refl h (some_passes p xs)
  where
    by : (t : Bool) → p x ≡ t → 0 < length (cond t (x ∷ filter p xs) (filter p xs)) → (0 < length (filter p xs) → (y : X) × (p y ≡ true)) → (y : X) × (p y ≡ true)
    by true e h rest = (x, e)
    by false e h rest = rest h

-- a number is below another one or not
other_side : (v x : ℕ) → nat_le v x ≡ not (nat_lt x v)
other_side v x = by (nat_lt x v) refl
  where
    by : (t : Bool) → nat_lt x v ≡ t → nat_le v x ≡ not t
    by true e = lt-leb v x (ltb-true x v e)
    by false e = le-leb v x (ltb-false x v e)

module _ {K : ℕ} (t : Table) (k : List ℕ) (r : Region K) where
  -- the keys of a region, with one more, are the region's
  keys_are : keys_with t r k ≡ filter (contains r) (keys_of (with_data t k []))
  keys_are = keys-where (contains r) (with_data t k [])

  -- those that pass a test
  passing : (p : List ℕ → Bool) → filter p (keys_with t r k) ≡ filter (λ x. contains r x && p x) (keys_of (with_data t k []))
  passing p = ap (filter p) keys_are ∙ filter-both (contains r) p (keys_of (with_data t k []))

  -- a part of a region has as many records after a put as it has keys
  part_length : (s : Region K) (p : List ℕ → Bool) (d : List ℕ) → ((x : List ℕ) → contains s x ≡ (contains r x && p x)) → length (records_inside (with_data t k d) s) ≡ length (filter p (keys_with t r k))
  part_length s p d same =
      length-where (contains s) (with_data t k d)
      ∙ ap (λ ks. length (filter (contains s) ks)) (keys-put k d [] t)
      ∙ ap length (filter-alike (contains s) (λ x. contains r x && p x) (keys_of (with_data t k [])) same ∙ sym (passing p))

  -- a key that passes is the region's
  one_passes : (p : List ℕ → Bool) → 0 < length (filter p (keys_with t r k)) → (x : List ℕ) × ((contains r x && p x) ≡ true)
  one_passes p h = some_passes (λ x. contains r x && p x) (keys_of (with_data t k [])) (let same = ap length (passing p) in omega (arith, same, h))

  -- there is one key more than records, at most
  few_keys : length (keys_with t r k) ≤ length (records_inside t r) + 1
  few_keys = let same : length (keys_with t r k) ≡ length (records_inside (with_data t k []) r) = length-map (records_inside (with_data t k []) r) (λ e. e.0) in let most = count-put (contains r) k [] t in omega (arith, same, most)

  module _ (a v : ℕ) (divided : IsTrue (divides (keys_with t r k) a v)) where
    some_left : 0 < length (left_part (keys_with t r k) a v)
    some_left = ltb-true 0 (length (left_part (keys_with t r k) a v)) (first (nat_lt 0 (length (left_part (keys_with t r k) a v))) (nat_lt 0 (length (right_part (keys_with t r k) a v))) divided)

    some_right : 0 < length (right_part (keys_with t r k) a v)
    some_right = ltb-true 0 (length (right_part (keys_with t r k) a v)) (second (nat_lt 0 (length (left_part (keys_with t r k) a v))) (nat_lt 0 (length (right_part (keys_with t r k) a v))) divided)

    -- the two parts have all keys
    all_keys : length (left_part (keys_with t r k) a v) + length (right_part (keys_with t r k) a v) ≡ length (keys_with t r k)
    all_keys = length-filter_both (λ x. nat_lt (slice_index x a) v) (λ x. nat_le v (slice_index x a)) (λ x. other_side v (slice_index x a)) (keys_with t r k)

    -- what divides the keys of a region lies within it
    divides-within : IsRegion K r → a < K → IsTrue (is_within r a v)
    divides-within region h =
        let below = one_passes (λ x. nat_lt (slice_index x a) v) some_left in
        let above = one_passes (λ x. nat_le v (slice_index x a)) some_right in
        both (nat_lt (slice_index r.lo a) v) (nat_le v (slice_index r.hi a)) (lt-ltb (slice_index r.lo a) v (low below.0 below.1)) (le-leb v (slice_index r.hi a) (high above.0 above.1))
      where
        low : (x : List ℕ) → (contains r x && nat_lt (slice_index x a) v) ≡ true → slice_index r.lo a < v
        low x e =
            let count : length r.lo ≡ K = region.low.count in
            let here : contains r x ≡ true = first (contains r x) (nat_lt (slice_index x a) v) e in
            let most = each-at-most r.lo x a (first (pointwise nat_le r.lo x) (pointwise nat_le x r.hi) here) (omega (arith, count, h)) in
            let least = ltb-true (slice_index x a) v (second (contains r x) (nat_lt (slice_index x a) v) e) in
            omega (arith, most, least)

        high : (x : List ℕ) → (contains r x && nat_le v (slice_index x a)) ≡ true → v ≤ slice_index r.hi a
        high x e =
            let count : length r.hi ≡ K = region.high.count in
            let here : contains r x ≡ true = first (contains r x) (nat_le v (slice_index x a)) e in
            let below_high = second (pointwise nat_le r.lo x) (pointwise nat_le x r.hi) here in
            let long : length x ≡ length r.hi = as-long x r.hi below_high in
            let most = each-at-most x r.hi a below_high (omega (arith, count, long, h)) in
            let least = leb-true v (slice_index x a) (second (contains r x) (nat_le v (slice_index x a)) e) in
            omega (arith, most, least)

-- what a cut of a box is
pub record Cuts {K : ℕ} (shape : Shape) (scales : List (List ℕ)) (b : BucketBox K) (t : Table) (k : List ℕ) (c : Cut) : Type 0 where
  pub attribute : c.attribute < K
  pub within : IsTrue (is_within b.region c.attribute c.value)
  pub scale : CutsScale shape scales c
  pub left : (d : List ℕ) → length (records_inside (with_data t k d) (left_of b c).region) ≤ length (records_inside t b.region)
  pub right : (d : List ℕ) → length (records_inside (with_data t k d) (right_of b c).region) ≤ length (records_inside t b.region)

module _ {K : ℕ} (best : CutsBest K) (shape : Shape) (scales : List (List ℕ)) (b : BucketBox K) (t : Table) (k : List ℕ) (c : Cut) (count : length scales ≡ K) (region : IsRegion K b.region)
    (is : cut shape scales b (keys_with t b.region k) ≡ Some c) where
  in_range : c.attribute < K
  in_range = by c.fresh refl
    where
      by : (f : Bool) → c.fresh ≡ f → c.attribute < K
      by true e = let below : c.attribute < length scales = (best.new shape scales b (keys_with t b.region k) c is e).value.attribute in omega (arith, below, count)
      by false e = let below : c.attribute < length scales = (best.old shape scales b (keys_with t b.region k) c is e).candidate.attribute in omega (arith, below, count)

  divided : IsTrue (divides (keys_with t b.region k) c.attribute c.value)
  divided = by c.fresh refl
    where
      by : (f : Bool) → c.fresh ≡ f → IsTrue (divides (keys_with t b.region k) c.attribute c.value)
      by true e = (best.new shape scales b (keys_with t b.region k) c is e).value.divides
      by false e = (best.old shape scales b (keys_with t b.region k) c is e).candidate.divides

  within : IsTrue (is_within b.region c.attribute c.value)
  within = divides-within t k b.region c.attribute c.value divided region in_range

  -- a fresh boundary is none of the scale: else it would be a candidate
  fresh : c.fresh ≡ true → is_among (scale_of scales c.attribute) c.value ≡ false
  fresh e = by (is_among (scale_of scales c.attribute) c.value) refl
    where
      by : (t : Bool) → is_among (scale_of scales c.attribute) c.value ≡ t → t ≡ false
      by true among =
          absurd ((best.new shape scales b (keys_with t b.region k) c is e).no_candidate c.attribute c.value (record { attribute = omega (arith, in_range, count); boundary = among; within = within; divides = divided }))
      by false among = refl

  -- a cut of a box
  pub cuts : Cuts shape scales b t k c
  cuts = record {
    attribute = in_range;
    within = within;
    scale = record {
      old = λ e. (best.old shape scales b (keys_with t b.region k) c is e).candidate.boundary;
      new = fresh;
      grows = λ e. (best.new shape scales b (keys_with t b.region k) c is e).value.grows;
      above_zero = let above = above-low b.region c.attribute c.value within in omega (arith, above);
      up_to_top = let most = up-to-high b.region c.attribute c.value within in let last = region.high.in_range c.attribute in omega (arith, most, last);
    };
    left = λ d.
        let same = part_length t k b.region (left_of b c).region (λ x. nat_lt (slice_index x c.attribute) c.value) d (λ x. left-contains b c x region in_range within) in
        let some = some_right t k b.region c.attribute c.value divided in
        omega (arith, same, some, total, few);
    right = λ d.
        let same = part_length t k b.region (right_of b c).region (λ x. nat_le c.value (slice_index x c.attribute)) d (λ x. right-contains b c x region in_range within) in
        let some = some_left t k b.region c.attribute c.value divided in
        omega (arith, same, some, total, few);
  }
    where
      total : length (left_part (keys_with t b.region k) c.attribute c.value) + length (right_part (keys_with t b.region k) c.attribute c.value) ≡ length (keys_with t b.region k)
      total = all_keys t k b.region c.attribute c.value divided

      few : length (keys_with t b.region k) ≤ length (records_inside t b.region) + 1
      few = few_keys t k b.region
