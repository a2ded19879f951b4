-- A key beside a region lies outside of it.
use Rattle.std.proofs.Common.{◌≡◌, ◌<◌, ◌+◌, ◌-◌, ℕ, Bool, true, false, cond, List, length, slice_index, slice_set, nat_lt, nat_le, Some, None, sym, refl, ap, ◌∙◌, arith, ltb-true}
use Rattle.std.proofs.lemmas.Bool.{and_left}
use Rattle.std.proofs.lemmas.List.{get_or-set_same, length-set}
use lib.Pointwise.{pointwise}
use Rattle.grid_types.specs.declared.region.Region.{Region}
use Rattle.grid_types.specs.Keys.{top}
use Rattle.grid_types.specs.Regions.{contains}
use Rattle.grid_types.proofs.Each.{fails-last}
use Rattle.grid_types.proofs.Numbers.{one-above}
use Rattle.grid_model.specs.Neighbours.{probe}
use Rattle.grid_model.proofs.Boxes.{one-value, some-not-none}
use Rattle.merge_policy.specs.declared.direction.Direction.{Direction}
use Rattle.merge_policy.specs.declared.direction.Direction.TheVariants.{Below, Above}
use Rattle.merge_policy.specs.Sides.{attribute_of, direction_of}

-- the probe of a direction is no key of the region
pub beside-outside : {K : ℕ} (r : Region K) (d : Direction) (key : List ℕ) → attribute_of d < length r.lo → probe r (direction_of d) ≡ Some key → contains r key ≡ false
beside-outside r (Below a) key p e = by (nat_lt 0 (slice_index r.lo a)) refl e
  where
    by : (t : Bool) → nat_lt 0 (slice_index r.lo a) ≡ t → cond t (Some (slice_set r.lo a (slice_index r.lo a - 1))) None ≡ Some key → contains r key ≡ false
    by true l f =
        let k = slice_set r.lo a (slice_index r.lo a - 1) in
        let here : slice_index k a ≡ slice_index r.lo a - 1 = get_or-set_same r.lo a (slice_index r.lo a - 1) 0 p in
        ap (contains r) (sym (one-value k key f)) ∙ and_left (pointwise nat_le r.lo k) (pointwise nat_le k r.hi) (one-above r.lo k a p (omega (arith, here, ltb-true 0 (slice_index r.lo a) l)))
    by false l f = absurd (some-not-none key (sym f))
beside-outside r (Above a) key p e = by (nat_lt (slice_index r.hi a) top) refl e
  where
    by : (t : Bool) → nat_lt (slice_index r.hi a) top ≡ t → cond t (Some (slice_set r.lo a (slice_index r.hi a + 1))) None ≡ Some key → contains r key ≡ false
    by true l f =
        let k = slice_set r.lo a (slice_index r.hi a + 1) in
        let here : slice_index k a ≡ slice_index r.hi a + 1 = get_or-set_same r.lo a (slice_index r.hi a + 1) 0 p in
        let long : length k ≡ length r.lo = length-set r.lo a (slice_index r.hi a + 1) in
        ap (contains r) (sym (one-value k key f)) ∙ fails-last (pointwise nat_le r.lo k) (pointwise nat_le k r.hi) (one-above k r.hi a (omega (arith, long, p)) (omega (arith, here)))
    by false l f = absurd (some-not-none key (sym f))
