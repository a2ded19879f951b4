-- The parts of a region on both sides of a boundary are regions.
use Rattle.std.proofs.Common.{◌≡◌, ◌<◌, ◌≤◌, ◌-◌, ◌^◌, ◌⊎◌, inl, inr, ℕ, List, length, slice_index, slice_set, nat_lt, nat_le, IsTrue, sym, subst, ◌∙◌, arith, leb-true, ltb-true}
use Rattle.std.proofs.lemmas.Bool.{cases_eq}
use Rattle.std.proofs.lemmas.List.{length-set, get_or-set_same, get_or-set_other}
use Rattle.grid_types.specs.declared.region.Region.{Region}
use Rattle.grid_types.specs.Regions.{IsRegion, is_within, part_below, part_from}
use Rattle.grid_types.proofs.Numbers.{first, second}

-- what a list of numbers with one other number has at a place
pub set-each : (P : ℕ → ℕ → Type 0) (xs : List ℕ) (a v i : ℕ) → a < length xs → P a v → P i (slice_index xs i) → P i (slice_index (slice_set xs a v) i)
set-each P xs a v i inside here there = by (cases_eq i a)
  where
    by : (i ≡ a) ⊎ (i ≡ a → ⊥) → P i (slice_index (slice_set xs a v) i)
    by (inl e) = subst (λ j. P j (slice_index (slice_set xs a v) j)) (sym e) (subst (P a) (sym (get_or-set_same xs a v 0 inside)) here)
    by (inr e) = subst (P i) (sym (get_or-set_other xs a i v 0 e)) there

-- a boundary within a region is above its low bound
pub above-low : {K : ℕ} (r : Region K) (a v : ℕ) → IsTrue (is_within r a v) → slice_index r.lo a < v
above-low r a v w = ltb-true (slice_index r.lo a) v (first (nat_lt (slice_index r.lo a) v) (nat_le v (slice_index r.hi a)) w)

-- and at most its high bound
pub up-to-high : {K : ℕ} (r : Region K) (a v : ℕ) → IsTrue (is_within r a v) → v ≤ slice_index r.hi a
up-to-high r a v w = leb-true v (slice_index r.hi a) (second (nat_lt (slice_index r.lo a) v) (nat_le v (slice_index r.hi a)) w)

module _ {K : ℕ} (r : Region K) (a v : ℕ) (f : IsRegion K r) (l : a < K) (w : IsTrue (is_within r a v)) where
  last : slice_index r.hi a < 2 ^ 64
  last = f.high.in_range a

  in-low : a < length r.lo
  in-low = omega (arith, f.low.count, l)

  in-high : a < length r.hi
  in-high = omega (arith, f.high.count, l)

  -- the part below a boundary is a region
  pub below-region : IsRegion K (part_below r a v)
  below-region = record {
    low = f.low;
    high = record {
      count = length-set r.hi a (v - 1) ∙ f.high.count;
      in_range = λ i. set-each (λ _ x. x < 2 ^ 64) r.hi a (v - 1) i in-high (omega (arith, up-to-high r a v w, last)) (f.high.in_range i);
    };
    not_empty = λ i j. set-each (λ k x. slice_index r.lo k ≤ x) r.hi a (v - 1) i in-high (omega (arith, above-low r a v w)) (f.not_empty i j);
  }

  -- the part from it on is one too
  pub from-region : IsRegion K (part_from r a v)
  from-region = record {
    low = record {
      count = length-set r.lo a v ∙ f.low.count;
      in_range = λ i. set-each (λ _ x. x < 2 ^ 64) r.lo a v i in-low (omega (arith, up-to-high r a v w, last)) (f.low.in_range i);
    };
    high = f.high;
    not_empty = λ i j. set-each (λ k x. x ≤ slice_index r.hi k) r.lo a v i in-low (up-to-high r a v w) (f.not_empty i j);
  }
