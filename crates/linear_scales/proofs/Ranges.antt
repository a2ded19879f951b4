-- The range of intervals that meet a side, for each scale.
use Rattle.std.proofs.Common.{◌≡◌, ◌<◌, ◌≤◌, ◌↔◌, ℕ, List, length, map, get_or, slice_index, sym, ap, subst, ◌∙◌, arith}
use Rattle.std.proofs.lemmas.List.{get_or-map, get_or_read, get_or_default, length-map}
use Rattle.grid_types.specs.declared.query.Side.{Side}
use Rattle.grid_types.specs.declared.query.Side.TheVariants.{Any}
use Rattle.grid_types.specs.Queries.{begin_of, end_of}
use Rattle.grid_model.specs.Scales.{interval}
use Rattle.grid_model.specs.Cells.{cell_of}
use Rattle.linear_scales.specs.Limited.{LimitedScale, IsLimited, scales_of}
use Rattle.linear_scales.specs.Sides.{Meets}
use Rattle.linear_scales.proofs.Filling.{cell-filled}

-- two numbers are the lowest and the highest interval of a scale that meet a side
pub record AreRange (s : LimitedScale) (side : Side) (low high : ℕ) : Type 0 where
  pub lawful : IsLimited s
  pub lowest : low ≡ interval s.boundaries (begin_of side)
  pub highest : high ≡ interval s.boundaries (end_of side)
  pub meets : (i : ℕ) → i ≤ length s.boundaries → Meets s.boundaries side i ↔ ((low ≤ i) × (i ≤ high))

-- they are for the scale and the side of an index
abbrev pub AreRanges : List LimitedScale → List Side → ℕ → ℕ → ℕ → Type 0
AreRanges ss sides k low high = (d : LimitedScale) (e : Side) → AreRange (get_or ss k d) (get_or sides k e) low high

-- the ends of the ranges are the cells of the least and the greatest key
pub ends-filled : (f : Side → ℕ) (ss : List LimitedScale) (sides : List Side) (cell : List ℕ) → length sides ≡ length ss → length cell ≡ length ss
    → ((k : ℕ) (d : LimitedScale) (e : Side) → k < length ss → slice_index cell k ≡ interval (get_or ss k d).boundaries (f (get_or sides k e))) → cell ≡ cell_of (scales_of ss) (map f sides)
ends-filled f ss sides cell p q h = cell-filled ss (map f sides) cell (length-map sides f ∙ p) q (λ k d r. by k d (omega (arith, p, r)) r)
  where
    by : (k : ℕ) (d : LimitedScale) → k < length sides → k < length ss → slice_index cell k ≡ interval (get_or ss k d).boundaries (slice_index (map f sides) k)
    by k d r s = h k d Any s ∙ ap (interval (get_or ss k d).boundaries) (sym (get_or-map f sides k Any 0 r))

-- the range that was found for the scale and the side that were read at an index
pub range-read : (ss : List LimitedScale) (sides : List Side) (a : ℕ) (s : LimitedScale) (low high : ℕ) → a < length ss → a < length sides → s ≡ get_or ss a s → AreRange s (get_or sides a Any) low high → AreRanges ss sides a low high
range-read ss sides a s low high p q is h d e =
    subst (λ (x : LimitedScale). AreRange x (get_or sides a e) low high) (get_or_read ss a s p is d)
    (subst (λ (x : Side). AreRange s x low high) (get_or_default sides a Any e q) h)
