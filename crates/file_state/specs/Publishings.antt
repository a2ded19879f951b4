-- What the steps of a publication ask.
use Rattle.std.specs.Prelude.{◌<◌, ◌≤◌, ◌+◌, ◌==◌, ℕ, List, [], ◌∷◌, max, min, if◌then◌else◌, slice_index_or, IsTrue, All, ⊤}
use Rattle.grid_types.specs.declared.layout_change.Cut.{Cut}
use Rattle.grid_types.specs.declared.layout_change.LayoutChange.{LayoutChange}
use Rattle.grid_types.specs.declared.layout_change.LayoutChange.TheVariants as note
use Rattle.linear_scales.specs.Limited.{LimitedScale}
use Rattle.linear_scales.specs.Refusals.{TakesBoundary}

-- each number is below this one
abbrev pub AreNumbersBelow : ℕ → List ℕ → Type 0
AreNumbersBelow n numbers = All (λ m. m < n) numbers

-- the numbers of the buckets that vanish by a change of a bucket
abbrev pub buckets_vanishing : ℕ → LayoutChange → List ℕ
buckets_vanishing b note.Plain = []
buckets_vanishing b (note.Cut c right) = []
buckets_vanishing b (note.Merge m) = max b m ∷ []

-- the scale of a cut's attribute takes its boundary
pub record TakesCut (K : ℕ) (scales : List LimitedScale) (c : Cut) : Type 0 where
  pub attribute : c.attribute < K
  pub low : 1 ≤ c.value
  pub takes : (d : LimitedScale) → TakesBoundary (slice_index_or scales c.attribute d) c.value

-- where a change is a cut at a boundary that is called fresh, the scale takes it
abbrev pub TakesNote : (K : ℕ) → List LimitedScale → LayoutChange → Type 0
TakesNote K scales note.Plain = ⊤
TakesNote K scales (note.Cut c right) = IsTrue c.fresh → TakesCut K scales c
TakesNote K scales (note.Merge m) = ⊤

-- a number up to which each bucket number has a page, after a change
abbrev pub unused_after : ℕ → ℕ → LayoutChange → ℕ
unused_after from b note.Plain = from
unused_after from b (note.Cut c right) = if right == from then from + 1 else from
unused_after from b (note.Merge m) = min from (max b m)
