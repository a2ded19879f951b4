-- The neighbours of a box, and those that it may be joined with.
use Rattle.std.specs.Prelude.{ℕ, ◌+◌, ◌-◌, ◌*◌, ◌/◌, List, [], ◌∷◌, Bool, ◌&&◌, length, nat_lt, nat_le, if◌then◌else◌, slice_index, slice_set, flat_map, filter_map, Option, Some, None}
use Rattle.std.specs.Option.{option_and_then}
use Rattle.grid_types.specs.declared.region.Region.{Region}
use Rattle.grid_types.specs.declared.shape.Shape.{Shape}
use Rattle.grid_types.specs.Keys.{top}
use Rattle.grid_types.specs.Regions.{make_a_box}
use Rattle.grid_model.specs.Lists.{below}
use Rattle.grid_model.specs.Tables.{Table}
use Rattle.grid_model.specs.Layouts.{BucketBox, Layout, holder, records_inside}

-- a side of a region: below or above it in an attribute
pub data Direction : Type 0 where
  Below : (attribute : ℕ) → Direction
  Above : (attribute : ℕ) → Direction

-- the directions of an attribute, below before above
abbrev pub directions_of : ℕ → List Direction
directions_of a = Below a ∷ Above a ∷ []

-- the directions of a region, attributes ascending
abbrev pub directions : ℕ → List Direction
directions K = flat_map directions_of (below K)

-- the lowest corner, moved to one below the low bound or one above the high bound; none at the end of the numbers
abbrev pub probe : {K : ℕ} → Region K → Direction → Option (List ℕ)
probe r (Below a) = if nat_lt 0 (slice_index r.lo a) then Some (slice_set r.lo a (slice_index r.lo a - 1)) else None
probe r (Above a) = if nat_lt (slice_index r.hi a) top then Some (slice_set r.lo a (slice_index r.hi a + 1)) else None

-- the neighbour on a side: the box that has the moved corner, with its number
abbrev pub neighbour : {K : ℕ} → Layout K → Region K → Direction → Option (ℕ × BucketBox K)
neighbour L r side = option_and_then (holder L) (probe r side)

-- two regions hold at most seven tenths of a bucket's records together
abbrev pub fit_together : {K : ℕ} → Shape → Table → Region K → Region K → Bool
fit_together shape t r s = nat_le (length (records_inside t r) + length (records_inside t s)) (7 * shape.capacity / 10)

-- a region joins with a box where both are a box and fit together
abbrev pub can_join : {K : ℕ} → Shape → Table → Region K → Region K → Bool
can_join shape t r s = make_a_box r s && fit_together shape t r s

-- the number of a box that the region joins with
abbrev pub if_joins : {K : ℕ} → Shape → Table → Region K → ℕ × BucketBox K → Option ℕ
if_joins shape t r e = if can_join shape t r e.1.region then Some e.0 else None

-- the number of the neighbour on a side, where it joins
abbrev pub joins : {K : ℕ} → Shape → Layout K → Table → Region K → Direction → Option ℕ
joins shape L t r side = option_and_then (if_joins shape t r) (neighbour L r side)

-- the numbers of the neighbours that join, by directions, where the table is the one after the removal
unfoldable pub partners : {K : ℕ} → Shape → Layout K → Table → Region K → List ℕ
partners shape L t r = filter_map (joins shape L t r) (directions (length r.lo))
