-- The keys of a region, its parts, and what it makes with another one or has in common with a query.
use Rattle.std.specs.Prelude.{ℕ, ◌≤◌, ◌<◌, ◌+◌, ◌-◌, List, Bool, ◌&&◌, ◌||◌, ◌==◌, nat_le, nat_lt, min, max, map, length, slice_index, slice_set, IsTrue}
use Rattle.std.specs.List.{range_with_len, list_any}
use lib.Pointwise.{pointwise}
use Rattle.grid_types.specs.declared.query.Side.{Side}
use Rattle.grid_types.specs.declared.region.Region.{Region}
use Rattle.grid_types.specs.Lists.{zip_with}
use Rattle.grid_types.specs.Keys.{IsKey}
use Rattle.grid_types.specs.Queries.{begin_of, end_of, matches}

-- a key lies within a region where each of its numbers lies between the two bounds of its attribute, both included
abbrev pub Within : List ℕ → List ℕ → List ℕ → Type 0
Within lo hi at = (a : ℕ) → a < length at → (slice_index lo a ≤ slice_index at a) × (slice_index at a ≤ slice_index hi a)

-- a region contains a key where no low bound is above the key's number, and none of these above the high bound
abbrev pub contains : {K : ℕ} → Region K → List ℕ → Bool
contains r at = pointwise nat_le r.lo at && pointwise nat_le at r.hi

-- a region has a low and a high bound for each attribute, and is not empty
pub record IsRegion (K : ℕ) (r : Region K) : Type 0 where
  pub low : IsKey K r.lo
  pub high : IsKey K r.hi
  pub not_empty : (a : ℕ) → a < K → slice_index r.lo a ≤ slice_index r.hi a

-- a boundary lies within a region where the numbers on both sides of it are the region's
abbrev pub is_within : {K : ℕ} → Region K → ℕ → ℕ → Bool
is_within r a v = nat_lt (slice_index r.lo a) v && nat_le v (slice_index r.hi a)

-- the part of a region below a boundary in an attribute
abbrev pub part_below : {K : ℕ} → Region K → ℕ → ℕ → Region K
part_below r a v = record { lo = r.lo; hi = slice_set r.hi a (v - 1) }

-- the part of a region from a boundary on
abbrev pub part_from : {K : ℕ} → Region K → ℕ → ℕ → Region K
part_from r a v = record { lo = slice_set r.lo a v; hi = r.hi }

-- two lists are the same but at a place
abbrev pub same_but : ℕ → List ℕ → List ℕ → Bool
same_but a xs ys = pointwise ◌==◌ (slice_set xs a 0) (slice_set ys a 0)

-- one of two intervals begins where the other ends
abbrev pub one_follows : ℕ → ℕ → ℕ → ℕ → Bool
one_follows lo hi lo2 hi2 = (hi + 1 == lo2) || (hi2 + 1 == lo)

-- two regions touch along an attribute: they are the same in all others, and in this one the one begins where the other ends
abbrev pub touch_along : {K : ℕ} → Region K → Region K → ℕ → Bool
touch_along r s a = same_but a r.lo s.lo && (same_but a r.hi s.hi && one_follows (slice_index r.lo a) (slice_index r.hi a) (slice_index s.lo a) (slice_index s.hi a))

-- two regions together are a box
abbrev pub make_a_box : {K : ℕ} → Region K → Region K → Bool
make_a_box r s = list_any (touch_along r s) (range_with_len 0 (length r.lo))

-- the least region that has the keys of both
abbrev pub hull : {K : ℕ} → Region K → Region K → Region K
hull r s = record { lo = zip_with min r.lo s.lo; hi = zip_with max r.hi s.hi }

-- a region meets the sides of a query where, in each attribute, it does not begin above the greatest number that is asked for, nor end below the least
abbrev pub meets : {K : ℕ} → Region K → List Side → Bool
meets r sides = pointwise nat_le r.lo (map end_of sides) && pointwise nat_le (map begin_of sides) r.hi

-- a region and a query have a key in common
pub record HaveKeyInCommon {K : ℕ} (r : Region K) (sides : List Side) : Type 0 where
  pub key : List ℕ
  pub is_key : IsKey K key
  pub inside : IsTrue (contains r key)
  pub asked : IsTrue (matches sides key)
