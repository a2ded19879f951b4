-- A linear scale is the ascending list of its boundaries, which part the numbers of an attribute into intervals.
use Rattle.std.specs.Prelude.{ℕ, pred, ◌+◌, List, [], ◌∷◌, ◌++◌, Bool, true, ◌&&◌, map, length, nat_lt, nat_le, slice_index, slice_index_or, slice_set, filter}
use Rattle.grid_types.specs.Keys.{top}
use Rattle.grid_model.specs.Lists.{is_among}

-- the scale of an attribute
abbrev pub scale_of : List (List ℕ) → ℕ → List ℕ
scale_of scales a = slice_index_or scales a []

-- each boundary is at least this number, lies above the one before it, and is a number of the attribute
abbrev pub ascends_from : ℕ → List ℕ → Bool
ascends_from low [] = true
ascends_from low (b ∷ bs) = nat_le low b && (nat_le b top && ascends_from (b + 1) bs)

-- boundaries are at least 1 and ascend
abbrev pub is_scale : List ℕ → Bool
is_scale scale = ascends_from 1 scale

-- a value's interval: the number of boundaries that are at most the value
abbrev pub interval : List ℕ → ℕ → ℕ
interval scale v = length (filter (λ b. nat_le b v) scale)

-- there is one interval more than boundaries
abbrev pub intervals : List ℕ → ℕ
intervals scale = length scale + 1

-- an interval begins at 0 or at a boundary
abbrev pub lows : List ℕ → List ℕ
lows scale = 0 ∷ scale

-- and ends below the next boundary or at the top
abbrev pub highs : List ℕ → List ℕ
highs scale = map pred scale ++ top ∷ []

-- the lowest number of an interval
abbrev pub low : List ℕ → ℕ → ℕ
low scale i = slice_index (lows scale) i

-- the highest number of an interval
abbrev pub high : List ℕ → ℕ → ℕ
high scale i = slice_index (highs scale) i

-- two bounds are ends of intervals: the low one begins an interval, and the high one ends one
abbrev pub is_drawn : List ℕ → ℕ → ℕ → Bool
is_drawn scale lo hi = is_among (lows scale) lo && is_among (highs scale) hi

-- the scale with one more boundary
abbrev pub refined : List ℕ → ℕ → List ℕ
refined scale v = filter (λ b. nat_lt b v) scale ++ v ∷ filter (λ b. nat_lt v b) scale

-- the scales with one more boundary in the scale of an attribute
abbrev pub refined_at : List (List ℕ) → ℕ → ℕ → List (List ℕ)
refined_at scales a v = slice_set scales a (refined (scale_of scales a) v)
