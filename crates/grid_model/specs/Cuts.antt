-- Where a full bucket is cut: at an existing boundary, else at a new one.
use Rattle.std.specs.Prelude.{ℕ, ◌+◌, ◌-◌, ◌%◌, List, [], ◌∷◌, Bool, true, false, ◌&&◌, map, length, nat_lt, nat_le, if◌then◌else◌, slice_index, slice_set, filter, flat_map, Option, None}
use Rattle.std.specs.Option.{option_map}
use Rattle.grid_types.specs.declared.region.Region.{Region}
use Rattle.grid_types.specs.declared.shape.Shape.{Shape}
use Rattle.grid_types.specs.declared.layout_change.Cut.{Cut}
use Rattle.grid_types.specs.Regions.{is_within}
use Rattle.grid_model.specs.Lists.{below, least, or_else, first_some, product}
use Rattle.grid_model.specs.Scales.{scale_of}
use Rattle.grid_model.specs.Cells.{dims}
use Rattle.grid_model.specs.Layouts.{BucketBox}

-- the keys below a boundary in an attribute
abbrev pub left_part : List (List ℕ) → ℕ → ℕ → List (List ℕ)
left_part keys a v = filter (λ k. nat_lt (slice_index k a) v) keys

-- the others
abbrev pub right_part : List (List ℕ) → ℕ → ℕ → List (List ℕ)
right_part keys a v = filter (λ k. nat_le v (slice_index k a)) keys

-- a boundary divides the keys where neither part is empty
abbrev pub divides : List (List ℕ) → ℕ → ℕ → Bool
divides keys a v = nat_lt 0 (length (left_part keys a v)) && nat_lt 0 (length (right_part keys a v))

-- by how much one number is above the other
abbrev pub apart_by : ℕ → ℕ → ℕ
apart_by n m = (n - m) + (m - n)

-- by how many keys one part is longer
abbrev pub difference : List (List ℕ) → ℕ → ℕ → ℕ
difference keys a v = apart_by (length (left_part keys a v)) (length (right_part keys a v))

-- the existing boundaries of an attribute that lie within the region and divide the keys
abbrev pub existing_in : {K : ℕ} → List (List ℕ) → Region K → List (List ℕ) → ℕ → List ℕ
existing_in scales r keys a = filter (λ v. is_within r a v && divides keys a v) (scale_of scales a)

-- the candidates of an attribute
abbrev pub candidates_in : {K : ℕ} → List (List ℕ) → Region K → List (List ℕ) → ℕ → List (ℕ × ℕ)
candidates_in scales r keys a = map (λ v. (a, v)) (existing_in scales r keys a)

-- the candidates among the existing boundaries: attribute and boundary
unfoldable pub candidates : {K : ℕ} → List (List ℕ) → Region K → List (List ℕ) → List (ℕ × ℕ)
candidates scales r keys = flat_map (candidates_in scales r keys) (below (length scales))

-- least difference ranks first, then lower attribute, then lower value
abbrev pub rank : List (List ℕ) → ℕ × ℕ → List ℕ
rank keys c = difference keys c.0 c.1 ∷ c.0 ∷ c.1 ∷ []

-- the candidate of least rank
unfoldable pub best_existing : {K : ℕ} → List (List ℕ) → Region K → List (List ℕ) → Option (ℕ × ℕ)
best_existing scales r keys = least (rank keys) (candidates scales r keys)

-- the values of the keys in an attribute that divide them
unfoldable pub dividing_values : List (List ℕ) → ℕ → List ℕ
dividing_values keys a = filter (λ v. divides keys a v) (map (λ k. slice_index k a) keys)

-- the rank of a value of an attribute: least difference first, then lower value
abbrev pub value_rank : List (List ℕ) → ℕ → ℕ → List ℕ
value_rank keys a v = rank keys (a, v)

-- the value of least rank
unfoldable pub best_value : List (List ℕ) → ℕ → Option ℕ
best_value keys a = least (value_rank keys a) (dividing_values keys a)

-- how many cells there are with one more boundary in an attribute
abbrev pub cells_with : List (List ℕ) → ℕ → ℕ
cells_with scales a = product (slice_set (dims scales) a (length (scale_of scales a) + 2))

-- an attribute may have one more boundary where its scale and the cells stay within their limits
unfoldable pub may_grow : Shape → List (List ℕ) → ℕ → Bool
may_grow shape scales a = nat_lt (length (scale_of scales a)) shape.boundaries && nat_le (cells_with scales a) shape.cells

-- the attributes in cyclic order from the turn
abbrev pub cycle : ℕ → ℕ → List ℕ
cycle n turn = map (λ s. (turn + s) % n) (below n)

-- a candidate as a cut at an existing boundary
abbrev pub old_cut : ℕ × ℕ → Cut
old_cut c = record { attribute = c.0; value = c.1; fresh = false }

-- a value as a cut at a new boundary of an attribute
abbrev pub new_cut : ℕ → ℕ → Cut
new_cut a v = record { attribute = a; value = v; fresh = true }

-- the cut at a new boundary of an attribute, where it may grow and some value divides the keys
unfoldable pub refinement : Shape → List (List ℕ) → List (List ℕ) → ℕ → Option Cut
refinement shape scales keys a = if may_grow shape scales a then option_map (new_cut a) (best_value keys a) else None

-- the refinements, in cyclic order from the turn
abbrev pub refinements : Shape → List (List ℕ) → ℕ → List (List ℕ) → List (Option Cut)
refinements shape scales turn keys = map (refinement shape scales keys) (cycle (length scales) turn)

-- the cut of a box whose keys, with the new one, are too many: at the best existing boundary, else at the first refinement
unfoldable pub cut : {K : ℕ} → Shape → List (List ℕ) → BucketBox K → List (List ℕ) → Option Cut
cut shape scales b keys = or_else (option_map old_cut (best_existing scales b.region keys)) (first_some (refinements shape scales b.turn keys))
