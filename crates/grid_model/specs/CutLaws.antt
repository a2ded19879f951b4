-- What the definitions of the least and of cuts promise.
use Rattle.std.specs.Prelude.{◌≡◌, ◌↔◌, ◌<◌, ℕ, List, [], true, false, map, slice_index, slice_get, length, Some, None, Contains, IsTrue}
use Rattle.grid_types.specs.declared.shape.Shape.{Shape}
use Rattle.grid_types.specs.declared.layout_change.Cut.{Cut}
use Rattle.grid_types.specs.Regions.{is_within}
use Rattle.grid_model.specs.Lists.{least, ranks_below, is_among}
use Rattle.grid_model.specs.Scales.{scale_of}
use Rattle.grid_model.specs.Layouts.{BucketBox}
use Rattle.grid_model.specs.Cuts.{cut, divides, may_grow, rank, cycle}

-- an item stands at an index, and each one in front of it ranks above it
pub record IsFirstAt {X : Type 0} (rank : X → List ℕ) (xs : List X) (x : X) : Type 0 where
  pub index : ℕ
  pub there : slice_get xs index ≡ Some x
  pub before : (i : ℕ) (y : X) → i < index → slice_get xs i ≡ Some y → IsTrue (ranks_below (rank x) (rank y))

-- the least of some items is one of them, none of them ranks below it, it is the first of its rank, and there is none only where there are no items
pub record HasLeast (X : Type 0) : Type 0 where
  pub one : (rank : X → List ℕ) (xs : List X) (x : X) → least rank xs ≡ Some x → Contains xs x
  pub none_below : (rank : X → List ℕ) (xs : List X) (x y : X) → least rank xs ≡ Some x → Contains xs y → ranks_below (rank y) (rank x) ≡ false
  pub first : (rank : X → List ℕ) (xs : List X) (x : X) → least rank xs ≡ Some x → IsFirstAt rank xs x
  pub none : (rank : X → List ℕ) (xs : List X) → least rank xs ≡ None → xs ≡ []

-- a candidate: an existing boundary of an attribute that lies within the box's region and divides the keys
pub record IsCandidate {K : ℕ} (scales : List (List ℕ)) (b : BucketBox K) (keys : List (List ℕ)) (a v : ℕ) : Type 0 where
  pub attribute : a < length scales
  pub boundary : IsTrue (is_among (scale_of scales a) v)
  pub within : IsTrue (is_within b.region a v)
  pub divides : IsTrue (divides keys a v)

-- a value at which an attribute may be refined: a key has it, it divides the keys, and the limits are kept
pub record IsValue (shape : Shape) (scales keys : List (List ℕ)) (a v : ℕ) : Type 0 where
  pub attribute : a < length scales
  pub grows : IsTrue (may_grow shape scales a)
  pub value : IsTrue (is_among (map (λ k. slice_index k a) keys) v)
  pub divides : IsTrue (divides keys a v)

-- a cut at an existing boundary is the candidate of least rank
pub record IsBestOld {K : ℕ} (scales : List (List ℕ)) (b : BucketBox K) (keys : List (List ℕ)) (c : Cut) : Type 0 where
  pub candidate : IsCandidate scales b keys c.attribute c.value
  pub best : (a v : ℕ) → IsCandidate scales b keys a v → ranks_below (rank keys (a, v)) (rank keys (c.attribute, c.value)) ≡ false

-- a cut at a new boundary is made where there is no candidate: in the first attribute in cyclic order that has such a value, at the value of least rank
pub record IsBestNew {K : ℕ} (shape : Shape) (scales : List (List ℕ)) (b : BucketBox K) (keys : List (List ℕ)) (c : Cut) : Type 0 where
  pub no_candidate : (a v : ℕ) → IsCandidate scales b keys a v → ⊥
  pub value : IsValue shape scales keys c.attribute c.value
  pub best : (v : ℕ) → IsValue shape scales keys c.attribute v → ranks_below (rank keys (c.attribute, v)) (rank keys (c.attribute, c.value)) ≡ false
  pub first : (j v : ℕ) → slice_index (cycle (length scales) b.turn) j ≡ c.attribute → ((i : ℕ) → i < j → slice_index (cycle (length scales) b.turn) i ≡ c.attribute → ⊥)
      → j < length scales → (i : ℕ) → i < j → IsValue shape scales keys (slice_index (cycle (length scales) b.turn) i) v → ⊥

-- a cut is the best candidate, else the best value of the first attribute that has one, and there is none exactly where there is neither a candidate nor a value
pub record CutsBest (K : ℕ) : Type 0 where
  pub old : (shape : Shape) (scales : List (List ℕ)) (b : BucketBox K) (keys : List (List ℕ)) (c : Cut) → cut shape scales b keys ≡ Some c → c.fresh ≡ false → IsBestOld scales b keys c
  pub new : (shape : Shape) (scales : List (List ℕ)) (b : BucketBox K) (keys : List (List ℕ)) (c : Cut) → cut shape scales b keys ≡ Some c → c.fresh ≡ true → IsBestNew shape scales b keys c
  pub none : (shape : Shape) (scales : List (List ℕ)) (b : BucketBox K) (keys : List (List ℕ))
      → (cut shape scales b keys ≡ None) ↔ ((a v : ℕ) → (IsCandidate scales b keys a v → ⊥) × (IsValue shape scales keys a v → ⊥))
