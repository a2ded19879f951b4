-- The candidates that were seen so far, and the best of them.
use Rattle.std.specs.Prelude.{ℕ, List, [], ◌∷◌, map, filter, Option}
use Rattle.std.specs.Option.{option_map}
use Rattle.grid_model.specs.Lists.{least}
use Rattle.grid_model.specs.Cuts.{divides, difference, rank}
use Rattle.split_policy.specs.declared.candidate.Candidate.{Candidate}

-- a candidate with the difference of the parts that it makes
abbrev pub measured : List (List ℕ) → ℕ × ℕ → Candidate
measured keys c = record { difference = difference keys c.0 c.1; attribute = c.0; value = c.1 }

-- the rank of a candidate whose difference is known
abbrev pub rank_of : Candidate → List ℕ
rank_of c = c.difference ∷ c.attribute ∷ c.value ∷ []

-- the candidates among numbers of an attribute: those that divide the keys
abbrev pub dividing : List (List ℕ) → ℕ → List ℕ → List (ℕ × ℕ)
dividing keys a numbers = map (λ v. (a, v)) (filter (λ v. divides keys a v) numbers)

-- the candidate of least rank, where there is a candidate
abbrev pub best_of : List (List ℕ) → List (ℕ × ℕ) → Option Candidate
best_of keys candidates = option_map (measured keys) (least (rank keys) candidates)
