-- Pages in memory, for the tests.
use Rattle.std.specs.Prelude.{ℕ, ◌+◌, List, [], ◌∷◌, Option}
use Rattle.std.specs.List.{slice_get}
use Rattle.grid_types.specs.declared.owner.Owner.{Owner}
use Rattle.grid_types.specs.declared.owner.Owner.TheVariants.{Bucket, Part}

-- directory parts stand in the pages of their numbers, and buckets from page 100 on
abbrev pub page_in_memory : Owner → ℕ
page_in_memory (Part p) = p
page_in_memory (Bucket n) = n + 100

-- a reading gives the page of the one directory part, and the pages of buckets by their numbers
abbrev pub given_in_memory : List ℕ → List (List ℕ) → Owner → Option (List ℕ)
given_in_memory directory buckets (Part p) = slice_get (directory ∷ []) p
given_in_memory directory buckets (Bucket n) = slice_get buckets n
