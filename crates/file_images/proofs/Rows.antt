-- Worked rows of what is found in an image: the batches that are taken change the root's table, and no others.
use Rattle.std.proofs.Common.{◌≡◌, ℕ, List, [], ◌∷◌, refl}
use Rattle.grid_types.specs.declared.layout_change.LayoutChange.TheVariants as note
use Rattle.grid_types.specs.declared.layout_change.LoggedUpdate.{LoggedUpdate}
use Rattle.grid_types.specs.declared.update.Update.TheVariants.{Put, Remove}
use Rattle.grid_model.specs.Computing.{computing}
use Rattle.grid_model.specs.Spellings.{LoggedBatch}
use Rattle.grid_model.specs.Tables.{Table}
use Rattle.grid_model.specs.Images.{Found, MakesTable, updates_taken}

abbrev put : ℕ → ℕ → LoggedUpdate 1
put key value = record { update = Put (record { key = record { numbers = key ∷ [] }; value = value ∷ [] }); note = note.Plain }

abbrev remove : ℕ → LoggedUpdate 1
remove key = record { update = Remove (record { numbers = key ∷ [] }); note = note.Plain }

abbrev batch : ℕ → List (LoggedUpdate 1) → LoggedBatch 1
batch first updates = record { session = 1; first = first; updates = updates }

-- the root has the records of keys 1 and 2 at place 4; a batch of two updates joins, and one lies behind a gap
abbrev found : Found 1
found = record {
  shape = record { k = 1; capacity = 2; pages = 64; slots = 8; boundaries = 1000; cells = 1000000 };
  root = record { number = 3; session = 1; front = 4; records = 2; boundaries = 0 ∷ []; parts = 1; buckets = 1 };
  area = record { scales = [] ∷ []; parts = 0 ∷ []; table = 1 ∷ [] };
  gates = record { first = 1 ∷ 1 ∷ []; second = [] };
  batches = batch 9 (put 4 4 ∷ []) ∷ batch 5 (put 1 7 ∷ remove 2 ∷ []) ∷ [];
  taken = batch 5 (put 1 7 ∷ remove 2 ∷ []) ∷ [];
  buckets = [];
  table = ((1 ∷ []), (1 ∷ [])) ∷ ((2 ∷ []), (2 ∷ [])) ∷ [];
}

-- the updates of the batches that are taken, in order
taken-row : updates_taken found ≡ put 1 7 ∷ remove 2 ∷ []
unfolding computing
taken-row = refl

-- they change the root's table
table-row : (image : List ℕ) (n : ℕ) (t : Table) → MakesTable image found n t → t ≡ ((1 ∷ []), (7 ∷ [])) ∷ []
unfolding computing
table-row image n t makes = makes.table
