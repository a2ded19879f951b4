-- Worked rows of what an image stands for: gates, batches that join, numbers of buckets, and records put together.
use Rattle.std.proofs.Common.{◌≡◌, ℕ, List, [], ◌∷◌, fold, refl, ap, arith, length}
use Rattle.grid_types.specs.declared.layout_change.LayoutChange.TheVariants as note
use Rattle.grid_types.specs.declared.layout_change.LoggedUpdate.{LoggedUpdate}
use Rattle.grid_types.specs.declared.update.Update.TheVariants.{Put, Remove}
use Rattle.grid_model.specs.Tables.{Table}
use Rattle.grid_model.specs.Lawful.{nowhere}
use Rattle.grid_model.specs.Spellings.{LoggedBatch, BucketOf}
use Rattle.grid_model.specs.Computing.{computing}
use Rattle.grid_model.specs.Images.{open_slots, written_slots, of_session, Join, numbers_of, AreRecordsOf, logged_effect}

-- a put without a note, and a removal
abbrev put : ℕ → ℕ → LoggedUpdate 1
put key value = record { update = Put (record { key = record { numbers = key ∷ [] }; value = value ∷ [] }); note = note.Plain }

abbrev remove : ℕ → LoggedUpdate 1
remove key = record { update = Remove (record { numbers = key ∷ [] }); note = note.Plain }

abbrev batch : ℕ → ℕ → List (LoggedUpdate 1) → LoggedBatch 1
batch session first updates = record { session = session; first = first; updates = updates }

-- a gate is open where it is 1, those of the first half come first
open-row : open_slots (record { first = 1 ∷ 0 ∷ 1 ∷ 7 ∷ []; second = 0 ∷ 1 ∷ [] }) ≡ (0, 0) ∷ (0, 2) ∷ (1, 1) ∷ []
unfolding computing
open-row = refl

-- a slot counts as written up to the last gate that is not 0, whatever stands before it
written-row : written_slots (record { first = 1 ∷ 0 ∷ 7 ∷ 0 ∷ []; second = 0 ∷ 0 ∷ [] }) ≡ (0, 0) ∷ (0, 1) ∷ (0, 2) ∷ []
unfolding computing
written-row = refl

-- batches of other sessions, lower and higher, are left out
session-row : of_session 2 (batch 1 1 [] ∷ batch 2 5 [] ∷ batch 3 1 [] ∷ batch 2 1 [] ∷ []) ≡ batch 2 5 [] ∷ batch 2 1 [] ∷ []
unfolding computing
session-row = refl

abbrev one : LoggedBatch 1
one = batch 1 5 (put 1 1 ∷ [])

abbrev three : LoggedBatch 1
three = batch 1 6 (put 2 2 ∷ put 3 3 ∷ remove 1 ∷ [])

abbrev behind_a_gap : LoggedBatch 1
behind_a_gap = batch 1 10 (put 4 4 ∷ [])

abbrev rooted : LoggedBatch 1
rooted = batch 1 4 (put 5 5 ∷ [])

-- from place 4 on two batches join, up to place 8: the one at place 4 is the root's already, and place 9 has none
join-row : Join (behind_a_gap ∷ three ∷ rooted ∷ one ∷ []) 4 (one ∷ three ∷ []) 8
unfolding computing
join-row = (refl, (refl, (refl, refl)))

-- a batch that joins is not left out
join-goes-on : Join (three ∷ one ∷ []) 4 (one ∷ []) 5 → ⊥
unfolding computing
join-goes-on h = absurd cc

-- of two that join at one place the first is taken
join-first : Join (batch 1 5 (put 7 7 ∷ []) ∷ one ∷ []) 4 (batch 1 5 (put 7 7 ∷ []) ∷ []) 5
unfolding computing
join-first = (refl, (refl, refl))

-- a bucket has a number where the table names a page for it
numbers-row : numbers_of (7 ∷ nowhere ∷ 3 ∷ nowhere ∷ []) ≡ 0 ∷ 2 ∷ []
unfolding computing nowhere
numbers-row = refl

-- later updates change what earlier ones left
updates-row : fold logged_effect [] (put 2 1 ∷ put 1 9 ∷ put 2 2 ∷ remove 1 ∷ []) ≡ ((2 ∷ []), (2 ∷ [])) ∷ []
unfolding computing
updates-row = refl

abbrev bucket : ℕ → ℕ → ℕ → BucketOf 1
bucket number key value = record { number = number; box = record { region = record { lo = 0 ∷ []; hi = 9 ∷ [] }; turn = 0 }; rows = record { key = record { numbers = key ∷ [] }; value = value ∷ [] } ∷ [] }

-- the records of buckets, put together, are in the order of their keys
records-row : AreRecordsOf (bucket 0 5 1 ∷ bucket 1 3 2 ∷ []) (((3 ∷ []), (2 ∷ [])) ∷ ((5 ∷ []), (1 ∷ [])) ∷ [])
unfolding computing
records-row = record { all = refl; once = refl }

-- where one key stands in two buckets there is no table
key-in-two-buckets : (t : Table) → AreRecordsOf (bucket 0 3 1 ∷ bucket 1 3 1 ∷ []) t → ⊥
unfolding computing
key-in-two-buckets t are = absurd (omega (arith, are.once, ap length are.all))
