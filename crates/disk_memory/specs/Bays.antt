-- What a bay in memory has under its names.
use Rattle.std.specs.Prelude.{◌≡◌, ◌≢◌, ◌⊎◌, ◌+◌, ◌-◌, ◌^◌, min, ℕ, List, [], ◌∷◌, Option, Some, None, Bool, if◌then◌else◌, string_bytes, Result, OnOk, OnErr}
use Rattle.std.specs.Str.{bytes_eq}
use Rattle.disk_trait.specs.Bay.{BayPlace, Absent, Out, Home}
use Rattle.disk_memory.specs.declared.memory.Memory.{Memory}
use Rattle.disk_memory.specs.declared.bay.Entry.{Entry}
use Rattle.disk_memory.specs.declared.bay.MemoryBay.{MemoryBay}
use Rattle.disk_memory.specs.Memories.{failed_reads, failed_writes}
use Rattle.disk_memory.specs.Plans.{after_a_call, counted}

-- whether an entry has this name
abbrev pub is_named : List ℕ → Entry → Bool
is_named name e = bytes_eq (string_bytes e.name) name

-- an entry without its disk is that of a disk that is out
abbrev pub place_of_disk : Option Memory → BayPlace Memory
place_of_disk None = Out
place_of_disk (Some d) = Home d

-- of several entries with a name the first counts
abbrev pub place_among : List Entry → List ℕ → BayPlace Memory
place_among [] name = Absent
place_among (e ∷ es) name = (if is_named name e then place_of_disk e.disk else place_among es name)

-- what a bay has under a name
abbrev pub place_of : MemoryBay → List ℕ → BayPlace Memory
place_of b name = place_among b.entries.items name

-- how often a bay has failed
abbrev pub failures_of : MemoryBay → ℕ
failures_of b = b.failures

-- which calls of a bay are to fail, each counted from the next one on
abbrev pub chosen_calls : MemoryBay → List ℕ
chosen_calls b = b.plan

-- a bay counts a failure unless the name is its cause; where the name is, it counts none; and the plan counts the call
pub record CountsUnlessNamed {T E : Type 0} (named : Type 0) (old new : MemoryBay) (result : Result T E) : Type 0 where
  pub uncounted : OnOk result (failures_of new ≡ failures_of old)
  pub other : OnErr result ((named → ⊥) → failures_of new ≡ counted result (failures_of old))
  pub by_name : named → failures_of new ≡ failures_of old
  pub nearer : chosen_calls new ≡ after_a_call (chosen_calls old)

-- a close counts a failure where it fails, and one where calls of its disk have failed, but never two; and the plan counts the call
pub record CountsClose {T E : Type 0} (disk : Memory) (old new : MemoryBay) (result : Result T E) : Type 0 where
  pub sound : failed_reads disk ≡ 0 → failed_writes disk ≡ 0 → failures_of new ≡ counted result (failures_of old)
  pub faulty : (failed_reads disk ≢ 0) ⊎ (failed_writes disk ≢ 0) → failures_of new ≡ min (failures_of old + 1) (2 ^ 64 - 1)
  pub nearer : chosen_calls new ≡ after_a_call (chosen_calls old)

-- nothing under any name changed
abbrev pub SamePlaces : MemoryBay → MemoryBay → Type 0
SamePlaces old new = (name : List ℕ) → place_of new name ≡ place_of old name

-- nothing lies under a name
abbrev pub HasNoDisk : BayPlace Memory → Type 0
HasNoDisk place = (d : Memory) → place ≢ Home d
