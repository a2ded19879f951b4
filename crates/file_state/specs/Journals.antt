-- The used slots of the halves of the journal.
use Rattle.std.specs.Prelude.{ℕ, zero, suc}
use Rattle.file_state.specs.declared.memory.Journal.{Journal}

-- how many slots of a half are used
abbrev pub used_slots : Journal → ℕ → ℕ
used_slots j zero = j.first_used
used_slots j (suc h) = j.second_used

-- the journal with so many used slots of a half
abbrev pub with_slots : Journal → ℕ → ℕ → Journal
with_slots j zero n = record j { first_used = n }
with_slots j (suc h) n = record j { second_used = n }

-- the other half
abbrev pub other_number : ℕ → ℕ
other_number zero = 1
other_number (suc h) = 0
