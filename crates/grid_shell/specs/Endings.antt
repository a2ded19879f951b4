-- The statuses of the program's endings, and what is told of each.
use Rattle.std.specs.Prelude.{◌≡◌, ◌⊎◌, ◌++◌, ℕ, List, [], codes, decimal, ⊤}
use Rattle.grid_types.specs.declared.refusal.Refusal.{Refusal}
use Rattle.grid_types.specs.declared.refusal.Refusal.TheVariants as refusal
use Rattle.disk_trait.specs.Causes.{Rose}
use Rattle.grid_shell.specs.declared.ending.Ending.{Ending}
use Rattle.grid_shell.specs.declared.ending.Ending.TheVariants.{Done, BadWords, BadScript, ForeignFile, OtherVersion, DamagedFile, OtherArity, WornFile, Damaged, Device, Memory, Refused, Unsure}

-- each ending has its status
abbrev pub status_of : Ending → ℕ
status_of Done = 0
status_of BadWords = 2
status_of (BadScript line) = 3
status_of ForeignFile = 4
status_of (OtherVersion found) = 4
status_of (DamagedFile page) = 4
status_of (OtherArity found) = 4
status_of (WornFile count) = 7
status_of Damaged = 4
status_of Device = 5
status_of Memory = 6
status_of Refused = 7
status_of Unsure = 8

-- the ending where a device has failed too: what ended a run before its first line stays, and so does what is worse
abbrev pub with_fault : Ending → Ending
with_fault Done = Device
with_fault Damaged = Device
with_fault other = other

-- the ending of a file that is not opened, by the refusal
abbrev pub unopened : Refusal → Ending
unopened refusal.NoMemory = Memory
unopened refusal.ReadFault = Device
unopened refusal.WriteFault = Device
unopened (refusal.Unsure faults before) = Unsure
unopened (refusal.Stopped faults opened) = Unsure
unopened (refusal.Full free need) = Refused
unopened (refusal.NoCut cells boundaries) = Refused
unopened (refusal.Damaged page) = DamagedFile page
unopened refusal.Foreign = ForeignFile
unopened (refusal.Version found) = OtherVersion found
unopened refusal.Seats = Refused
unopened refusal.BadShape = Refused
unopened refusal.BadQuery = Refused
unopened (refusal.Worn count) = WornFile count
unopened (refusal.Arity found) = OtherArity found

-- an ending that the lines of a script may make
abbrev pub IsOfLines : Ending → Type 0
IsOfLines Done = ⊤
IsOfLines Damaged = ⊤
IsOfLines Memory = ⊤
IsOfLines Refused = ⊤
IsOfLines Unsure = ⊤
IsOfLines other = ⊥

-- a device ends a run: as it ended before, where it counted no failure, and else with the fault
abbrev pub EndsBeside : Ending → (before after : ℕ) → Ending → Type 0
EndsBeside e before after now = ((now ≡ e) × (after ≡ before)) ⊎ ((now ≡ with_fault e) × Rose before after)

-- a line that names a number
abbrev pub numbered_line : List ℕ → ℕ → List ℕ
numbered_line words n = words ++ (decimal n ++ codes "\n")

-- what is told of an ending on the error sink
abbrev pub error_text : Ending → List ℕ
error_text BadWords = codes "grid: words\n"
error_text (BadScript line) = numbered_line (codes "grid: script line ") line
error_text ForeignFile = codes "grid: foreign\n"
error_text (OtherVersion found) = numbered_line (codes "grid: version ") found
error_text (DamagedFile page) = numbered_line (codes "grid: damaged page ") page
error_text (OtherArity found) = numbered_line (codes "grid: arity ") found
error_text (WornFile count) = numbered_line (codes "grid: worn ") count
error_text Device = codes "grid: device\n"
error_text Memory = codes "grid: memory\n"
error_text other = []
