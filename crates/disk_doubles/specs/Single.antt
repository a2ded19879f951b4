-- What a bay of one name has under it.
use Rattle.std.specs.Prelude.{◌≡◌, ◌≢◌, ◌⊎◌, ℕ, List, Option, Some, None, if◌then◌else◌, string_bytes}
use Rattle.std.specs.Str.{bytes_eq}
use Rattle.disk_trait.specs.declared.disk.Disk.{Ghosts}
use Rattle.disk_trait.specs.Bay.{BayPlace, Absent, Out, Home}
use Rattle.disk_doubles.specs.declared.one_bay.OneBay.{OneBay}

-- the one name, as its bytes
abbrev pub name_of : {D : Type 0} → OneBay D → List ℕ
name_of b = string_bytes b.name

-- a disk lies there, or it is out
abbrev pub place_of_disk : {D : Type 0} → Option D → BayPlace D
place_of_disk None = Out
place_of_disk (Some d) = Home d

-- under its name is its disk, or nothing while that is out; every other name is absent
abbrev pub place_of : {D : Type 0} → OneBay D → List ℕ → BayPlace D
place_of b name = if bytes_eq (name_of b) name then place_of_disk b.disk else Absent

-- how often it has failed
abbrev pub failures_of : {D : Type 0} → OneBay D → ℕ
failures_of b = b.failures

-- a call of a disk has failed
abbrev pub HasFailed : {D : Type 0} → Ghosts D → D → Type 0
HasFailed g d = (g.read_count d ≢ 0) ⊎ (g.write_count d ≢ 0)

-- no disk lies there of which all calls have succeeded
abbrev pub HasNoSoundDisk : {D : Type 0} → Ghosts D → BayPlace D → Type 0
HasNoSoundDisk {D} g place = (d : D) → place ≡ Home d → HasFailed g d
