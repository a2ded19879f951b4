-- What a disk in memory tells.
use Rattle.std.specs.Prelude.{◌≡◌, ◌⊎◌, ℕ, List, [], ◌∷◌, Bool, true, length, Result, OnOk, OnErr}
use Rattle.disk_trait.specs.declared.disk.Disk.{Ghosts}
use Rattle.disk_trait.specs.Bay.{TellsAll}
use Rattle.disk_trait.specs.Moments.{AgreesOutside, Elapses, SameImages}
use Rattle.disk_memory.specs.declared.memory.Memory.{Memory}
use Rattle.disk_memory.specs.Past.{contents_now, HadBeen}
use Rattle.disk_memory.specs.OnDisk.{on_disk}
use Rattle.disk_memory.specs.Plans.{counted}

-- it tells its content
abbrev pub is_told : Memory → Bool
is_told m = true

-- what reads give
abbrev pub reads_of : Memory → List ℕ
reads_of m = (contents_now m.history.past).bytes

-- the ranges written since the last sync, each its start and its length
abbrev pub dirty_of : Memory → List (ℕ × ℕ)
dirty_of m = (contents_now m.history.past).dirty

-- what is on the disk for good: what reads gave at the last sync
abbrev pub on_disk_of : Memory → List ℕ
on_disk_of m = on_disk m.history.past

-- how many bytes it has
abbrev pub extent_of : Memory → ℕ
extent_of m = length (reads_of m)

-- a crash now leaves what reads give, but for the ranges written since the last sync
abbrev pub MayLeave : Memory → List ℕ → Type 0
MayLeave m image = AgreesOutside (dirty_of m) (reads_of m) image

-- how many changes there were
abbrev pub moment_of : Memory → ℕ
moment_of m = length m.history.past.changes

-- a crash since that moment might have left this image
abbrev pub LeftSince : Memory → ℕ → List ℕ → Type 0
LeftSince m t image = HadBeen m.history.past t image

-- how many reads have failed
abbrev pub failed_reads : Memory → ℕ
failed_reads m = m.reads

-- how many writes and syncs have failed
abbrev pub failed_writes : Memory → ℕ
failed_writes m = m.writes

-- which calls are to fail, each counted from the next one on
abbrev pub chosen_of : Memory → List ℕ
chosen_of m = m.plan

-- what a disk in memory is as a disk
abbrev pub as_disk : Ghosts Memory
as_disk = record { honest = is_told; extent = extent_of; seen = reads_of; may_leave = MayLeave; moment = moment_of; left_since = LeftSince; read_count = failed_reads; write_count = failed_writes }

-- one disk tells all that another tells
abbrev pub TellsSame : Memory → Memory → Type 0
TellsSame m n = TellsAll as_disk m n

-- time goes on from one state of a disk to another
abbrev pub TimeGoesOn : Memory → Memory → Type 0
TimeGoesOn old new = Elapses moment_of LeftSince MayLeave old new

-- a disk holds what it held: reads give the same, a crash leaves the same, and the same ranges were written since the last sync
pub record HoldsSame (old new : Memory) : Type 0 where
  pub seen : reads_of new ≡ reads_of old
  pub crash : SameImages (MayLeave old) (MayLeave new)
  pub dirty : dirty_of new ≡ dirty_of old

-- a read that fails is counted, and nothing else is
pub record CountsRead {T E : Type 0} (old new : Memory) (result : Result T E) : Type 0 where
  pub reads : failed_reads new ≡ counted result (failed_reads old)
  pub writes : failed_writes new ≡ failed_writes old

-- a write or a sync that fails is counted, and nothing else is
pub record CountsWrite {T E : Type 0} (old new : Memory) (result : Result T E) : Type 0 where
  pub writes : failed_writes new ≡ counted result (failed_writes old)
  pub reads : failed_reads new ≡ failed_reads old

-- the range of a write was written since the last sync, and so was that of one which is to tear; any other that fails adds none
pub record AddsRange {T E : Type 0} (tears : Type 0) (at n : ℕ) (old new : Memory) (result : Result T E) : Type 0 where
  pub written : OnOk result (dirty_of new ≡ (at, n) ∷ dirty_of old)
  pub torn : tears → dirty_of new ≡ (at, n) ∷ dirty_of old
  pub failed : OnErr result (tears ⊎ (dirty_of new ≡ dirty_of old))

-- no range was written since a sync; after one that fails they are those from before
pub record ClearsRanges {T E : Type 0} (old new : Memory) (result : Result T E) : Type 0 where
  pub clean : OnOk result (dirty_of new ≡ [])
  pub failed : OnErr result (dirty_of new ≡ dirty_of old)

-- reads of a new disk give this image, no crash has ever left anything else, no call has failed and none is to fail
pub record IsNewMemory (image : List ℕ) (m : Memory) : Type 0 where
  pub bytes : reads_of m ≡ image
  pub clean : dirty_of m ≡ []
  pub always : (t : ℕ) (c : List ℕ) → LeftSince m t c → c ≡ image
  pub no_read_failed : failed_reads m ≡ 0
  pub no_write_failed : failed_writes m ≡ 0
  pub none_chosen : chosen_of m ≡ []
