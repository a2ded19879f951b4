-- What a disk behind a fuse tells, and what is kept of it at a crash.
use Rattle.std.specs.Prelude.{◌≡◌, ◌≢◌, ◌-◌, ℕ, List}
use Rattle.disk_memory.specs.declared.memory.Memory.{Memory}
use Rattle.disk_memory.specs.declared.fused.Fused.{Fused}
use Rattle.disk_memory.specs.declared.keep.Keep.{Keep}
use Rattle.disk_memory.specs.declared.keep.Keep.TheVariants as keep
use Rattle.disk_memory.specs.OnDisk.{IsInside, IsOther}
use Rattle.disk_memory.specs.Plans.{after_a_call}
use Rattle.disk_memory.specs.Memories.{reads_of, dirty_of, on_disk_of, chosen_of, TellsSame}

-- the disk behind the fuse
abbrev pub disk_of : Fused → Memory
disk_of f = f.disk

-- how many calls are still made
abbrev pub calls_left : Fused → ℕ
calls_left f = f.left

-- one disk is as another: it tells the same, the same ranges were written since its last sync, and the same calls are to fail
pub record IsAs (m n : Memory) : Type 0 where
  pub tells : TellsSame m n
  pub dirty : dirty_of m ≡ dirty_of n
  pub chosen : chosen_of m ≡ chosen_of n

-- a fuse lets one call less through; a call that it stops leaves the disk as it was, and the plan counts only those that it lets through
pub record LetsOneLess (old new : Fused) : Type 0 where
  pub left : calls_left new ≡ calls_left old - 1
  pub stopped : calls_left old ≡ 0 → IsAs (disk_of new) (disk_of old)
  pub nearer : calls_left old ≢ 0 → chosen_of (disk_of new) ≡ after_a_call (chosen_of (disk_of old))

-- what is kept of a disk: what reads give, or what was on the disk at the last sync, or what differs from both wherever something was written since
abbrev pub IsKept : Keep → Memory → List ℕ → Type 0
IsKept keep.All m image = image ≡ reads_of m
IsKept keep.None m image = image ≡ on_disk_of m
IsKept keep.Changed m image = (i : ℕ) → IsInside (dirty_of m) i → IsOther (reads_of m) (on_disk_of m) image i
