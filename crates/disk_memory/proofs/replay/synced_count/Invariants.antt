use Rattle.std.proofs.Common.{◌≡◌, ◌-◌, length, map, take}
use Rattle.disk_memory.specs.Events.{change_of}
use Rattle.disk_memory.specs.OnDisk.{up_to_sync}
use Rattle.disk_memory.proofs.replay.synced_count.Given as goal

abbrev pub invariant-loop-back : goal.invariant-loop-back
invariant-loop-back l = up_to_sync (map change_of (take (length l.events - l.back) l.events)) ≡ up_to_sync (map change_of l.events)
