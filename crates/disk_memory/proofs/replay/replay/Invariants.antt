use Rattle.std.proofs.Common.{◌≡◌, map, take}
use Rattle.disk_memory.specs.Events.{change_of}
use Rattle.disk_memory.specs.Past.{contents_after}
use Rattle.disk_memory.proofs.replay.replay.Given as goal

abbrev pub invariant-loop-event : goal.invariant-loop-event
invariant-loop-event l = l.all ≡ (contents_after l.initial.all (map change_of (take l.event-index l.events))).bytes
