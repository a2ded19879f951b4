use Rattle.std.proofs.Common.{◌∙◌, sym, arith}
use Rattle.disk_memory.specs.Past.{Synced}
use Rattle.disk_memory.proofs.Changes.{either_past, either_room, synced_same, synced_only, elapses_either}
use Rattle.disk_memory.proofs.CallsAhead.{room_after}
use Rattle.disk_memory.proofs.memory.MemoryDisk.sync.Goals as goal

pub invariant_of-self : goal.invariant_of-self
invariant_of-self c = record {
  kept = c.args.self.now.kept;
  room = room_after _ _ _ _ c.is_next_chosen.ensures.counted c.args.self.now.room (omega arith);
}

pub invariant_of-self-2 : goal.invariant_of-self-2
invariant_of-self-2 c = record {
  kept = c.args.self.now.kept ∙ sym (synced_same _ _ (either_past _ _ Synced c.record_sync.ensures.recorded));
  room = room_after _ _ _ _ c.is_next_chosen.ensures.counted c.args.self.now.room (omega (arith, either_room _ _ Synced c.record_sync.ensures.recorded));
}

pub returns-clause-durable : goal.returns-clause-durable
returns-clause-durable c = synced_only _ _ (either_past _ _ Synced c.record_sync.ensures.recorded) c.record_sync.ensures.clean

pub returns-clause-time : goal.returns-clause-time
returns-clause-time c = elapses_either _ _ Synced (either_past _ _ Synced c.record_sync.ensures.recorded)
