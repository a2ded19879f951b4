use Rattle.std.proofs.Common.{◌∙◌, ap, arith}
use Rattle.grid_types.specs.Pages.{page_of}
use Rattle.disk_memory.proofs.Ranges.{page_slice}
use Rattle.disk_memory.proofs.CallsAhead.{room_after}
use Rattle.disk_memory.proofs.memory.MemoryDisk.read.Goals as goal

pub invariant_of-self : goal.invariant_of-self
invariant_of-self g c = record {
  kept = c.args.self.now.kept;
  room = room_after _ _ _ _ c.is_next_chosen.ensures.counted c.args.self.now.room (omega arith);
}

pub returns-clause-bytes : goal.returns-clause-bytes
returns-clause-bytes g c = c.copy_from_slice.ensures.after ∙ page_slice c.deref.result.now c.args.page ∙ ap (page_of c.args.page) (c.deref.ensures.value ∙ c.args.self.now.kept)
