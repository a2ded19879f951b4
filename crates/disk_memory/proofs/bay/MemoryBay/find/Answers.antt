use Rattle.std.proofs.Common.{◌∙◌, ap}
use Rattle.std.specs.List.{position}
use Rattle.disk_memory.specs.Bays.{is_named}
use Rattle.disk_memory.proofs.Places.{found_or_absent}
use Rattle.disk_memory.proofs.bay.MemoryBay.find.Goals as goal

pub returns-clause-absent : goal.returns-clause-absent
returns-clause-absent c = found_or_absent c.args.self.now.entries.items c.args.name.now c.first_with_name.result (c.first_with_name.ensures ∙ ap (position (is_named c.args.name.now)) c.deref.ensures.value)
