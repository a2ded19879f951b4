use Rattle.std.proofs.Common.{◌∙◌, ap}
use Rattle.disk_memory.specs.declared.bay.Entry.{Entry}
use Rattle.disk_memory.specs.Bays.{place_among}
use Rattle.disk_memory.proofs.Places.{has_name, other_name, place_push, other_push}
use Rattle.disk_memory.proofs.bay.MemoryBay.add_entry.Goals as goal

pub returns-clause-added : goal.returns-clause-added
returns-clause-added c =
    let e : Entry = record { name = c.in_ok-name.name; disk = c.args.disk } in
    ap (λ es. place_among es c.args.name.now) c.in_ok-push.ensures.items ∙ place_push c.args.self.now.entries.items c.args.name.now e c.requires (has_name e c.args.name.now c.in_ok-name.ensures.ok)

pub returns-clause-others : goal.returns-clause-others
returns-clause-others c = λ other apart.
    let e : Entry = record { name = c.in_ok-name.name; disk = c.args.disk } in
    ap (λ es. place_among es other) c.in_ok-push.ensures.items ∙ other_push c.args.self.now.entries.items other e (other_name e c.args.name.now other (has_name e c.args.name.now c.in_ok-name.ensures.ok) apart)
