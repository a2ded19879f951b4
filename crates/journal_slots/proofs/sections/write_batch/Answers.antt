use Rattle.std.proofs.Common.{◌≤◌, ◌*◌, arith, length}
use Rattle.std.proofs.lemmas.Result.{on_ok_weaker}
use Rattle.grid_types.specs.Halves.{half_number}
use Rattle.journal_slots.specs.Batches.{batch_of}
use Rattle.journal_slots.proofs.Stages.{batch_written}
use Rattle.journal_slots.proofs.sections.write_batch.Goals as goal

pub returns-clause-spelled : goal.returns-clause-spelled
returns-clause-spelled g c = λ h.
    let old = g.D.Disk.seen c.args.disk.now in
    let low : c.slot_page.result * 4096 ≤ length old = omega (arith, c.slot_page.ensures.inside, c.requires.size, g.met.D.Disk.whole c.args.disk.now h) in
    on_ok_weaker _ (batch_written c.args.geometry.now.shape (half_number c.args.half) c.args.slot c.slot_page.result (batch_of c.args.batch.now) old c.encode.new.page _ c.slot_page.ensures.value low c.encode.array_long c.requires.batch c.encode.ensures.written)
    (c.write_through.ensures.written h)
