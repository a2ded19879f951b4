use Rattle.std.proofs.Common.{◌≤◌, ◌∙◌, arith, length}
use Rattle.std.proofs.lemmas.Result.{on_ok_weaker}
use Rattle.grid_types.specs.Halves.{half_number}
use Rattle.grid_types.specs.Shapes.{slot_gate_at}
use Rattle.grid_types.proofs.HalvesLemmas.{half_small}
use Rattle.disk_trait.proofs.Calls.{changes_wider}
use Rattle.journal_slots.specs.Batches.{batch_of}
use Rattle.journal_slots.proofs.Stages.{gate_inside, page_step, batch_changes, committed}
use Rattle.journal_slots.proofs.committing.commit_batch.Goals as goal

pub returns-in_err-write_batch-clause-changes : goal.returns-in_err-write_batch-clause-changes
returns-in_err-write_batch-clause-changes g c =
    changes_wider (page_step c.args.geometry.now.shape (half_number c.args.half) c.args.slot c.args.geometry.now.lawful (half_small c.args.half) c.requires.inside (batch_of c.args.batch.now)) c.in_err-write_batch.ensures.changes

pub returns-clause-changes : goal.returns-clause-changes
returns-clause-changes g c =
    let w = c.in_ok-write_batch.ensures in
    batch_changes c.args.geometry.now.shape (half_number c.args.half) c.args.slot c.args.geometry.now.lawful (half_small c.args.half) c.requires.inside (batch_of c.args.batch.now) _ _ _ w.changes w.durable w.spelled c.open_gate.ensures.changes

pub returns-clause-committed : goal.returns-clause-committed
returns-clause-committed g c = λ h.
    let s = c.args.geometry.now.shape in
    let n = half_number c.args.half in
    let w = c.in_ok-write_batch.ensures in
    let told = w.changes.honest ∙ h in
    let low : slot_gate_at s n c.args.slot ≤ length (g.D.Disk.seen c.write_batch.new.disk) =
    omega (arith, gate_inside s n c.args.slot c.args.geometry.now.lawful (half_small c.args.half) c.requires.inside, c.requires.size, w.changes.extent, g.met.D.Disk.whole c.write_batch.new.disk told) in
    on_ok_weaker _ (committed s n c.args.slot c.args.geometry.now.lawful (half_small c.args.half) c.requires.inside (batch_of c.args.batch.now) c.write_batch.new.disk c.open_gate.new.disk c.open_gate.ensures.changes told (w.spelled h) low) (c.open_gate.ensures.opened told)
