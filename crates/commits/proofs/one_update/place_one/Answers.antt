use Rattle.std.proofs.Common.{◌≡◌, ℕ, subst, sym, ap, arith}
use Rattle.std.specs.Prelude.{OnOk, OnErr}
use Rattle.grid_types.specs.Halves.{half_number}
use Rattle.grid_types.specs.Shapes.{file_pages}
use Rattle.grid_types.specs.declared.shape.Shape.{Shape}
use Rattle.disk_trait.specs.Calls.{Changes}
use Rattle.grid_model.specs.Lawful.{IsBatch}
use Rattle.grid_model.specs.Spellings.{LoggedBatch}
use Rattle.journal_slots.specs.Batches.{batch_of}
use Rattle.journal_slots.specs.Committing.{BatchStep}
use Rattle.file_images.specs.Meets.{Meets}
use Rattle.file_images.specs.Steps.{IsNextSlot, with_doubt, with_slot}
use Rattle.file_sections.specs.Sections.{StaysShown}
use Rattle.file_standing.specs.Steps.{batch_of_one}
use Rattle.commits.proofs.OneBatch.{one-lawful, one-same, placed-as}
use Rattle.commits.proofs.one_update.place_one.Goals as goal

pub commit-requires : goal.commit-requires
commit-requires g c =
    let b = c.args.state.now in
    let u = c.args.update.now in
    let n = c.args.note in
    let shape : c.geometry.result.shape ≡ b.shape = c.geometry.ensures.shape in
    let same : batch_of {K = g.row.K} c.fill.new.batch ≡ batch_of_one b u n = one-same b u n (batch_of c.fill.new.batch) c.session.result c.front-first.result c.fill.ensures c.session.ensures c.front-first.ensures in (
      omega arith,
      (
        omega (arith, ap (λ (s : Shape). s.slots) shape, c.requires.inside),
        (
          omega (arith, ap file_pages shape, c.requires.size),
          (c.requires.few, subst (IsBatch {K = g.row.K}) (sym same) (one-lawful b u n c.geometry.ensures.books c.requires.place c.requires.logged)),
        ),
      ),
    )

pub returns-clause-moments : goal.returns-clause-moments
returns-clause-moments g c = λ k.
    let b = c.args.state.now in
    let u = c.args.update.now in
    let n = c.args.note in
    let d : LoggedBatch g.row.K = batch_of {K = g.row.K} c.fill.new.batch in
    let same : d ≡ batch_of_one b u n = one-same b u n d c.session.result c.front-first.result c.fill.ensures c.session.ensures c.front-first.ensures in
    subst (λ (p : Shape × ℕ × LoggedBatch g.row.K). IsNextSlot k p.0 p.1 c.args.slot → Meets g.D.Disk k c.args.disk.now → StaysShown g.D.Disk (with_doubt k p.2) c.args.disk.now c.commit.new.disk)
    (placed-as b u n c.geometry.result.shape (half_number c.half.result) d c.geometry.ensures.shape c.half.ensures same) (c.commit.ensures.moments k)

pub returns-clause-placed : goal.returns-clause-placed
returns-clause-placed g c = λ k.
    let b = c.args.state.now in
    let u = c.args.update.now in
    let n = c.args.note in
    let d : LoggedBatch g.row.K = batch_of {K = g.row.K} c.fill.new.batch in
    let same : d ≡ batch_of_one b u n = one-same b u n d c.session.result c.front-first.result c.fill.ensures c.session.ensures c.front-first.ensures in
    subst (λ (p : Shape × ℕ × LoggedBatch g.row.K). IsNextSlot k p.0 p.1 c.args.slot → Meets g.D.Disk k c.args.disk.now → OnOk c.commit.result (Meets g.D.Disk (with_slot k p.2) c.commit.new.disk))
    (placed-as b u n c.geometry.result.shape (half_number c.half.result) d c.geometry.ensures.shape c.half.ensures same) (c.commit.ensures.placed k)

pub returns-clause-failed : goal.returns-clause-failed
returns-clause-failed g c = λ k.
    let b = c.args.state.now in
    let u = c.args.update.now in
    let n = c.args.note in
    let d : LoggedBatch g.row.K = batch_of {K = g.row.K} c.fill.new.batch in
    let same : d ≡ batch_of_one b u n = one-same b u n d c.session.result c.front-first.result c.fill.ensures c.session.ensures c.front-first.ensures in
    subst (λ (p : Shape × ℕ × LoggedBatch g.row.K). IsNextSlot k p.0 p.1 c.args.slot → Meets g.D.Disk k c.args.disk.now → OnErr c.commit.result (Meets g.D.Disk (with_doubt k p.2) c.commit.new.disk))
    (placed-as b u n c.geometry.result.shape (half_number c.half.result) d c.geometry.ensures.shape c.half.ensures same) (c.commit.ensures.failed k)

pub returns-clause-changes : goal.returns-clause-changes
returns-clause-changes g c =
    let b = c.args.state.now in
    let u = c.args.update.now in
    let n = c.args.note in
    let d : LoggedBatch g.row.K = batch_of {K = g.row.K} c.fill.new.batch in
    let same : d ≡ batch_of_one b u n = one-same b u n d c.session.result c.front-first.result c.fill.ensures c.session.ensures c.front-first.ensures in
    subst (λ (p : Shape × ℕ × LoggedBatch g.row.K). Changes g.D.Disk (BatchStep p.0 p.1 c.args.slot p.2) c.args.disk.now c.commit.new.disk)
    (placed-as b u n c.geometry.result.shape (half_number c.half.result) d c.geometry.ensures.shape c.half.ensures same) c.commit.ensures.changes
