use Rattle.grid_types.specs.Halves.{half_number}
use Rattle.journal_slots.specs.Batches.{batch_of}
use Rattle.file_sections.proofs.Meeting.{on_ok_synced, on_any_err}
use Rattle.file_sections.proofs.Committing.{doubt_shown, doubt_meets, placed_meets}
use Rattle.file_sections.proofs.journal.commit.Goals as goal

pub returns-clause-moments : goal.returns-clause-moments
returns-clause-moments g c = λ k at was.
    doubt_shown k c.args.geometry.now.shape (half_number c.args.half) c.args.slot (batch_of c.args.batch.now) at c.requires.inside c.commit_batch.ensures.changes was (g.met.D.Disk.seen_now c.args.disk.now)

pub returns-clause-placed : goal.returns-clause-placed
returns-clause-placed g c = λ k at was.
    on_ok_synced c.commit_batch.result c.commit_batch.ensures.committed c.commit_batch.ensures.durable
    (λ done synced. placed_meets k c.args.geometry.now.shape (half_number c.args.half) c.args.slot (batch_of c.args.batch.now) at c.requires.inside c.commit_batch.ensures.changes was (g.met.D.Disk.seen_now c.args.disk.now) done synced)

pub returns-clause-failed : goal.returns-clause-failed
returns-clause-failed g c = λ k at was.
    on_any_err c.commit_batch.result (doubt_meets k c.args.geometry.now.shape (half_number c.args.half) c.args.slot (batch_of c.args.batch.now) at c.requires.inside c.commit_batch.ensures.changes was (g.met.D.Disk.seen_now c.args.disk.now))
