use Rattle.grid_types.specs.Halves.{half_number}
use Rattle.grid_types.proofs.HalvesLemmas.{half_small}
use Rattle.file_sections.proofs.Meeting.{on_any_err}
use Rattle.file_sections.proofs.Committing.{loosely_shown, loose_meets, cleared_meets}
use Rattle.file_sections.proofs.journal.clear_half.Goals as goal

pub returns-clause-moments : goal.returns-clause-moments
returns-clause-moments g c = λ K k at was.
    loosely_shown k c.args.geometry.now.shape (half_number c.args.half) c.args.used (half_small c.args.half) at c.clear_half.ensures.changes was (g.met.D.Disk.seen_now c.args.disk.now)

pub returns-clause-cleared : goal.returns-clause-cleared
returns-clause-cleared g c = λ K k at was.
    cleared_meets k c.args.geometry.now.shape (half_number c.args.half) c.args.used (half_small c.args.half) at c.clear_half.ensures.changes was (g.met.D.Disk.seen_now c.args.disk.now) c.clear_half.result c.clear_half.ensures.cleared c.clear_half.ensures.durable

pub returns-clause-failed : goal.returns-clause-failed
returns-clause-failed g c = λ K k at was.
    on_any_err c.clear_half.result (loose_meets k c.args.geometry.now.shape (half_number c.args.half) c.args.used (half_small c.args.half) at c.clear_half.ensures.changes was (g.met.D.Disk.seen_now c.args.disk.now))
