use Rattle.std.proofs.Common.{subst, refl}
use Rattle.file_standing.specs.Open.{IsOpenAt, StaysStanding}
use Rattle.grid_file.specs.Files.{OpenFile}
use Rattle.grid_file.specs.Keeping.{KeepsReading}
use Rattle.grid_file.proofs.Alike.{after-keeps}
use Rattle.grid_file.proofs.Doubts.{said_of}
use Rattle.grid_file.proofs.file.GridFile.checkpoint.Goals as goal

pub returns-clause-moments : goal.returns-clause-moments
returns-clause-moments g c = λ m.
    said_of c.self.view_is c.deref_mut.ensures.value refl
    (λ d b ps. IsOpenAt g.D.Disk b m d → StaysStanding g.D.Disk m d c.checkpoint-outcome.new.disk) (c.checkpoint-outcome.ensures.moments m)

pub returns-clause-reading : goal.returns-clause-reading
returns-clause-reading g c = subst (λ (f : OpenFile g.row.D.Denot). KeepsReading f.books c.checkpoint-outcome.new.state) c.self.view_is
    (after-keeps c.checkpoint-outcome.result c.self.inside.state c.checkpoint-outcome.new.state c.self.invariant.0.books_are.owners.settled c.checkpoint-outcome.ensures.books)
