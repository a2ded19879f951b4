use Rattle.std.proofs.Common.{subst, sym}
use Rattle.file_books.specs.Books.{Books}
use Rattle.grid_file.specs.Files.{OpenFile}
use Rattle.grid_file.specs.Keeping.{KeepsReading}
use Rattle.grid_file.proofs.Alike.{swept-keeps}
use Rattle.grid_file.proofs.file.GridFile.sweep.Goals as goal

pub returns-clause-reading : goal.returns-clause-reading
returns-clause-reading g c = subst (λ (f : OpenFile g.row.D.Denot). KeepsReading f.books c.sweep.new.self) c.self.view_is
    (subst (λ (b : Books). KeepsReading c.self.inside.state b) (sym c.sweep.ensures) (swept-keeps c.self.inside.state c.self.invariant.0.books_are.owners.settled))
