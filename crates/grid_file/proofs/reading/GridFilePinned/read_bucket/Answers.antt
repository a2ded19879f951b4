use Rattle.std.proofs.Common.{subst}
use Rattle.std.specs.Prelude.{◌↔◌, IsTrue, IsSome, IfOk}
use Rattle.grid_model.specs.Lists.{is_among}
use Rattle.file_books.specs.Books.{numbers_now}
use Rattle.grid_file.specs.Files.{OpenFile}
use Rattle.grid_file.proofs.Books.{number_there}
use Rattle.grid_file.proofs.reading.GridFilePinned.read_bucket.Goals as goal

pub returns-clause-there : goal.returns-clause-there
returns-clause-there g c = subst (λ (f : OpenFile g.row.D.Denot). IfOk c.read_owner.result (λ at. IsSome at ↔ IsTrue (is_among (numbers_now f.books) c.args.number))) c.self.view_is
    (number_there c.self.inside.state c.self.invariant.0.books_are c.args.number c.read_owner.result c.read_owner.ensures.there)
