use Rattle.std.proofs.Common.{ap, ◌∙◌, sym, subst, ◌<◌, ◌*◌, true≢false}
use Rattle.std.specs.Prelude.{is_some}
use Rattle.grid_model.specs.Cells.{cells}
use Rattle.grid_file.specs.Files.{OpenFile}
use Rattle.grid_file.proofs.Books.{part_there, low_part}
use Rattle.grid_file.proofs.reading.GridFilePinned.read_part.Goals as goal

pub unreachable-requires : goal.unreachable-requires
unreachable-requires g c =
    let low = low_part c.self.inside.state c.self.invariant.0.books_are c.args.part (subst (λ (f : OpenFile g.row.D.Denot). 1000 * c.args.part < cells f.books.scales) (sym c.self.view_is) c.requires) in
    true≢false (sym (c.in_ok-at.ensures.there.1 (part_there c.self.inside.state c.self.invariant.0.books_are c.args.part low)) ∙ ap is_some c.in-None.is)
