use Rattle.std.proofs.Common.{◌<◌, sym, ap, subst, ◌∙◌, true≢false}
use Rattle.std.specs.Prelude.{is_some}
use Rattle.grid_model.specs.Cells.{parts}
use Rattle.grid_file.specs.Files.{OpenFile}
use Rattle.grid_file.proofs.Books.{part_there}
use Rattle.grid_file.proofs.Leaving.{read_leaves}
use Rattle.grid_file.proofs.writing.GridFileChangePages.read_part.Goals as goal

pub returns-in_err-at-clause-same : goal.returns-in_err-at-clause-same
returns-in_err-at-clause-same g c =
    let f : OpenFile g.row.D.Denot = record { disk = c.self.inside.disk.value; books = c.self.inside.state; claimed = c.self.inside.claimed; written = c.self.inside.written.value.pages } in
    read_leaves {K = g.row.K} {D = g.row.D.Denot} g.D.Disk f c.args.self.now c.self.view_is c.deref_mut.result.now c.read_owner.new.disk c.deref_mut.ensures.value c.read_owner.ensures.same c.read_owner.ensures.kept c.read_owner.ensures.moments

pub unreachable-requires : goal.unreachable-requires
unreachable-requires g c =
    let low = subst (λ (f : OpenFile g.row.D.Denot). c.args.part < parts f.books.scales) (sym c.self.view_is) c.requires in
    true≢false (sym (c.in_ok-at.ensures.there.1 (part_there c.self.inside.state c.self.invariant.0.books_are c.args.part low)) ∙ ap is_some c.in-None.is)

pub returns-clause-same : goal.returns-clause-same
returns-clause-same g c =
    let f : OpenFile g.row.D.Denot = record { disk = c.self.inside.disk.value; books = c.self.inside.state; claimed = c.self.inside.claimed; written = c.self.inside.written.value.pages } in
    read_leaves {K = g.row.K} {D = g.row.D.Denot} g.D.Disk f c.args.self.now c.self.view_is c.deref_mut.result.now c.read_owner.new.disk c.deref_mut.ensures.value c.read_owner.ensures.same c.read_owner.ensures.kept c.read_owner.ensures.moments
