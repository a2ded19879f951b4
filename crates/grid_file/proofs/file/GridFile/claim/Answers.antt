use Rattle.std.proofs.Common.{◌≡◌, ◌+◌, ℕ, List, refl, sym, ap, ◌∙◌, subst, length}
use Rattle.grid_file.specs.declared.written.Written.{Written}
use Rattle.grid_file.specs.Files.{OpenFile, with_claim}
use Rattle.grid_file.proofs.Books.{sound_by, claim_sound, claim_count}
use Rattle.grid_file.proofs.file.GridFile.claim.Goals as goal

pub invariant_of-self : goal.invariant_of-self
invariant_of-self g c =
    let f : OpenFile g.row.D.Denot = record { disk = c.self.inside.disk.value; books = c.self.inside.state; claimed = c.self.inside.claimed; written = c.self.inside.written.value.pages } in
    sound_by g.D.Disk c.self.inside.disk.value c.claim.new.state (with_claim c.args.count f).books c.claim.new.self (with_claim c.args.count f).claimed c.nothing-self-inside.result.value.pages 0
    c.claim.ensures.books c.claim.ensures.pages (ap (λ (w : Written). w.pages) c.nothing-self-inside.ensures) refl (claim_sound g.D.Disk f c.args.count c.self.invariant.0)

pub returns-clause-count : goal.returns-clause-count
returns-clause-count g c =
    ap (λ (ps : List ℕ). length ps) c.claim.ensures.pages
    ∙ subst (λ (f : OpenFile g.row.D.Denot). length (with_claim c.args.count f).claimed ≡ length f.claimed + c.args.count) (sym c.self.view_is) (claim_count c.args.self.now c.args.count c.requires.free)
    ∙ ap (λ (f : OpenFile g.row.D.Denot). length f.claimed + c.args.count) c.self.view_is
