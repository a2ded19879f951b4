use Rattle.std.proofs.Common.{refl, ap}
use Rattle.grid_file.specs.declared.written.Written.{Written}
use Rattle.grid_file.specs.Files.{OpenFile, without_claim}
use Rattle.grid_file.proofs.Books.{sound_by, given_sound}
use Rattle.grid_file.proofs.file.GridFile.give_back.Goals as goal

pub invariant_of-self : goal.invariant_of-self
invariant_of-self g c =
    let f : OpenFile g.row.D.Denot = record { disk = c.self.inside.disk.value; books = c.self.inside.state; claimed = c.self.inside.claimed; written = c.self.inside.written.value.pages } in
    sound_by g.D.Disk c.self.inside.disk.value c.give_back.new.self (without_claim f).books c.none-self-inside.result (without_claim f).claimed c.nothing-self-inside.result.value.pages 0
    c.give_back.ensures c.none-self-inside.ensures (ap (λ (w : Written). w.pages) c.nothing-self-inside.ensures) refl (given_sound g.D.Disk f c.self.invariant.0)
