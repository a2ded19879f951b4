use Rattle.std.proofs.Common.{◌≡◌, ◌∙◌, true, sym}
use Rattle.std.specs.Prelude.{is_ok}
use Rattle.disk_trait.specs.Calls.{IsSynced}
use Rattle.file_images.specs.Leads.{HasStanding}
use Rattle.file_images.specs.NewFiles.{new_standing}
use Rattle.file_commands.proofs.NewFiles.{first_holds, made_at, ok_gives}
use Rattle.file_commands.proofs.making.make_file.Goals as goal

pub returns-in-Ok-close-clause-made : goal.returns-in-Ok-close-clause-made
returns-in-Ok-close-clause-made g c = λ tells.
    let disk = c.make.new.disk in
    let told = (c.in-Ok.ensures.zeros tells).told in
    let ok : is_ok c.make.result ≡ true = sym c.is_ok-made.ensures.value ∙ first_holds c.is_ok-made.result _ c.if-made-faults.true in
    made_at g.B.Disk.Disk c.args.shape disk (g.B.Bay.place c.close.new.self c.args.name.now) (c.in-Ok-close.ensures.home (c.in-Ok.ensures.elsewhere.tells ∙ tells)) (c.make.ensures.changes.honest ∙ told)
    (ok_gives (HasStanding (g.B.Disk.Disk.seen disk) (new_standing c.args.shape.k)) c.make.result ok (c.make.ensures.stands told))
    (ok_gives (IsSynced g.B.Disk.Disk disk) c.make.result ok c.make.ensures.durable)
