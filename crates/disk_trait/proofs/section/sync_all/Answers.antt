use Rattle.disk_trait.proofs.Calls.{stays_sync}
use Rattle.disk_trait.proofs.section.sync_all.Goals as goal

pub returns-clause-changes : goal.returns-clause-changes
returns-clause-changes g c =
    let s = c.sync.ensures in
    stays_sync (λ h k left. g.met.D.Disk.only_now c.args.disk.now k h left) s.extent s.honest s.other s.cause.later s.seen s.crash s.time
