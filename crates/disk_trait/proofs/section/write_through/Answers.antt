use Rattle.std.proofs.Common.{length}
use Rattle.disk_trait.proofs.Calls.{changes_write, changes_then_stays}
use Rattle.disk_trait.proofs.Pages.{agrees_same}
use Rattle.disk_trait.proofs.section.write_through.Goals as goal

pub returns-clause-changes : goal.returns-clause-changes
returns-clause-changes g c =
    let w = c.write.ensures in
    changes_then_stays
    (changes_write (agrees_same c.args.at (length c.args.bytes.now)) (λ k h left. g.met.D.Disk.only_now c.args.disk.now k h left) w.extent w.honest w.other w.cause.later w.outside w.crash w.time)
    c.sync_all.ensures.changes
