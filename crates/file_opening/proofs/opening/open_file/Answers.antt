use Rattle.std.proofs.Common.{refl, subst, ◌∙◌, IsTrue}
use Rattle.std.specs.Prelude.{IfErr, IfOk}
use Rattle.disk_trait.specs.Calls.{OnlyReads, Changes}
use Rattle.disk_trait.proofs.Calls.{stays_then_changes}
use Rattle.file_images.specs.Leads.{Standing, HasStanding}
use Rattle.checkpoints.specs.Disks.{KeepsLength}
use Rattle.file_opening.specs.Opening.{IsUnopened, LeavesStanding, disk_after}
use Rattle.file_opening.specs.Refusals.{IsNoDamage, IsRefused}
use Rattle.file_opening.specs.UnderWay.{IsReopened}
use Rattle.file_opening.proofs.Reopening.{unbegun-leaves, begun-leaves, rest-refused, rest-untouched, rest-standing}
use Rattle.file_opening.proofs.opening.open_file.Goals as goal

pub returns-in-Err-clause-moments : goal.returns-in-Err-clause-moments
returns-in-Err-clause-moments g c =
    subst (λ (x : g.row.D.Denot). IsTrue (g.D.Disk.honest x) → (m : Standing g.row.K) → HasStanding (g.D.Disk.seen x) m → LeavesStanding g.D.Disk m x c.begin.new.disk) c.deref_mut.ensures.value
    (λ h m has. unbegun-leaves {D = g.row.D.Denot} g.D.Disk c.deref_mut.result.now h {K = g.row.K} m c.begin.new.disk c.begin.ensures.changes)

pub returns-in-Err-clause-standing : goal.returns-in-Err-clause-standing
returns-in-Err-clause-standing g c =
    subst (λ (x : g.row.D.Denot). IsTrue (g.D.Disk.honest x) → (m : Standing g.row.K) → HasStanding (g.D.Disk.seen x) m → IsNoDamage c.in-Err.refusal) c.deref_mut.ensures.value
    (λ h m has. c.in-Err.ensures.standing h m has)

pub returns-in-Ok-clause-reopened : goal.returns-in-Ok-clause-reopened
returns-in-Ok-clause-reopened g c =
    subst (λ (x : g.row.D.Denot). IsTrue (g.D.Disk.honest x) → (m : Standing g.row.K) → HasStanding (g.D.Disk.seen x) m → IfOk c.reopen.result (λ o. IsReopened g.D.Disk o.file.books o.file.disk m)) c.deref_mut.ensures.value
    (λ h m has. c.reopen.ensures.reopened (c.begin.ensures.changes.honest ∙ h) m (c.in-Ok.ensures.begun h m has))

pub returns-in-Ok-clause-moments : goal.returns-in-Ok-clause-moments
returns-in-Ok-clause-moments g c =
    subst (λ (x : g.row.D.Denot). IsTrue (g.D.Disk.honest x) → (m : Standing g.row.K) → HasStanding (g.D.Disk.seen x) m → LeavesStanding g.D.Disk m x (disk_after c.reopen.result)) c.deref_mut.ensures.value
    (λ h m has. begun-leaves {D = g.row.D.Denot} g.D.Disk c.deref_mut.result.now h {K = g.row.K} m c.begin.new.disk (disk_after c.reopen.result) c.begin.ensures.changes
    (c.reopen.ensures.moments (c.begin.ensures.changes.honest ∙ h) m (c.in-Ok.ensures.begun h m has)))

pub returns-in-Ok-clause-refused : goal.returns-in-Ok-clause-refused
returns-in-Ok-clause-refused g c =
    subst (λ (x : g.row.D.Denot). IsTrue (g.D.Disk.honest x) → IfErr c.reopen.result (λ n. IsUnopened g.row.K (g.D.Disk.seen x) n.refusal)) c.deref_mut.ensures.value
    (λ h. rest-refused {K = g.row.K} {D = g.row.D.Denot} g.D.Disk (g.D.Disk.seen c.deref_mut.result.now) c.begin.new.disk c.reopen.result c.reopen.ensures.causes
    (λ m has. c.reopen.ensures.honest (c.begin.ensures.changes.honest ∙ h) m (c.in-Ok.ensures.begun h m has)))

pub returns-in-Ok-clause-standing : goal.returns-in-Ok-clause-standing
returns-in-Ok-clause-standing g c =
    subst (λ (x : g.row.D.Denot). IsTrue (g.D.Disk.honest x) → (m : Standing g.row.K) → HasStanding (g.D.Disk.seen x) m → IfErr c.reopen.result (λ n. IsNoDamage n.refusal)) c.deref_mut.ensures.value
    (λ h m has. rest-standing {K = g.row.K} {D = g.row.D.Denot} c.reopen.result (c.reopen.ensures.honest (c.begin.ensures.changes.honest ∙ h) m (c.in-Ok.ensures.begun h m has)))

pub returns-in-Ok-clause-untouched : goal.returns-in-Ok-clause-untouched
returns-in-Ok-clause-untouched g c =
    subst (λ (x : g.row.D.Denot). IsTrue (g.D.Disk.honest x) → IfErr c.reopen.result (λ n. IsRefused g.row.K (g.D.Disk.seen x) n.refusal → OnlyReads g.D.Disk x n.disk.value)) c.deref_mut.ensures.value
    (λ h. rest-untouched {K = g.row.K} {D = g.row.D.Denot} g.D.Disk (g.D.Disk.seen c.deref_mut.result.now) c.begin.new.disk c.reopen.result c.deref_mut.result.now (c.in-Ok.ensures.sound h) c.reopen.ensures.causes)

pub returns-in-Ok-clause-changes : goal.returns-in-Ok-clause-changes
returns-in-Ok-clause-changes g c =
    subst (λ (x : g.row.D.Denot). Changes g.D.Disk KeepsLength x (disk_after c.reopen.result)) c.deref_mut.ensures.value
    (stays_then_changes {D = g.row.D.Denot} {g = g.D.Disk} {a = c.deref_mut.result.now} {b = c.begin.new.disk} {c = disk_after c.reopen.result} (λ x. refl) c.begin.ensures.changes c.reopen.ensures.changes)
