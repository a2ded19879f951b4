use Rattle.std.proofs.Common.{◌+◌, ◌-◌, length, inl, inr, refl, subst, ◌∙◌, arith}
use Rattle.grid_model.specs.Images.{open_slots_of}
use Rattle.journal_slots.specs.Scans.{IsScan, IsFirstBadPage, IsGoodUpTo}
use Rattle.journal_slots.proofs.Refused.{same_refusal}
use Rattle.recovery.proofs.Good.{good_second}
use Rattle.recovery.proofs.Halves.{journal_of, journal_lawful, scanned_good}
use Rattle.recovery.proofs.surveying.read_journal.Goals as goal

pub returns-in_err-second-clause-damaged : goal.returns-in_err-second-clause-damaged
returns-in_err-second-clause-damaged g c = λ h p is.
    let s = c.args.geometry.now.shape in
    let first = c.in_ok-first.ensures in
    let bad = c.in_err-second.ensures.damaged (first.same.honest ∙ h) p (same_refusal c.from_residual-in_err-second.result _ _ c.from_residual-in_err-second.ensures.1 is) in
    inr (scanned_good s (g.D.Disk.seen c.args.disk.now) 0 c.args.session c.in_ok-first.first (first.found h), subst (λ i. IsFirstBadPage g.row.K s i 1 p) (first.same.seen h) bad)

pub returns-in-Ok-clause-found : goal.returns-in-Ok-clause-found
returns-in-Ok-clause-found g c = λ h.
    let s = c.args.geometry.now.shape in
    let first = c.in_ok-first.ensures in
    let second = subst (λ i. IsScan s i 1 c.args.session c.in_ok-second.second) (first.same.seen h) (c.in_ok-second.ensures.found (first.same.honest ∙ h)) in
    journal_of s (g.D.Disk.seen c.args.disk.now) c.args.session c.in_ok-first.first c.in_ok-second.second _ (first.found h) second c.in-Ok.ensures.added refl

pub returns-in-Ok-clause-lawful : goal.returns-in-Ok-clause-lawful
returns-in-Ok-clause-lawful g c =
    journal_lawful c.args.geometry.now.shape (g.D.Disk.seen c.args.disk.now) c.args.session c.in_ok-first.first c.in_ok-second.second _ c.in_ok-first.ensures.lawful c.in_ok-second.ensures.lawful c.in-Ok.ensures.added refl

pub returns-in_err-first-clause-before : goal.returns-in_err-first-clause-before
returns-in_err-first-clause-before g c = λ h is n e. inl (c.in_err-first.ensures.before h n e)

pub returns-in_err-second-clause-before : goal.returns-in_err-second-clause-before
returns-in_err-second-clause-before g c = λ h is n e.
    let s = c.args.geometry.now.shape in
    let seen = g.D.Disk.seen c.args.disk.now in
    let first = c.in_ok-first.ensures in
    let scan = first.found h in
    let count = first.ticks h scan.gates scan.spelled in
    let open_ones = length (open_slots_of scan.gates 0) in
    let k = n - (1 + open_ones) in
    good_second s seen c.args.session n k c.in_ok-first.first scan (omega (arith, e, count, c.in_err-second.ensures.reads.least))
    (subst (λ i. IsGoodUpTo g.row.K s i 1 k) (first.same.seen h) (c.in_err-second.ensures.before (first.same.honest ∙ h) k (omega (arith, e, count, c.in_err-second.ensures.reads.least))))
