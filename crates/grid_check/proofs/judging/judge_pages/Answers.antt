use Rattle.std.proofs.Common.{◌∙◌, Ok, None, length, ap, subst, arith}
use Rattle.disk_trait.proofs.Calls.{reads_then}
use Rattle.linear_scales.specs.Roots.{root_fields_of, area_of, whole_of}
use Rattle.grid_check.specs.Reads.{AreHeld}
use Rattle.grid_check.specs.Rules.{JudgesBuckets}
use Rattle.grid_check.specs.Verdicts.{Judges, IsJudgedBelow}
use Rattle.grid_check.specs.declared.verdict.Rule.TheVariants.{Bucket}
use Rattle.grid_check.proofs.Breaches.{none_there, up_to}
use Rattle.grid_check.proofs.RootLists.{number_low}
use Rattle.grid_check.proofs.judging.judge_pages.Goals as goal

pub first_bad_bucket-requires : goal.first_bad_bucket-requires
first_bad_bucket-requires g c =
    let s = c.args.geometry.now.shape in
    let root = c.args.root.now in
    let few = c.requires.few in
    let numbers = c.requires.lawful.area.numbers in
    (omega (arith, few), (omega (arith, few), (omega (arith, c.requires.size, c.in_ok-breach.ensures.same.extent), (few, (numbers, (number_low s (root_fields_of {K = g.row.K} root) (area_of {K = g.row.K} root) c.requires.lawful.area, omega (arith, c.requires.room, numbers)))))))

pub returns-in-Some-2-clause-same : goal.returns-in-Some-2-clause-same
returns-in-Some-2-clause-same g c = reads_then c.in_ok-breach.ensures.same c.in_ok-page.ensures.same

pub returns-clause-same : goal.returns-clause-same
returns-clause-same g c = reads_then c.in_ok-breach.ensures.same c.in_ok-page.ensures.same

pub returns-clause-judged : goal.returns-clause-judged
returns-clause-judged g c = λ h.
    let s = c.args.geometry.now.shape in
    let root = c.args.root.now in
    let image = g.D.Disk.seen c.args.disk.now in
    let a = c.in_ok-breach.ensures in
    let b = c.in_ok-page.ensures in
    let same = a.same in
    let none1 = none_there c.in_ok-breach.field-0 c.in_default.not-Some in
    let none2 = none_there c.in_ok-page.field-0 c.in_default-2.not-Some in
    let before = subst (IsJudgedBelow g.row.K s image (whole_of {K = g.row.K} root) 2) none1 (a.judged h) in
    let buckets = subst (JudgesBuckets g.row.K s image root.table.items) none2 (subst (λ i. JudgesBuckets g.row.K s i root.table.items c.in_ok-page.field-0) (same.seen h) (b.judged (same.honest ∙ h))) in
    c.judge_held.ensures.judged image (a.named h (ap Ok none1))
    (subst (λ i. AreHeld {K = g.row.K} s i root.table.items c.first_bad_bucket.new.holdings (length root.table.items)) (same.seen h) (b.held (same.honest ∙ h) (ap Ok none2)))
    (up_to (λ r. Judges g.row.K s image (whole_of {K = g.row.K} root) r None) Bucket before buckets)
