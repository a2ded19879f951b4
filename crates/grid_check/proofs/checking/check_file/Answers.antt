use Rattle.std.proofs.Common.{◌∙◌, Ok, length, ap, subst, arith}
use Rattle.root_pages.proofs.Roots.{few_attributes}
use Rattle.disk_trait.proofs.Calls.{reads_then}
use Rattle.file_images.specs.Leads.{updates_in}
use Rattle.linear_scales.specs.Roots.{root_fields_of, whole_of}
use Rattle.grid_check.specs.Marks.{MarksBuckets}
use Rattle.grid_check.specs.declared.verdict.Rule.TheVariants.{Records}
use Rattle.grid_check.proofs.Breaches.{before_end}
use Rattle.grid_check.specs.declared.verdict.Verdict.TheVariants.{Sound}
use Rattle.grid_check.specs.Verdicts.{IsJudgedBelow, KeepsBelow}
use Rattle.grid_check.proofs.Checked.{few_read, leaves_records, room_left, stands_records, is_sound, is_unsound, stands_unbroken, stands_place}
use Rattle.grid_check.proofs.checking.check_file.Goals as goal

pub judge_root-requires : goal.judge_root-requires
judge_root-requires g c =
    let s = c.in_ok-survey.survey.geometry in
    let e = c.in_ok-survey.ensures in
    let few = few_attributes s.shape g.row.K s.lawful e.lawful.attributes in
    (omega (arith, few), (omega (arith, few), (omega (arith, e.lawful.size, e.same.extent), (few, e.lawful.root))))

pub returns-in_err-judge_root-clause-same : goal.returns-in_err-judge_root-clause-same
returns-in_err-judge_root-clause-same g c = reads_then c.in_ok-survey.ensures.same c.in_err-judge_root.ensures.same

pub returns-in-None-clause-same : goal.returns-in-None-clause-same
returns-in-None-clause-same g c = reads_then c.in_ok-survey.ensures.same c.in_ok-judge_root.ensures.same

pub returns-clause-same : goal.returns-clause-same
returns-clause-same g c = reads_then c.in_ok-survey.ensures.same c.in_ok-judge_root.ensures.same

pub returns-in_err-judge_root-clause-ticks : goal.returns-in_err-judge_root-clause-ticks
returns-in_err-judge_root-clause-ticks g c = λ h f n has.
    let e = c.in_ok-survey.ensures in
    few_read {K = g.row.K} (g.D.Disk.seen c.args.disk.now) c.in_ok-survey.survey (e.found h) f n c.args.steps.now c.survey_file.new.steps c.judge_root.new.steps has e.ticks c.in_err-judge_root.ensures.ticks

pub returns-in-None-clause-ticks : goal.returns-in-None-clause-ticks
returns-in-None-clause-ticks g c = λ h f n has.
    let e = c.in_ok-survey.ensures in
    few_read {K = g.row.K} (g.D.Disk.seen c.args.disk.now) c.in_ok-survey.survey (e.found h) f n c.args.steps.now c.survey_file.new.steps c.judge_root.new.steps has e.ticks c.in_ok-judge_root.ensures.ticks

pub returns-clause-ticks : goal.returns-clause-ticks
returns-clause-ticks g c = λ h f n has.
    let e = c.in_ok-survey.ensures in
    few_read {K = g.row.K} (g.D.Disk.seen c.args.disk.now) c.in_ok-survey.survey (e.found h) f n c.args.steps.now c.survey_file.new.steps c.judge_root.new.steps has e.ticks c.in_ok-judge_root.ensures.ticks

pub keys_named-requires : goal.keys_named-requires
keys_named-requires g c =
    let s = c.in_ok-survey.survey.geometry in
    let few = few_attributes s.shape g.row.K s.lawful c.in_ok-survey.ensures.lawful.attributes in
    (omega arith, (omega (arith, few), few))

pub count_updates-requires : goal.count_updates-requires
count_updates-requires g c =
    let s = c.in_ok-survey.survey.geometry in
    let e = c.in_ok-survey.ensures.lawful in
    let few = few_attributes s.shape g.row.K s.lawful e.attributes in
    (omega arith, (omega (arith, few), (few, room_left s.shape s.lawful (root_fields_of {K = g.row.K} c.in_ok-survey.survey.root) c.in_ok-survey.survey.front (length (updates_in c.in_ok-survey.survey.taken)) e.root.fields e.front_is e.small)))

pub returns-in_default-clause-ticks : goal.returns-in_default-clause-ticks
returns-in_default-clause-ticks g c = λ h f n has.
    let e = c.in_ok-survey.ensures in
    few_read {K = g.row.K} (g.D.Disk.seen c.args.disk.now) c.in_ok-survey.survey (e.found h) f n c.args.steps.now c.survey_file.new.steps c.survey_file.new.steps has e.ticks (omega arith)

pub returns-in-None-clause-verdict : goal.returns-in-None-clause-verdict
returns-in-None-clause-verdict g c = λ h.
    let e = c.in_ok-survey.ensures in
    let survey = c.in_ok-survey.survey in
    let image = g.D.Disk.seen c.args.disk.now in
    let judged = c.in_ok-judge_root.ensures in
    let kept : KeepsBelow g.row.K survey.geometry.shape image (whole_of {K = g.row.K} survey.root) 6 =
    subst (IsJudgedBelow g.row.K survey.geometry.shape image (whole_of {K = g.row.K} survey.root) 6) c.in-None.is
    (subst (λ i. IsJudgedBelow g.row.K survey.geometry.shape i (whole_of {K = g.row.K} survey.root) 6 c.in_ok-judge_root.field-0) (e.same.seen h) (judged.judged (e.same.honest ∙ h))) in
    is_sound {K = g.row.K} image survey (e.found h) c.count_updates.result kept
    (leaves_records {K = g.row.K} image survey (e.found h) c.in-Ok.marks c.judge_root.new.marks c.count_updates.new.marks c.count_updates.result c.in-Ok.ensures.unmarked c.in-Ok.ensures.named
    (subst (λ i. MarksBuckets g.row.K survey.geometry.shape i survey.root.table.items c.in-Ok.marks c.judge_root.new.marks) (e.same.seen h) (judged.marked (e.same.honest ∙ h) (ap Ok c.in-None.is)))
    (kept Records (before_end Records)) c.count_updates.ensures)

pub returns-in-None-clause-stands : goal.returns-in-None-clause-stands
returns-in-None-clause-stands g c = λ h m has.
    let e = c.in_ok-survey.ensures in
    let survey = c.in_ok-survey.survey in
    let image = g.D.Disk.seen c.args.disk.now in
    let judged = c.in_ok-judge_root.ensures in
    let kept : KeepsBelow g.row.K survey.geometry.shape image (whole_of {K = g.row.K} survey.root) 6 =
    subst (IsJudgedBelow g.row.K survey.geometry.shape image (whole_of {K = g.row.K} survey.root) 6) c.in-None.is
    (subst (λ i. IsJudgedBelow g.row.K survey.geometry.shape i (whole_of {K = g.row.K} survey.root) 6 c.in_ok-judge_root.field-0) (e.same.seen h) (judged.judged (e.same.honest ∙ h))) in
    let place = stands_place {K = g.row.K} image survey (e.found h) m.place m.table has.stands in
    let records = stands_records {K = g.row.K} image survey (e.found h) m.place m.table has.stands c.count_updates.result
    (leaves_records {K = g.row.K} image survey (e.found h) c.in-Ok.marks c.judge_root.new.marks c.count_updates.new.marks c.count_updates.result c.in-Ok.ensures.unmarked c.in-Ok.ensures.named
    (subst (λ i. MarksBuckets g.row.K survey.geometry.shape i survey.root.table.items c.in-Ok.marks c.judge_root.new.marks) (e.same.seen h) (judged.marked (e.same.honest ∙ h) (ap Ok c.in-None.is)))
    (kept Records (before_end Records)) c.count_updates.ensures) in
    λ i. Sound (place i) (records i)

pub returns-clause-verdict : goal.returns-clause-verdict
returns-clause-verdict g c = λ h.
    let e = c.in_ok-survey.ensures in
    let survey = c.in_ok-survey.survey in
    let image = g.D.Disk.seen c.args.disk.now in
    is_unsound {K = g.row.K} image survey (e.found h) c.in-Some.breach
    (subst (IsJudgedBelow g.row.K survey.geometry.shape image (whole_of {K = g.row.K} survey.root) 6) c.in-Some.is
    (subst (λ i. IsJudgedBelow g.row.K survey.geometry.shape i (whole_of {K = g.row.K} survey.root) 6 c.in_ok-judge_root.field-0) (e.same.seen h) (c.in_ok-judge_root.ensures.judged (e.same.honest ∙ h))))

pub returns-clause-stands : goal.returns-clause-stands
returns-clause-stands g c = λ h m has.
    let e = c.in_ok-survey.ensures in
    let survey = c.in_ok-survey.survey in
    let image = g.D.Disk.seen c.args.disk.now in
    absurd (stands_unbroken {K = g.row.K} image survey (e.found h) m.place m.table has.stands c.in-Some.breach
    (subst (IsJudgedBelow g.row.K survey.geometry.shape image (whole_of {K = g.row.K} survey.root) 6) c.in-Some.is
    (subst (λ i. IsJudgedBelow g.row.K survey.geometry.shape i (whole_of {K = g.row.K} survey.root) 6 c.in_ok-judge_root.field-0) (e.same.seen h) (c.in_ok-judge_root.ensures.judged (e.same.honest ∙ h)))))
