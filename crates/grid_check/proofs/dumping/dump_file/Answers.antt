use Rattle.std.proofs.Common.{◌∙◌, inr, Ok, ap, subst, arith}
use Rattle.root_pages.proofs.Roots.{few_attributes}
use Rattle.disk_trait.proofs.Calls.{reads_then}
use Rattle.linear_scales.specs.Roots.{root_fields_of, area_of}
use Rattle.grid_check.specs.Dumps.{PutsBuckets}
use Rattle.grid_check.specs.Reads.{MayRefusePages}
use Rattle.grid_check.specs.Rules.{JudgesBuckets}
use Rattle.grid_check.proofs.Dumped.{few_dumped, is_dumped, rows_found, bad_bucket, dump_stands, stands_spelled, stands_refused, given_on}
use Rattle.grid_check.proofs.RootLists.{number_low}
use Rattle.grid_check.proofs.dumping.dump_file.Goals as goal

pub put_buckets-requires : goal.put_buckets-requires
put_buckets-requires g c =
    let survey = c.in_ok-survey.survey in
    let s = survey.geometry in
    let e = c.in_ok-survey.ensures in
    let few = few_attributes s.shape g.row.K s.lawful e.lawful.attributes in
    let area = e.lawful.root.area in
    (omega (arith, few), (omega (arith, e.lawful.size, e.same.extent), (few, (area.numbers, number_low s.shape (root_fields_of {K = g.row.K} survey.root) (area_of {K = g.row.K} survey.root) area))))

pub rows_behind-requires : goal.rows_behind-requires
rows_behind-requires g c =
    let s = c.in_ok-survey.survey.geometry in
    let few = few_attributes s.shape g.row.K s.lawful c.in_ok-survey.ensures.lawful.attributes in
    (omega arith, (omega (arith, few), (omega arith, few)))

pub returns-in_err-survey-clause-whole : goal.returns-in_err-survey-clause-whole
returns-in_err-survey-clause-whole g c = λ h m has.
    given_on c.from_residual.result c.in_err-survey.field-0.0 MayRefusePages c.from_residual.ensures.1
    (stands_refused {K = g.row.K} c.survey_law.ensures.answer (g.D.Disk.seen c.args.disk.now) m.place m.table has.stands c.in_err-survey.field-0.0 (c.in_err-survey.ensures.first h))

pub returns-in_err-page-clause-same : goal.returns-in_err-page-clause-same
returns-in_err-page-clause-same g c = reads_then c.in_ok-survey.ensures.same c.in_err-page.ensures.same

pub returns-in_err-page-clause-ticks : goal.returns-in_err-page-clause-ticks
returns-in_err-page-clause-ticks g c = λ h f n has.
    let e = c.in_ok-survey.ensures in
    few_dumped {K = g.row.K} (g.D.Disk.seen c.args.disk.now) c.in_ok-survey.survey (e.found h) f n c.args.steps.now c.survey_file.new.steps c.put_buckets.new.steps has e.ticks c.in_err-page.ensures.ticks

pub returns-in-Some-clause-whole : goal.returns-in-Some-clause-whole
returns-in-Some-clause-whole g c = λ h m has.
    let e = c.in_ok-survey.ensures in
    let survey = c.in_ok-survey.survey in
    let image = g.D.Disk.seen c.args.disk.now in
    absurd (stands_spelled {K = g.row.K} image survey (e.found h) m.place m.table has.stands c.in-Some.page
    (subst (JudgesBuckets g.row.K survey.geometry.shape image survey.root.table.items) c.in-Some.is
    (subst (λ i. JudgesBuckets g.row.K survey.geometry.shape i survey.root.table.items c.in_ok-page.field-0) (e.same.seen h) (c.in_ok-page.ensures.judged (e.same.honest ∙ h)))))

pub returns-in-Some-clause-refused : goal.returns-in-Some-clause-refused
returns-in-Some-clause-refused g c = λ h.
    let e = c.in_ok-survey.ensures in
    let survey = c.in_ok-survey.survey in
    let image = g.D.Disk.seen c.args.disk.now in
    inr (inr (inr (bad_bucket {K = g.row.K} image survey (e.found h) c.in-Some.page
    (subst (JudgesBuckets g.row.K survey.geometry.shape image survey.root.table.items) c.in-Some.is
    (subst (λ i. JudgesBuckets g.row.K survey.geometry.shape i survey.root.table.items c.in_ok-page.field-0) (e.same.seen h) (c.in_ok-page.ensures.judged (e.same.honest ∙ h)))))))

pub returns-in-Some-clause-same : goal.returns-in-Some-clause-same
returns-in-Some-clause-same g c = reads_then c.in_ok-survey.ensures.same c.in_ok-page.ensures.same

pub returns-in-Some-clause-ticks : goal.returns-in-Some-clause-ticks
returns-in-Some-clause-ticks g c = λ h f n has.
    let e = c.in_ok-survey.ensures in
    few_dumped {K = g.row.K} (g.D.Disk.seen c.args.disk.now) c.in_ok-survey.survey (e.found h) f n c.args.steps.now c.survey_file.new.steps c.put_buckets.new.steps has e.ticks c.in_ok-page.ensures.ticks

pub returns-in-Ok-clause-dumped : goal.returns-in-Ok-clause-dumped
returns-in-Ok-clause-dumped g c = λ h.
    let e = c.in_ok-survey.ensures in
    let p = c.in_ok-page.ensures in
    let survey = c.in_ok-survey.survey in
    let image = g.D.Disk.seen c.args.disk.now in
    let none = c.in_default.is in
    is_dumped {K = g.row.K} image survey (e.found h) c.put_buckets.new.table.entries c.in-Ok.rows
    (subst (JudgesBuckets g.row.K survey.geometry.shape image survey.root.table.items) none (subst (λ i. JudgesBuckets g.row.K survey.geometry.shape i survey.root.table.items c.in_ok-page.field-0) (e.same.seen h) (p.judged (e.same.honest ∙ h))))
    (subst (λ t. PutsBuckets g.row.K survey.geometry.shape image survey.root.table.items t c.put_buckets.new.table.entries) c.new-table.ensures.empty
    (subst (λ i. PutsBuckets g.row.K survey.geometry.shape i survey.root.table.items c.new-table.result.entries c.put_buckets.new.table.entries) (e.same.seen h) (p.put (e.same.honest ∙ h) (ap Ok none))))
    c.in-Ok.ensures

pub returns-in-Ok-clause-stands : goal.returns-in-Ok-clause-stands
returns-in-Ok-clause-stands g c = λ h m has.
    let e = c.in_ok-survey.ensures in
    let p = c.in_ok-page.ensures in
    let survey = c.in_ok-survey.survey in
    let image = g.D.Disk.seen c.args.disk.now in
    dump_stands {K = g.row.K} image survey (e.found h) m.place m.table has.stands c.in-Ok.rows
    (rows_found {K = g.row.K} image survey (e.found h) c.put_buckets.new.table.entries c.in-Ok.rows
    (subst (λ t. PutsBuckets g.row.K survey.geometry.shape image survey.root.table.items t c.put_buckets.new.table.entries) c.new-table.ensures.empty
    (subst (λ i. PutsBuckets g.row.K survey.geometry.shape i survey.root.table.items c.new-table.result.entries c.put_buckets.new.table.entries) (e.same.seen h) (p.put (e.same.honest ∙ h) (ap Ok c.in_default.is))))
    c.in-Ok.ensures)

pub returns-in-Ok-clause-same : goal.returns-in-Ok-clause-same
returns-in-Ok-clause-same g c = reads_then c.in_ok-survey.ensures.same c.in_ok-page.ensures.same

pub returns-in-Ok-clause-ticks : goal.returns-in-Ok-clause-ticks
returns-in-Ok-clause-ticks g c = λ h f n has.
    let e = c.in_ok-survey.ensures in
    few_dumped {K = g.row.K} (g.D.Disk.seen c.args.disk.now) c.in_ok-survey.survey (e.found h) f n c.args.steps.now c.survey_file.new.steps c.put_buckets.new.steps has e.ticks c.in_ok-page.ensures.ticks

pub returns-clause-same : goal.returns-clause-same
returns-clause-same g c = reads_then c.in_ok-survey.ensures.same c.in_ok-page.ensures.same

pub returns-clause-ticks : goal.returns-clause-ticks
returns-clause-ticks g c = λ h f n has.
    let e = c.in_ok-survey.ensures in
    few_dumped {K = g.row.K} (g.D.Disk.seen c.args.disk.now) c.in_ok-survey.survey (e.found h) f n c.args.steps.now c.survey_file.new.steps c.put_buckets.new.steps has e.ticks c.in_ok-page.ensures.ticks
