use Rattle.std.proofs.Common.{Some, None, sym, subst, IsTrue}
use Rattle.grid_types.specs.Regions.{is_within}
use Rattle.grid_model.specs.Buckets.{SpellsBucket}
use Rattle.grid_model.specs.Images.{bucket_on}
use Rattle.linear_scales.specs.Limited.{scales_of}
use Rattle.split_policy.specs.Rows.{LieIn}
use Rattle.bucket_page.specs.Buckets.{bucket_of}
use Rattle.bucket_page.specs.Changing.{left_bucket, right_bucket}
use Rattle.change_plans.proofs.CutPages.{rule-on, noted-so, cut-pages}
use Rattle.change_plans.proofs.Pages.{has-key}
use Rattle.change_plans.proofs.cutting.cut_of.Goals as goal

pub returns-in_default-clause-noted : goal.returns-in_default-clause-noted
returns-in_default-clause-noted g c = λ L t e n due by.
    absurd (c.in_default.ensures.there (bucket_on t e) due.there.spelled (has-key c.args.shape.now L t e c.args.from.now n c.args.row.now.key.numbers due.there))

pub returns-in_default-cut-clause-noted : goal.returns-in_default-cut-clause-noted
returns-in_default-cut-clause-noted g c = λ L t e n due by.
    let rule = g.R.CutRule.chosen c.args.rule.now in
    let shape = c.args.shape.now in
    let r = c.args.row.now in
    let from = c.args.from.now in
    let scales = scales_of c.args.scales.now in
    let there = c.in-Some.ensures.there (bucket_on t e) due.there.spelled (has-key shape L t e from n r.key.numbers due.there) in
    let is = rule-on shape L t r e from n due rule scales c.args.unused by None (bucket_of c.in-Some.bucket) c.as_slice-rows.result.now c.in_default-cut.ensures.value c.as_slice-rows.ensures.value there in
    noted-so shape L t r e from n due rule scales c.args.unused by None is

pub returns-clause-noted : goal.returns-clause-noted
returns-clause-noted g c = λ L t e n due by.
    let rule = g.R.CutRule.chosen c.args.rule.now in
    let shape = c.args.shape.now in
    let r = c.args.row.now in
    let from = c.args.from.now in
    let scales = scales_of c.args.scales.now in
    let there = c.in-Some.ensures.there (bucket_on t e) due.there.spelled (has-key shape L t e from n r.key.numbers due.there) in
    let is = rule-on shape L t r e from n due rule scales c.args.unused by (Some c.in-Some-cut.cut) (bucket_of c.in-Some.bucket) c.as_slice-rows.result.now c.in-Some-cut.ensures.value c.as_slice-rows.ensures.value there in
    noted-so shape L t r e from n due rule scales c.args.unused by (Some c.in-Some-cut.cut) is

pub returns-clause-pages : goal.returns-clause-pages
returns-clause-pages g c = λ L t e n due by.
    let shape = c.args.shape.now in
    let r = c.args.row.now in
    let from = c.args.from.now in
    let cut = c.in-Some-cut.cut in
    let there = c.in-Some.ensures.there (bucket_on t e) due.there.spelled (has-key shape L t e from n r.key.numbers due.there) in
    cut-pages shape L t r e from n due (g.R.CutRule.chosen c.args.rule.now) (scales_of c.args.scales.now) c.args.unused by cut shape.capacity c.write_parts.new.left c.write_parts.new.right (returns-clause-noted g c L t e n due by)
    (subst (λ b. SpellsBucket shape.capacity c.write_parts.new.left (left_bucket b cut)) there c.write_parts.ensures.left)
    (subst (λ b. SpellsBucket shape.capacity c.write_parts.new.right (right_bucket b cut c.args.unused)) there c.write_parts.ensures.right)

pub returns-clause-lawful : goal.returns-clause-lawful
returns-clause-lawful g c =
    let cut = c.in-Some-cut.cut in
    let e = c.in-Some-cut.ensures in
    let lie = subst (LieIn c.in-Some.bucket.region) (sym c.as_slice-rows.ensures.value) c.in-Some.ensures.inside in
    record {
      within = subst (λ r. IsTrue (is_within r cut.attribute cut.value)) c.in-Some.ensures.region (e.within lie);
      fresh = e.fresh lie;
      grows = e.limits;
    }
