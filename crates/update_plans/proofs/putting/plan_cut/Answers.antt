use Rattle.std.proofs.Common.{rules, Some, sym, ap, subst, ◌∙◌, arith}
use Rattle.grid_types.specs.declared.layout_change.LayoutChange.TheVariants as note
use Rattle.linear_scales.specs.Limited.{scales_of}
use Rattle.bucket_page.specs.declared.head.Head.{Head}
use Rattle.change_plans.specs.Cutting.{IsCutWithin}
use Rattle.update_plans.proofs.Cuts.{fresh-for, takes, few-after, scales-follow, cut-kind}
use Rattle.update_plans.proofs.Heads.{few-records, head-number, head-region}
use Rattle.update_plans.proofs.Puts.{cut-plan, cut-sound}
use Rattle.update_plans.proofs.Scales.{are-dims}
use Rattle.update_plans.proofs.putting.plan_cut.Goals as goal

pub cut_of-requires : goal.cut_of-requires
cut_of-requires g c = (search rules, (search rules, (c.requires.few, few-records c.args.shape.now c.requires.lawful)))

pub directory_by_cut-directory-requires : goal.directory_by_cut-directory-requires
directory_by_cut-directory-requires g c =
    let shape = c.args.shape.now in
    let ss = c.args.scales.now in
    let cut = c.in-Some.cut in
    let region = c.args.head.now.region in
    let is = subst (λ (h : Head g.row.K). IsCutWithin shape (scales_of ss) h.region cut) (sym c.requires.head) c.in-Some.ensures.lawful in
    let inside = c.in-Some.ensures.attribute in (
      search rules,
      (
        search rules,
        (
          search rules,
          (
            inside,
            (
              is.within,
              (
                fresh-for shape ss region cut c.requires.lawful c.requires.scales c.requires.region inside is,
                (
                  λ d f. takes shape ss region cut c.requires.lawful c.requires.scales c.requires.region inside is d c.requires.limits f,
                  (few-after shape ss region cut c.requires.lawful c.requires.scales c.requires.region inside is, c.requires.refined),
                ),
              ),
            ),
          ),
        ),
      ),
    )

pub pages_of-pages-requires : goal.pages_of-pages-requires
pages_of-pages-requires g c = (search rules, (search rules, (omega arith, (are-dims g.row.K c.args.shape.now (scales_of c.args.scales.now) c.requires.lawful c.requires.scales, c.directory_by_cut-directory.ensures.fits))))

pub returns-clause-note : goal.returns-clause-note
returns-clause-note g c = λ L t e n due by. c.in-Some.ensures.noted L t e n due by ∙ ap (λ m. Some (note.Cut c.in-Some.cut m)) (sym by.number)

pub returns-clause-plan : goal.returns-clause-plan
returns-clause-plan g c = λ L t e n due by.
    let shape = c.args.shape.now in
    let head = c.args.head.now in
    let from = c.args.from.now in
    let made = c.directory_by_cut-directory in
    let number = head-number shape t e from c.requires.few c.requires.lawful c.fits-from due.there.spelled head c.requires.head in
    let region = head-region shape t e from c.requires.few c.requires.lawful c.fits-from due.there.spelled head c.requires.head in
    cut-plan shape L t c.args.row.now e from n head.number c.in-Some.cut c.args.unused made.result c.cut_of.new.left c.cut_of.new.right c.pages_of-pages.result (scales_of c.args.scales.now)
    due by (c.in-Some.ensures.noted L t e n due by) number (made.ensures.change L e (sym by.scales) region) c.pages_of-pages.ensures.value (c.in-Some.ensures.pages L t e n due by)

pub returns-clause-sound : goal.returns-clause-sound
returns-clause-sound g c =
    let shape = c.args.shape.now in
    let ss = c.args.scales.now in
    let cut = c.in-Some.cut in
    let region = c.args.head.now.region in
    let made = c.directory_by_cut-directory in
    let is = subst (λ (h : Head g.row.K). IsCutWithin shape (scales_of ss) h.region cut) (sym c.requires.head) c.in-Some.ensures.lawful in
    let inside = c.in-Some.ensures.attribute in
    cut-sound shape (scales_of ss) c.args.row.now c.args.head.now.number cut c.args.unused made.result c.pages_of-pages.result
    (scales-follow shape ss region cut c.requires.lawful c.requires.scales c.requires.region inside is) made.ensures.fits
    (fresh-for shape ss region cut c.requires.lawful c.requires.scales c.requires.region inside is)
    (cut-kind (scales_of ss) region cut c.args.unused made.result made.ensures.change) c.pages_of-pages.ensures.value
