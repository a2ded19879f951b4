use Rattle.std.proofs.Common.{◌≡◌, ◌+◌, ◌-◌, ◌*◌, ◌++◌, ◌∙◌, length, true≢false, sym, ap, subst, arith}
use Rattle.std.specs.Prelude.{min}
use Rattle.std.proofs.lemmas.Result.{IfOk-at_ok}
use Rattle.grid_model.specs.Lawful.{pages_named}
use Rattle.root_pages.specs.Fields.{model_fields}
use Rattle.root_pages.specs.Areas.{IsTablePage, SpellsTable}
use Rattle.root_pages.proofs.KindsOfPages.{table_entries}
use Rattle.linear_scales.specs.Limited.{scales_of}
use Rattle.file_roots.specs.Damage.{SpellsUpTo}
use Rattle.file_roots.specs.Gathering.{AreMarked, area_in, pages_in}
use Rattle.file_roots.proofs.Growing.{grow_table}
use Rattle.file_roots.proofs.Agreeing.{table_agrees}
use Rattle.file_roots.proofs.Outcomes.{if_ok_is}
use Rattle.file_roots.proofs.Verdicts.{table_judged, table_names, taken_more, rest_named}
use Rattle.file_roots.proofs.judging.take_table.Goals as goal

pub returns-then-not-is_table_page-clause-taken : goal.returns-then-not-is_table_page-clause-taken
returns-then-not-is_table_page-clause-taken g c = record {
  gathered = λ image page had yes. absurd (true≢false (sym yes));
  refused = λ image page had no a further.
      let s = c.args.geometry.now.shape in
      let r = model_fields c.args.fields.now in
      let here = table_judged s image r c.args.geometry.now.lawful c.requires.root c.args.i a further c.requires.table c.requires.inside in
      let count : c.min-count.result ≡ min 1000 (s.pages - 1000 * (c.args.i - 9)) = omega (arith, c.min-count.ensures) in
      let judged : IsTablePage r.number c.args.i c.min-count.result c.args.page.now = subst (λ n. IsTablePage r.number c.args.i n c.args.page.now) (sym count) (subst (λ p. IsTablePage r.number c.args.i (min 1000 (s.pages - 1000 * (c.args.i - 9))) p) page here) in
      absurd (true≢false (sym (c.is_table_page.ensures.1 judged) ∙ c.if-not-is_table_page.true));
}

pub returns-clause-taken : goal.returns-clause-taken
returns-clause-taken g c =
    let s = c.args.geometry.now.shape in
    let r = model_fields c.args.fields.now in
    let lawful = c.args.geometry.now.lawful in
    let old = c.args.gathered.now in
    let room = c.requires.room.marks in
    let takes = c.take_pages.ensures in
    let h = c.is_table_page.ensures.0 c.if-not-is_table_page.false in
    let xs = h.entries in
    let on = table_entries r.number c.args.i c.min-count.result c.args.page.now xs h.spelled h.count_is in
    let count : length xs ≡ min 1000 (s.pages - 1000 * (c.args.i - 9)) = omega (arith, h.count_is, c.min-count.ensures) in
    let names = table_names old.parts.items old.table.items xs in
    if_ok_is c.take_pages.result (λ t is. record {
      gathered = λ image page had yes.
          let now = taken_more s c.take_pages.new.marks.items _ (pages_in (area_in old)) (pages_named xs) _ room names had.spelled.named (IfOk-at_ok _ is (takes.inside xs on) yes) (IfOk-at_ok _ is (takes.marked xs (pages_in (area_in old)) on had.marked) yes) in
          let grown = grow_table s image r lawful c.requires.root c.args.i (area_in old) had.spelled xs c.requires.table (page ∙ h.spelled.bytes) count now.named now.marked.distinct in
          let added = sym (IfOk-at_ok _ is (takes.taken xs on) yes) in
          record {
            spelled = subst (λ ys. SpellsUpTo s image r (c.args.i + 1) (record { scales = scales_of old.scales; parts = old.parts.items; table = ys })) added grown;
            marked = subst (λ ys. AreMarked c.take_pages.new.marks.items (old.parts.items ++ pages_named ys)) added now.marked;
          };
      refused = λ image page had no a further.
          let here : SpellsTable r.number c.args.i _ xs = subst (λ p. SpellsTable r.number c.args.i p xs) (sym page) h.spelled in
          let agree = table_agrees s image r lawful c.requires.root c.args.i (area_in old) a had.spelled further xs c.requires.table c.requires.inside here in
          let agrees : pages_in a ≡ pages_in (area_in old) ++ pages_named xs = ap (λ ys. ys ++ pages_named a.table) agree.0 ∙ ap (λ ys. old.parts.items ++ pages_named ys) agree.1 ∙ names in
          let rest = rest_named s _ (pages_in (area_in old)) (pages_named xs) _ room agrees further.named further.distinct in
          IfOk-at_ok _ is (takes.refused xs (pages_in (area_in old)) on had.marked) no rest.0 rest.1;
    })
