use Rattle.std.proofs.Common.{◌+◌, ◌++◌, ◌∙◌, true≢false, sym, subst, arith}
use Rattle.std.proofs.lemmas.Result.{IfOk-at_ok}
use Rattle.grid_types.proofs.Places.{within-limits}
use Rattle.grid_model.specs.Lawful.{pages_named}
use Rattle.root_pages.specs.Fields.{model_fields}
use Rattle.root_pages.specs.Areas.{IsListPage, SpellsList}
use Rattle.root_pages.proofs.KindsOfPages.{list_entries}
use Rattle.linear_scales.specs.Limited.{scales_of}
use Rattle.file_roots.specs.Damage.{SpellsUpTo}
use Rattle.file_roots.specs.Gathering.{AreMarked, area_in, pages_in}
use Rattle.file_roots.proofs.Growing.{grow_list}
use Rattle.file_roots.proofs.Agreeing.{list_agrees}
use Rattle.file_roots.proofs.Outcomes.{if_ok_is}
use Rattle.file_roots.proofs.Verdicts.{list_judged, list_names, taken_more, rest_named}
use Rattle.file_roots.proofs.judging.take_list.Goals as goal

pub is_list_page-requires : goal.is_list_page-requires
is_list_page-requires g c = let w = within-limits c.args.geometry.now.shape c.args.geometry.now.lawful in omega (arith, c.requires.root.parts, c.requires.root.few_cells, w.few_cells)

pub returns-then-not-is_list_page-clause-taken : goal.returns-then-not-is_list_page-clause-taken
returns-then-not-is_list_page-clause-taken g c = record {
  gathered = λ image page had yes. absurd (true≢false (sym yes));
  refused = λ image page had no a further.
      let r = model_fields c.args.fields.now in
      let judged : IsListPage r.number c.args.i r.parts c.args.page.now = subst (λ p. IsListPage r.number c.args.i r.parts p) page (list_judged c.args.geometry.now.shape image r c.args.geometry.now.lawful c.requires.root c.args.i a further c.requires.list) in
      absurd (true≢false (sym (c.is_list_page.ensures.1 judged) ∙ c.if-not-is_list_page.true));
}

pub returns-clause-taken : goal.returns-clause-taken
returns-clause-taken g c =
    let s = c.args.geometry.now.shape in
    let r = model_fields c.args.fields.now in
    let lawful = c.args.geometry.now.lawful in
    let old = c.args.gathered.now in
    let room = c.requires.room.marks in
    let takes = c.take_pages.ensures in
    let h = c.is_list_page.ensures.0 c.if-not-is_list_page.false in
    let xs = h.entries in
    let on = list_entries r.number c.args.i r.parts c.args.page.now xs h.spelled h.count_is in
    if_ok_is c.take_pages.result (λ t is. record {
      gathered = λ image page had yes.
          let names = list_names old.parts.items old.table.items xs (omega (arith, had.spelled.numbers, c.requires.list)) in
          let now = taken_more s c.take_pages.new.marks.items _ (pages_in (area_in old)) xs _ room names had.spelled.named (IfOk-at_ok _ is (takes.inside xs on) yes) (IfOk-at_ok _ is (takes.marked xs (pages_in (area_in old)) on had.marked) yes) in
          let grown = grow_list s image r lawful c.requires.root c.args.i (area_in old) had.spelled xs c.requires.list (page ∙ h.spelled.bytes) h.count_is now.named now.marked.distinct in
          let added = sym (IfOk-at_ok _ is (takes.taken xs on) yes) in
          record {
            spelled = subst (λ ys. SpellsUpTo s image r (c.args.i + 1) (record { scales = scales_of old.scales; parts = ys; table = old.table.items })) added grown;
            marked = subst (λ ys. AreMarked c.take_pages.new.marks.items (ys ++ pages_named old.table.items)) added now.marked;
          };
      refused = λ image page had no a further.
          let here : SpellsList r.number c.args.i _ xs = subst (λ p. SpellsList r.number c.args.i p xs) (sym page) h.spelled in
          let agrees = list_agrees s image r lawful c.requires.root c.args.i (area_in old) a had.spelled further xs c.requires.list here in
          let rest = rest_named s _ (pages_in (area_in old)) xs _ room agrees further.named further.distinct in
          IfOk-at_ok _ is (takes.refused xs (pages_in (area_in old)) on had.marked) no rest.0 rest.1;
    })
