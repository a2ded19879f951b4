use Rattle.std.proofs.Common.{◌<◌, ◌≤◌, ◌+◌, ◌/◌, ◌∙◌, [], length, true≢false, IsTrue, sym, ap, subst, arith}
use Rattle.std.proofs.lemmas.List.{length-map}
use Rattle.grid_model.specs.Scales.{is_scale}
use Rattle.root_pages.specs.Fields.{model_fields}
use Rattle.root_pages.specs.Areas.{IsScalePage, SpellsScale}
use Rattle.root_pages.proofs.KindsOfPages.{scale_entries}
use Rattle.linear_scales.specs.Limited.{LimitedScale, scales_of}
use Rattle.file_roots.specs.Damage.{SpellsUpTo}
use Rattle.file_roots.specs.Gathering.{area_in}
use Rattle.file_roots.proofs.Spelled.{count_on}
use Rattle.file_roots.proofs.Growing.{grow_scale, grow_past}
use Rattle.file_roots.proofs.Agreeing.{scale_agrees}
use Rattle.file_roots.proofs.Verdicts.{scale_judged, scale_short, limit_at}
use Rattle.file_roots.proofs.judging.take_scale.Goals as goal

pub returns-then-not-is_scale_page-clause-taken : goal.returns-then-not-is_scale_page-clause-taken
returns-then-not-is_scale_page-clause-taken g c = record {
  gathered = λ image page had yes. absurd (true≢false (sym yes));
  refused = λ image page had no a further.
      let s = c.args.geometry.now.shape in
      let r = model_fields c.args.fields.now in
      let lawful = c.args.geometry.now.lawful in
      let here = scale_judged s image r lawful c.requires.root c.args.i a further c.requires.scale in
      let judged : IsScalePage r.number c.args.i c.boundaries_on-count.result c.args.page.now = subst (λ n. IsScalePage r.number c.args.i n c.args.page.now) (sym c.boundaries_on-count.ensures) (subst (λ p. IsScalePage r.number c.args.i (count_on s image r lawful c.requires.root c.args.i) p) page here) in
      absurd (true≢false (sym (c.is_scale_page.ensures.1 judged) ∙ c.if-not-is_scale_page.true));
}

pub returns-then-a-clause-taken : goal.returns-then-a-clause-taken
returns-then-a-clause-taken g c = record {
  gathered = λ image page had yes.
      let old = c.args.gathered.now in
      let h = c.is_scale_page.ensures.0 c.if-not-is_scale_page.false in
      let outside : length (scales_of old.scales) ≤ c.args.i / 2 = omega (arith, length-map old.scales (λ t. t.boundaries), c.requires.room.scales, c.if-a.true) in
      record {
        spelled = grow_past c.args.geometry.now.shape image (model_fields c.args.fields.now) c.args.geometry.now.lawful c.requires.root c.args.i (area_in old) had.spelled h.entries c.requires.scale outside (page ∙ h.spelled.bytes) (h.count_is ∙ c.boundaries_on-count.ensures);
        marked = had.marked;
      };
  refused = λ image page had no. absurd (true≢false no);
}

pub returns-clause-taken : goal.returns-clause-taken
returns-clause-taken g c =
    let s = c.args.geometry.now.shape in
    let r = model_fields c.args.fields.now in
    let lawful = c.args.geometry.now.lawful in
    let old = c.args.gathered.now in
    let h = c.is_scale_page.ensures.0 c.if-not-is_scale_page.false in
    let on = scale_entries r.number c.args.i c.boundaries_on-count.result c.args.page.now h.entries h.spelled h.count_is in
    record {
      gathered = λ image page had yes.
          let inside : c.args.i / 2 < length (scales_of old.scales) = omega (arith, length-map old.scales (λ t. t.boundaries), c.requires.room.scales, c.if-a.false) in
          let scale = c.take_boundaries.ensures.scale (had.spelled.scales (c.args.i / 2)) h.entries on yes in
          let grown = grow_scale s image r lawful c.requires.root c.args.i (area_in old) had.spelled h.entries c.requires.scale inside (page ∙ h.spelled.bytes) (h.count_is ∙ c.boundaries_on-count.ensures) scale in
          record {
            spelled = subst (λ ss. SpellsUpTo s image r (c.args.i + 1) (record { scales = ss; parts = old.parts.items; table = old.table.items })) (sym (c.take_boundaries.ensures.taken h.entries on yes)) grown;
            marked = had.marked;
          };
      refused = λ image page had no a further.
          let here : SpellsScale r.number c.args.i _ h.entries = subst (λ p. SpellsScale r.number c.args.i p h.entries) (sym page) h.spelled in
          let agrees = scale_agrees s image r lawful c.requires.root c.args.i (area_in old) a had.spelled further h.entries c.requires.scale here in
          let d : LimitedScale = record { boundaries = []; limit = 0 } in
          let limit = limit_at g.row.K s.boundaries old.scales (c.args.i / 2) d c.requires.room.scales c.requires.room.limits c.if-a.false in
          c.take_boundaries.ensures.refused h.entries on no d (omega (arith, limit, ap length agrees, scale_short s image r lawful c.requires.root c.args.i a further (c.args.i / 2)))
          (subst (λ ys. IsTrue (is_scale ys)) agrees (further.scales (c.args.i / 2)));
    }
