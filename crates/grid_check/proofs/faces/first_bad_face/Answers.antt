use Rattle.std.proofs.Common.{Some, None, ℕ, get_or, slice_index, true≢false, ap, sym, ◌∙◌, arith}
use Rattle.grid_types.specs.declared.region.Region.{Region}
use Rattle.grid_types.specs.Shapes.{data_page}
use Rattle.grid_types.proofs.Places.{within-limits}
use Rattle.grid_model.specs.Layouts.{IsDrawn}
use Rattle.linear_scales.specs.Limited.{scales_of}
use Rattle.grid_check.specs.Rules.{HasFaces}
use Rattle.grid_check.specs.declared.holding.Holding.{Holding}
use Rattle.grid_check.proofs.Held.{rule_on_all}
use Rattle.grid_check.proofs.Alike.{as_numbers}
use Rattle.grid_check.proofs.faces.first_bad_face.Goals as goal

pub returns-then-not-has_faces : goal.returns-then-not-has_faces
returns-then-not-has_faces g c = record {
  judged = λ image held.
      let s = c.args.geometry.now.shape in
      let table = c.args.table.now.items in
      let scales = scales_of c.args.scales.now in
      let holdings = c.args.holdings.now in
      let n = c.loop-number.number in
      let rule : ℕ → Region g.row.K → Type 0 = λ m r. IsDrawn {K = g.row.K} scales (record { region = r; turn = 0 }) in
      let is = c.is_numbered.ensures.0 c.if-not-is_numbered.false in
      as_numbers s table (λ m. (d : Holding g.row.K) → rule m (get_or holdings m d).region) (HasFaces g.row.K s image scales table)
      (rule_on_all {K = g.row.K} s c.requires.few (within-limits s c.args.geometry.now.lawful).small_capacity image table holdings c.requires.room held rule) (Some c.data_page.result)
      (record {
        number = n;
        inside = is.inside;
        named = is.somewhere;
        page_is = c.data_page.ensures.value ∙ ap (λ l. data_page s (slice_index l n)) c.list.ensures.value;
        bad = λ each. true≢false (sym (c.has_faces.ensures.1 (each c.index-holdings-number.result)) ∙ c.if-not-has_faces.true);
        before = c.loop-number.invariant.good;
      });
}

pub returns : goal.returns
returns g c = record {
  judged = λ image held.
      let s = c.args.geometry.now.shape in
      let table = c.args.table.now.items in
      let scales = scales_of c.args.scales.now in
      let holdings = c.args.holdings.now in
      let rule : ℕ → Region g.row.K → Type 0 = λ m r. IsDrawn {K = g.row.K} scales (record { region = r; turn = 0 }) in
      as_numbers s table (λ m. (d : Holding g.row.K) → rule m (get_or holdings m d).region) (HasFaces g.row.K s image scales table)
      (rule_on_all {K = g.row.K} s c.requires.few (within-limits s c.args.geometry.now.lawful).small_capacity image table holdings c.requires.room held rule) None
      (λ m lt. c.loop-number.invariant.good m (omega (arith, lt, c.loop-number-test.false, c.requires.count)));
}
