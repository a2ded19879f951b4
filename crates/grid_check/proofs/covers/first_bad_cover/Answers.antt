use Rattle.std.proofs.Common.{◌≢◌, ℕ, List, Some, None, slice_index, slice_index_or, true≢false, sym, ap, subst, ◌∙◌, arith}
use Rattle.grid_types.specs.declared.region.Region.{Region}
use Rattle.grid_types.specs.Shapes.{data_page}
use Rattle.grid_types.proofs.Places.{within-limits}
use Rattle.grid_model.specs.Lawful.{nowhere}
use Rattle.grid_model.specs.Lists.{product}
use Rattle.linear_scales.specs.Limited.{scales_of}
use Rattle.grid_check.specs.Rules.{IsNamedBy, IsNumbered}
use Rattle.grid_check.specs.Reads.{AreNamed}
use Rattle.grid_check.specs.Covers.{region_under, AllName, NoneStrays}
use Rattle.grid_check.specs.declared.holding.Holding.{Holding}
use Rattle.grid_check.proofs.Counting.{below_next}
use Rattle.grid_check.proofs.Strays.{region_is_under, named_by}
use Rattle.grid_check.proofs.Covering.{strayed, clear_too, clear_there, unnamed, covers_judged}
use Rattle.grid_check.proofs.covers.first_bad_cover.Goals as goal

pub loop-number-preserved-then-not-is_numbered : goal.loop-number-preserved-then-not-is_numbered
loop-number-preserved-then-not-is_numbered g c =
    let i = c.loop-number.invariant in
    let n = c.loop-number.number in
    let table = c.args.table.now.items in
    let names = c.args.names.now in
    let scales = scales_of c.args.scales.now in
    let ns = c.args.dims.now.intervals in
    let region : ℕ → Region g.row.K = region_under {K = g.row.K} c.args.holdings.now in
    let none : IsNumbered table n → ⊥ = λ x. true≢false (sym (c.is_numbered.ensures.1 x) ∙ c.if-not-is_numbered.true) in
    record {
      good = below_next (λ m. slice_index table m ≢ nowhere → IsNamedBy {K = g.row.K} scales (λ j. slice_index names j) (region m) m) n i.good (λ some. absurd (none (record { inside = omega (arith, c.loop-number-test.true, c.requires.count); somewhere = some })));
      clear = below_next (λ m. NoneStrays {K = g.row.K} scales (λ j. slice_index names j) (region m) m (product ns)) n i.clear
          (subst (λ (x : List ℕ). NoneStrays {K = g.row.K} scales (λ j. slice_index names j) (region n) n (product x)) (sym c.requires.dims)
          (clear_there {K = g.row.K} scales table (λ j. slice_index names j) (region n) n (λ at lt. c.requires.named at (omega (arith, lt, c.requires.cells, ap product c.requires.dims))) none));
    }

pub returns-then-is_one : goal.returns-then-is_one
returns-then-is_one g c = record {
  judged = λ image listed named held.
      let s = c.args.geometry.now.shape in
      let n = c.loop-number.number in
      let table = c.args.table.now.items in
      let names = c.args.names.now in
      let scales = scales_of c.args.scales.now in
      let is = c.is_numbered.ensures.0 c.if-not-is_numbered.false in
      covers_judged {K = g.row.K} scales s c.requires.few (within-limits s c.args.geometry.now.lawful).small_capacity image listed table names c.args.holdings.now c.requires.room
      (subst (λ (x : List ℕ). AreNamed s image listed names (product x)) c.requires.dims named) held (Some c.data_page-page.result)
      (record {
        number = n;
        inside = is.inside;
        named = is.somewhere;
        page_is = c.data_page-page.ensures.value ∙ ap (λ l. data_page s (slice_index l n)) c.list.ensures.value;
        bad = strayed {K = g.row.K} scales (λ j. slice_index names j) (region_under {K = g.row.K} c.args.holdings.now) (product c.args.dims.now.intervals) n c.least_stray-stray.result c.least_stray-stray.ensures (c.is_one.ensures.0 c.if-is_one.true);
        before = c.loop-number.invariant.good;
      });
}

pub returns-then-not-region_names : goal.returns-then-not-region_names
returns-then-not-region_names g c = record {
  judged = λ image listed named held.
      let s = c.args.geometry.now.shape in
      let n = c.loop-number.number in
      let table = c.args.table.now.items in
      let names = c.args.names.now in
      let scales = scales_of c.args.scales.now in
      let holdings = c.args.holdings.now in
      let is = c.is_numbered.ensures.0 c.if-not-is_numbered.false in
      let d : Holding g.row.K = c.index-holdings-number.result in
      let h : Holding g.row.K = slice_index_or holdings n d in
      covers_judged {K = g.row.K} scales s c.requires.few (within-limits s c.args.geometry.now.lawful).small_capacity image listed table names holdings c.requires.room
      (subst (λ (x : List ℕ). AreNamed s image listed names (product x)) c.requires.dims named) held (Some c.data_page-page.result)
      (record {
        number = n;
        inside = is.inside;
        named = is.somewhere;
        page_is = c.data_page-page.ensures.value ∙ ap (λ l. data_page s (slice_index l n)) c.list.ensures.value;
        bad = λ by. unnamed {K = g.row.K} scales (λ j. slice_index names j) h.region n c.region_names.ensures.count h.lawful (λ all. true≢false (sym (c.region_names.ensures.named.1 all) ∙ c.if-not-region_names.true))
            (subst (λ r. IsNamedBy {K = g.row.K} scales (λ j. slice_index names j) r n) (region_is_under {K = g.row.K} holdings n (omega (arith, is.inside, c.requires.room)) d) by);
        before = c.loop-number.invariant.good;
      });
}

pub loop-number-preserved : goal.loop-number-preserved
loop-number-preserved g c =
    let i = c.loop-number.invariant in
    let n = c.loop-number.number in
    let table = c.args.table.now.items in
    let names = c.args.names.now in
    let scales = scales_of c.args.scales.now in
    let holdings = c.args.holdings.now in
    let ns = c.args.dims.now.intervals in
    let is = c.is_numbered.ensures.0 c.if-not-is_numbered.false in
    let d : Holding g.row.K = c.index-holdings-number.result in
    let h : Holding g.row.K = slice_index_or holdings n d in
    let region : ℕ → Region g.row.K = region_under {K = g.row.K} holdings in
    let clear : NoneStrays {K = g.row.K} scales (λ j. slice_index names j) (region n) n (product ns) =
    clear_too {K = g.row.K} scales (λ j. slice_index names j) region (product ns) n c.least_stray-stray.result c.least_stray-stray.ensures (λ e. true≢false (sym (c.is_one.ensures.1 e) ∙ c.if-is_one.false)) i.clear in
    record {
      good = below_next (λ m. slice_index table m ≢ nowhere → IsNamedBy {K = g.row.K} scales (λ j. slice_index names j) (region m) m) n i.good
          (λ some. named_by {K = g.row.K} scales (λ j. slice_index names j) (region n) n
          (subst (λ r. AllName {K = g.row.K} scales (λ j. slice_index names j) r n) (sym (region_is_under {K = g.row.K} holdings n (omega (arith, is.inside, c.requires.room)) d)) (c.region_names.ensures.named.0 c.if-not-region_names.false))
          (subst (λ (x : List ℕ). NoneStrays {K = g.row.K} scales (λ j. slice_index names j) (region n) n (product x)) c.requires.dims clear));
      clear = below_next (λ m. NoneStrays {K = g.row.K} scales (λ j. slice_index names j) (region m) m (product ns)) n i.clear clear;
    }

pub returns : goal.returns
returns g c = record {
  judged = λ image listed named held.
      let s = c.args.geometry.now.shape in
      let scales = scales_of c.args.scales.now in
      covers_judged {K = g.row.K} scales s c.requires.few (within-limits s c.args.geometry.now.lawful).small_capacity image listed c.args.table.now.items c.args.names.now c.args.holdings.now c.requires.room
      (subst (λ (x : List ℕ). AreNamed s image listed c.args.names.now (product x)) c.requires.dims named) held None
      (λ m lt. c.loop-number.invariant.good m (omega (arith, lt, c.loop-number-test.false, c.requires.count)));
}
