use Rattle.std.proofs.Common.{Some, None, true≢false, ap, sym, ◌∙◌, arith, slice_index}
use Rattle.grid_types.specs.Shapes.{data_page}
use Rattle.grid_model.proofs.Boxes.{some-not-none}
use Rattle.grid_check.specs.Reads.{AreNumbered}
use Rattle.grid_check.specs.Rules.{HasCells}
use Rattle.grid_check.proofs.Alike.{as_listed, numbered_cells, all_numbered}
use Rattle.grid_check.proofs.cells.first_bad_cell.Goals as goal

pub returns-then-not-are_numbered : goal.returns-then-not-are_numbered
returns-then-not-are_numbered g c = record {
  judged = λ image named.
      let s = c.args.geometry.now.shape in
      let ns = c.args.dims.now.intervals in
      let listed = c.args.parts.now.items in
      let table = c.args.table.now.items in
      let names = c.args.names.now in
      as_listed s listed (AreNumbered table names) (HasCells s image ns listed table) (numbered_cells s image ns listed table names c.requires.cells named) (Some c.data_page.result)
      (record {
        part = c.loop-part.part;
        inside = omega (arith, c.loop-part-test.true, c.loop-part.auto.part-end, c.cells.ensures, c.requires.count);
        page_is = c.data_page.ensures.value ∙ ap (λ l. data_page s (slice_index l c.loop-part.part)) c.list.ensures.value;
        bad = λ are. true≢false (sym (c.if-not-are_numbered.ensures.1 are));
        before = c.loop-part.invariant.good;
      });
  numbered = λ e. absurd (some-not-none c.data_page.result e);
}

pub returns : goal.returns
returns g c = record {
  judged = λ image named.
      let s = c.args.geometry.now.shape in
      let ns = c.args.dims.now.intervals in
      let listed = c.args.parts.now.items in
      let table = c.args.table.now.items in
      let names = c.args.names.now in
      as_listed s listed (AreNumbered table names) (HasCells s image ns listed table) (numbered_cells s image ns listed table names c.requires.cells named) None
      (λ p lt. c.loop-part.invariant.good p (omega (arith, lt, c.loop-part-test.false, c.loop-part.auto.part-end, c.cells.ensures, c.requires.count)));
  numbered = λ e. all_numbered c.args.table.now.items c.args.names.now c.loop-part.part c.loop-part.invariant.good (omega (arith, c.loop-part-test.false, c.cells.ensures, c.requires.cells));
}
