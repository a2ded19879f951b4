use Rattle.std.proofs.Common.{◌∙◌, List, take, sym, ap, subst, arith}
use Rattle.std.specs.Prelude.{fold}
use Rattle.std.proofs.lemmas.List.{take_all}
use Rattle.grid_types.specs.declared.layout_change.LoggedUpdate.{LoggedUpdate}
use Rattle.grid_model.specs.Images.{logged_effect}
use Rattle.grid_model.specs.Tables.{IsTable}
use Rattle.grid_check.proofs.Counted.{tables_after, updates_of, updates_alike}
use Rattle.grid_check.proofs.Redone.{batch_more}
use Rattle.grid_check.proofs.redoing.redo_all.Goals as goal

pub loop-batch-preserved : goal.loop-batch-preserved
loop-batch-preserved g c = λ table.
    let i = c.loop-batch.batch-index in
    let bs = c.list-batch-items.result.now in
    let before = c.loop-batch.invariant table in
    let mid = subst IsTable (sym before) (tables_after (updates_of {K = g.row.K} (take i bs)) c.args.table.now.entries table) in
    batch_more bs i c.batch-item.result c.loop-batch-test.true c.batch-item.is c.args.table.now.entries c.loop-batch.table.entries c.redo_batch.new.table.entries before
    (c.in_ok-redo_batch.ensures mid ∙ ap (λ (us : List (LoggedUpdate g.row.K)). fold logged_effect c.loop-batch.table.entries us) c.as_slice.ensures.value)

pub returns : goal.returns
returns g c = λ table.
    let bs = c.list-batch-items.result.now in
    c.loop-batch.invariant table
    ∙ ap (λ (us : List (LoggedUpdate g.row.K)). fold logged_effect c.args.table.now.entries us)
    (ap (updates_of {K = g.row.K}) (take_all c.loop-batch.batch-index bs (omega (arith, c.loop-batch-test.false))) ∙ updates_alike bs c.args.taken.now c.list-batch-items.ensures)
