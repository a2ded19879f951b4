use Rattle.std.proofs.Common.{◌∙◌, List, take, sym, ap, subst, arith}
use Rattle.std.specs.Prelude.{fold}
use Rattle.std.proofs.lemmas.List.{take_all}
use Rattle.grid_types.specs.declared.layout_change.LoggedUpdate.{LoggedUpdate}
use Rattle.grid_model.specs.Images.{logged_effect}
use Rattle.grid_model.specs.Tables.{IsTable}
use Rattle.grid_check.proofs.Counted.{tables_after}
use Rattle.grid_check.proofs.Redone.{fold_more}
use Rattle.grid_check.proofs.redoing.redo_batch.Goals as goal

pub loop-logged-preserved : goal.loop-logged-preserved
loop-logged-preserved g c = λ table.
    let i = c.loop-logged.logged-index in
    let us = c.args.updates.now in
    let before = c.loop-logged.invariant table in
    let mid = subst IsTable (sym before) (tables_after (take i us) c.args.table.now.entries table) in
    fold_more logged_effect us i c.logged-item.result c.loop-logged-test.true c.logged-item.is c.args.table.now.entries c.loop-logged.table.entries c.redo_update.new.table.entries before (c.in_ok-redo_update.ensures mid)

pub returns : goal.returns
returns g c = λ table.
    c.loop-logged.invariant table ∙ ap (λ (us : List (LoggedUpdate g.row.K)). fold logged_effect c.args.table.now.entries us) (take_all c.loop-logged.logged-index c.args.updates.now (omega (arith, c.loop-logged-test.false)))
