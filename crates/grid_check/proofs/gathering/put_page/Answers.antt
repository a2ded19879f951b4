use Rattle.std.proofs.Common.{◌<◌, ◌∙◌, List, length, ap, arith}
use Rattle.std.proofs.lemmas.List.{take_all}
use Rattle.grid_types.specs.declared.update.Record.{Record}
use Rattle.grid_model.proofs.Gathered.{put_in}
use Rattle.grid_check.specs.Dumps.{put_all}
use Rattle.grid_check.proofs.Redone.{fold_more, insert_is_put}
use Rattle.grid_check.proofs.gathering.put_page.Goals as goal

pub loop-i-preserved : goal.loop-i-preserved
loop-i-preserved g c = λ capacity b spelled long.
    let lt : c.loop-i.i < length b.rows = omega (arith, c.loop-i-test.true, long) in
    let r = c.record_on-key.result in
    fold_more put_in b.rows c.loop-i.i r lt (c.record_on-key.ensures r capacity b spelled (omega (arith, long, c.requires.many)) lt) c.args.table.now.entries c.loop-i.table.entries c.insert.new.self.entries
    (c.loop-i.invariant capacity b spelled long) (c.in_ok-insert.ensures.entries ∙ insert_is_put r.key.numbers r.value c.loop-i.table.entries)

pub returns : goal.returns
returns g c = λ capacity b spelled long.
    c.loop-i.invariant capacity b spelled long ∙ ap (λ (rows : List (Record g.row.K)). put_all c.args.table.now.entries rows) (take_all c.loop-i.i b.rows (omega (arith, c.loop-i-test.false, long)))
