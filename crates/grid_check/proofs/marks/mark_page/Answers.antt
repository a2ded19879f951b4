use Rattle.std.proofs.Common.{◌<◌, List, length, subst, arith}
use Rattle.std.proofs.lemmas.List.{take_all}
use Rattle.grid_types.specs.declared.update.Record.{Record}
use Rattle.grid_check.specs.Marks.{keys_in, MarksKeys}
use Rattle.grid_check.proofs.Marking.{page_step}
use Rattle.grid_check.proofs.marks.mark_page.Goals as goal

pub loop-i-preserved : goal.loop-i-preserved
loop-i-preserved g c = λ capacity b spelled long.
    let lt : c.loop-i.i < length b.rows = omega (arith, c.loop-i-test.true, long) in
    page_step b.rows c.loop-i.i c.record_on.result c.args.marks.now c.loop-i.marks c.turn_mark.new.marks lt (λ d. c.record_on.ensures d capacity b spelled (omega (arith, long, c.requires.many)) lt)
    (c.loop-i.invariant capacity b spelled long) c.turn_mark.ensures.after

pub returns : goal.returns
returns g c = λ capacity b spelled long.
    subst (λ (rows : List (Record g.row.K)). MarksKeys (keys_in rows) c.args.marks.now c.loop-i.marks) (take_all c.loop-i.i b.rows (omega (arith, c.loop-i-test.false, long)))
    (c.loop-i.invariant capacity b spelled long)
