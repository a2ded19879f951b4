use Rattle.std.proofs.Common.{◌∷◌, [], refl, sym, subst}
use Rattle.grid_check.specs.Marks.{CountsRecords}
use Rattle.grid_check.proofs.Counted.{put_counted, removal_counted}
use Rattle.grid_check.proofs.updates.count_update.Goals as goal

pub returns-in-Put : goal.returns-in-Put
returns-in-Put g c =
    subst (CountsRecords (c.args.logged.now ∷ []) c.args.marks.now c.turn_mark.new.marks c.args.records) (sym c.with_one.ensures)
    (put_counted c.in-Put.row.key.numbers c.args.marks.now c.turn_mark.new.marks c.turn_mark.result c.turn_mark.ensures.before c.args.records c.args.logged.now c.in-Put.row c.in-Put.is refl c.turn_mark.ensures.after)

pub returns-in-Remove : goal.returns-in-Remove
returns-in-Remove g c =
    subst (CountsRecords (c.args.logged.now ∷ []) c.args.marks.now c.turn_mark-in-Remove.new.marks c.args.records) (sym c.without_one.ensures)
    (removal_counted c.in-Remove.key.numbers c.args.marks.now c.turn_mark-in-Remove.new.marks c.turn_mark-in-Remove.result c.turn_mark-in-Remove.ensures.before c.args.records c.args.logged.now c.in-Remove.key c.in-Remove.is refl c.turn_mark-in-Remove.ensures.after)
