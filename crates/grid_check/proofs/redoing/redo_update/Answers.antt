use Rattle.std.proofs.Common.{◌∙◌, ap}
use Rattle.std.specs.BTreeMap.{insert_entry}
use Rattle.grid_types.specs.Keys.{key_cmp}
use Rattle.grid_check.proofs.Redone.{put_redone, removal_redone}
use Rattle.grid_check.proofs.redoing.redo_update.Goals as goal

pub returns-in_ok-insert-in-Put : goal.returns-in_ok-insert-in-Put
returns-in_ok-insert-in-Put g c = λ table.
    put_redone c.args.logged.now c.args.table.now.entries c.insert.new.self.entries c.in-Put.row c.in-Put.is
    (c.in_ok-insert-in-Put.ensures.entries ∙ ap (insert_entry key_cmp c.args.table.now.entries c.in-Put.row.key.numbers) c.copy.ensures)

pub returns-in-Remove : goal.returns-in-Remove
returns-in-Remove g c = λ table.
    removal_redone c.args.logged.now c.args.table.now.entries c.remove.new.self.entries c.in-Remove.key c.in-Remove.is table c.remove.ensures.entries
