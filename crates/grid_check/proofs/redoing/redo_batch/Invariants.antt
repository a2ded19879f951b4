use Rattle.std.proofs.Common.{◌≡◌, take}
use Rattle.std.specs.Prelude.{fold}
use Rattle.grid_model.specs.Images.{logged_effect}
use Rattle.grid_model.specs.Tables.{IsTable}
use Rattle.grid_check.proofs.redoing.redo_batch.Given as goal

abbrev pub invariant-loop-logged : goal.invariant-loop-logged
invariant-loop-logged g l = IsTable l.initial.table.entries → l.table.entries ≡ fold logged_effect l.initial.table.entries (take l.logged-index l.updates)
