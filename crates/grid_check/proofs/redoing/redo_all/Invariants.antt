use Rattle.std.proofs.Common.{◌≡◌, take}
use Rattle.std.specs.Prelude.{fold}
use Rattle.grid_model.specs.Images.{logged_effect}
use Rattle.grid_model.specs.Tables.{IsTable}
use Rattle.grid_check.proofs.Counted.{updates_of}
use Rattle.grid_check.proofs.redoing.redo_all.Given as goal

abbrev pub invariant-loop-batch : goal.invariant-loop-batch
invariant-loop-batch g l = IsTable l.initial.table.entries → l.table.entries ≡ fold logged_effect l.initial.table.entries (updates_of (take l.batch-index l.batch-items))
