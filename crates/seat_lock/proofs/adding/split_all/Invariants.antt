use Rattle.std.proofs.Common.{◌≡◌, All, vec_len}
use Rattle.seat_lock.specs.Chairs.{IsSeated}
use Rattle.seat_lock.specs.Locks.{table_of}
use Rattle.seat_lock.proofs.adding.split_all.Given as goal

abbrev pub invariant-loop-made : goal.invariant-loop-made
invariant-loop-made g l = IsSeated (table_of l.lock) l.chair × All (IsSeated (table_of l.lock)) l.others.items × (vec_len l.others ≡ l.made)
