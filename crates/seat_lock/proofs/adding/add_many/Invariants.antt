use Rattle.std.proofs.Common.{◌+◌, ◌≤◌, length}
use Rattle.seat_lock.specs.Chairs.{IsSeated}
use Rattle.seat_lock.specs.Locks.{table_of}
use Rattle.seat_lock.proofs.adding.add_many.Given as goal

abbrev pub invariant-loop-done : goal.invariant-loop-done
invariant-loop-done g l = IsSeated (table_of l.lock) l.chair × (length l.initial.chair.seen + l.done ≤ length l.chair.seen)
