use Rattle.std.proofs.Common.{All}
use Rattle.seat_lock.specs.Chairs.{IsSeated}
use Rattle.seat_lock.specs.Locks.{table_of}
use Rattle.seat_lock.proofs.tests.gather_all.Given as goal

abbrev pub invariant-loop : goal.invariant-loop
invariant-loop g l = IsSeated (table_of l.lock) l.chair × All (IsSeated (table_of l.lock)) l.others.items
