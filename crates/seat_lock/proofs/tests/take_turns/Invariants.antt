use Rattle.seat_lock.specs.Chairs.{IsSeated}
use Rattle.seat_lock.specs.Locks.{table_of}
use Rattle.seat_lock.proofs.tests.take_turns.Given as goal

abbrev pub invariant-loop-k : goal.invariant-loop-k
invariant-loop-k g l = IsSeated (table_of l.lock) l.chair
