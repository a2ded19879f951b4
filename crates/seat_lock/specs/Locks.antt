-- A lock, as its callers see it.
use Rattle.std.specs.Prelude.{ℕ}
use Rattle.atomic_table.specs.Seated.{TableId}
use Rattle.seat_lock.specs.declared.lock.SeatLock.{SeatLock}

module _ {C Ev R P E : Type 0} where
  -- the table of the lock, by which its own chairs are known
  abbrev pub table_of : SeatLock C Ev R P E → TableId
  table_of lock = lock.table.shared.table_id

  -- how many places its value has
  abbrev pub seat_count : SeatLock C Ev R P E → ℕ
  seat_count lock = lock.seats
