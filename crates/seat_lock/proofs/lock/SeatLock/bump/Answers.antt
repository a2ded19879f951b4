use Rattle.std.proofs.Common.{rules, ◌+◌, ◌%◌, ◌^◌, bit_and}
use Rattle.seat_lock.proofs.Turning.{change_keeps_rule}
use Rattle.seat_lock.proofs.lock.SeatLock.bump.Goals as goal

pub fetch_add-requires : goal.fetch_add-requires
fetch_add-requires g c = (search rules, search rules, change_keeps_rule g.C.Stepped _ _ _ _ (λ n. (n + 2) % 2 ^ 64))

pub fetch_and-requires : goal.fetch_and-requires
fetch_and-requires g c = (search rules, search rules, change_keeps_rule g.C.Stepped _ _ _ _ (λ n. bit_and n 18446744073709551614))
