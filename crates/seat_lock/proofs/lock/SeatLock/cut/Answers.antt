use Rattle.std.proofs.Common.{rules, ℕ, Option, sym, subst}
use Rattle.atomic_table.specs.Table.{Splits}
use Rattle.seat_lock.specs.Rule.{Ruled}
use Rattle.seat_lock.specs.Views.{resting_view, seat_at, with_note}
use Rattle.seat_lock.proofs.Placing.{cut_keeps_rule}
use Rattle.seat_lock.proofs.lock.SeatLock.cut.Goals as goal

pub split_seat-requires : goal.split_seat-requires
split_seat-requires g c = let S = g.C.Stepped in let v = c.args.seat.now.me.0 in let id = c.args.seat.now.id in let from = S.front_is c.args.self.now.table.shared.key.value in (
  search rules,
  search rules,
  subst (λ (z : ℕ × Option g.row.C-Part.Denot). Splits (Ruled S from) id v (with_note z.0 z.1 v) (resting_view v.from v.seen (seat_at z.0 z.1)))
      (λ i. (sym c.requires.given.0 i, sym c.requires.given.1 i)) (cut_keeps_rule S from id v c.args.place _ c.requires.free),
)
