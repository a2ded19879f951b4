use Rattle.std.proofs.Common.{◌≡◌, ◌<◌, ℕ, [], ◌∷◌, ◌++◌, List, Option, Some, sym, ap, ◌∙◌, subst}
use Rattle.atomic_table.specs.Table.{opening}
use Rattle.seat_lock.specs.Rule.{Ruled}
use Rattle.seat_lock.specs.Views.{first_view}
use Rattle.seat_lock.proofs.Opening.{opening_meets_rule}
use Rattle.seat_lock.proofs.lock.SeatLock.open.Goals as goal

pub new-requires : goal.new-requires
new-requires g c = let S = g.C.Stepped in let core = c.args.core in let some_places = subst (λ (n : ℕ). 0 < n) c.requires.seats.0 c.requires.seats.1 in
    let e : c.push_reserved.new.self.items ≡ Some core ∷ [] = c.push_reserved.ensures.items ∙ ap (λ (l : List (Option g.row.C.Denot)). l ++ Some core ∷ []) c.in-Ok.ensures.items in
    subst (λ (z : ℕ × List (Option g.row.C.Denot) × g.row.C.Denot). Ruled S (S.front_is z.2) (opening (z.0 ∷ 0 ∷ 0 ∷ []) z.1 (first_view (S.front_is z.2) (S.part_at z.2 0))))
    (λ i. (sym c.front.ensures i, sym e i, sym c.of-about.ensures i)) (opening_meets_rule S g.met.C.Stepped.laws.onward_self core some_places c.requires.place c.requires.safe)
