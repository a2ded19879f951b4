use Rattle.std.proofs.Common.{◌∙◌, ℕ, All, ap, sym, subst, arith}
use Rattle.std.proofs.lemmas.List.Elements.{All-push}
use Rattle.seat_lock.specs.Chairs.{IsSeated}
use Rattle.seat_lock.specs.Locks.{table_of}
use Rattle.seat_lock.specs.declared.view.View.{View}
use Rattle.seat_lock.proofs.adding.split_all.Goals as goal

pub loop-made-preserved : goal.loop-made-preserved
loop-made-preserved g c = let d = c.loop-made.invariant in let e = c.in-Ok.ensures in let s = e.ok.1 in let IsOurs = IsSeated {E = ℕ} {P = ℕ} (table_of c.args.lock.now) in (
  (c.split.ensures.own ∙ d.0.0, (s.fork.place, s.fork.new, ap (λ (v : View ℕ ℕ). v.seat) s.fork.view)),
  subst (All IsOurs) (sym c.in_ok-push.ensures.items) (All-push IsOurs c.loop-made.others.items c.in-Ok.other d.1 (e.other ∙ d.0.0, (e.ok.0, s.given, ap (λ (v : View ℕ ℕ). v.seat) s.view))),
  omega (arith, c.in_ok-push.ensures.len, d.2),
)
