use Rattle.std.proofs.Common.{IfSome, Option, ℕ, subst}
use Rattle.std.proofs.lemmas.List.Elements.{All-pop}
use Rattle.seat_lock.specs.Chairs.{Sight, IsSeated}
use Rattle.seat_lock.specs.Locks.{table_of}
use Rattle.seat_lock.proofs.tests.gather_all.Goals as goal

pub gather-requires-clause-other : goal.gather-requires-clause-other
gather-requires-clause-other g c = let P = IsSeated {E = ℕ} {P = ℕ} (table_of c.args.lock.now) in
    subst (λ (r : Option (Sight ℕ ℕ)). IfSome r P) c.in-Some.is (All-pop P c.loop.others.items c.pop.new.self.items c.pop.result c.pop.ensures.items c.loop.invariant.1).1

pub loop-preserved : goal.loop-preserved
loop-preserved g c = (c.gather.ensures, (All-pop (IsSeated (table_of c.args.lock.now)) c.loop.others.items c.pop.new.self.items c.pop.result c.pop.ensures.items c.loop.invariant.1).0)
