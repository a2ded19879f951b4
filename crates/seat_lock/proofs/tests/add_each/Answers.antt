use Rattle.std.proofs.Common.{ℕ, arith, subst}
use Rattle.seat_lock.specs.Chairs.{Sight, IsSeated}
use Rattle.seat_lock.specs.Locks.{table_of}
use Rattle.seat_lock.proofs.tests.add_each.Goals as goal

pub returns : goal.returns
returns g c = λ k d inside. let len = c.for_each_mut.auto.s in let h = c.for_each_mut.ensures k d (omega arith) in
    subst (λ (s : Sight ℕ ℕ). IsSeated (table_of c.args.lock.now) s) h.1.left h.1.call
