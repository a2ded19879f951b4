use Rattle.std.proofs.Common.{◌≡◌, ℕ, length, sym, subst, arith}
use Rattle.journal_slots.proofs.LastGates.{AreUpToLast, last_gate_is}
use Rattle.journal_slots.proofs.gates.slots_in_use.Goals as goal

pub returns-clause-value : goal.returns-clause-value
returns-clause-value c =
    let end : c.loop-i.i ≡ length c.args.gates.now = omega (arith, c.loop-i-test.false, c.loop-i.auto.i-end) in
    sym (last_gate_is c.args.gates.now c.loop-i.used (subst (λ (n : ℕ). AreUpToLast c.args.gates.now n c.loop-i.used) end c.loop-i.invariant.used))
