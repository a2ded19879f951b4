use Rattle.std.proofs.Common.{◌≡◌, ◌++◌, map, take, drop}
use Rattle.disk_memory.specs.Plans.{nearer}
use Rattle.disk_memory.proofs.plan.Plan.is_next_chosen.Given as goal

abbrev pub invariant-loop-call : goal.invariant-loop-call
invariant-loop-call l = l.call-items ≡ map nearer (take l.call-index l.initial.call-items) ++ drop l.call-index l.initial.call-items
