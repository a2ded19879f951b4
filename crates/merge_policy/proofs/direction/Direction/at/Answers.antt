use Rattle.std.proofs.Common.{arith}
use Rattle.merge_policy.proofs.Sides.{below-at, above-at, past-all}
use Rattle.merge_policy.proofs.direction.Direction.at.Goals as goal

-- src/direction.rt:25:13
pub returns-then-i-clause-value : goal.returns-then-i-clause-value
returns-then-i-clause-value g c = past-all g.row.K c.args.i c.if-i.true

-- src/direction.rt:19:5
pub returns-then-i-eq0-clause-value : goal.returns-then-i-eq0-clause-value
returns-then-i-eq0-clause-value g c = below-at g.row.K c.args.i (omega (arith, c.if-i.false)) c.if-i-eq0.true

-- src/direction.rt:19:5
pub returns-else-i-eq0-clause-value : goal.returns-else-i-eq0-clause-value
returns-else-i-eq0-clause-value g c = above-at g.row.K c.args.i (omega (arith, c.if-i.false)) c.if-i-eq0.false
