use Rattle.std.proofs.Common.{arith}
use Rattle.checkpoints.proofs.tests.root_left.Goals as goal

pub open-requires : goal.open-requires
open-requires g c =
    let l = c.in-Ok.ensures.lawful in
    (omega arith, (omega arith, (l.attributes, (l.root, (l.limits, (l.few 0 (omega arith), l.few 1 (omega arith)))))))
