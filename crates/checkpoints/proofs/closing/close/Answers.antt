use Rattle.checkpoints.proofs.Numbers.{next-known}
use Rattle.checkpoints.proofs.closing.close.Goals as goal

pub returns-in_err-close_root-clause-moments : goal.returns-in_err-close_root-clause-moments
returns-in_err-close_root-clause-moments g c = λ k at was.
    c.in_err-close_root.ensures.moments g.row.K k (next-known k c.args.state.now c.geometry-geometry.result.shape c.number-number.result c.geometry-geometry.ensures.shape c.number-number.ensures at) was

pub returns-clause-moments : goal.returns-clause-moments
returns-clause-moments g c = λ k at was.
    c.in_ok-close_root.ensures.moments g.row.K k (next-known k c.args.state.now c.geometry-geometry.result.shape c.number-number.result c.geometry-geometry.ensures.shape c.number-number.ensures at) was

pub returns-clause-closed : goal.returns-clause-closed
returns-clause-closed g c = λ k at was.
    c.in_ok-close_root.ensures.closed g.row.K k (next-known k c.args.state.now c.geometry-geometry.result.shape c.number-number.result c.geometry-geometry.ensures.shape c.number-number.ensures at) was
