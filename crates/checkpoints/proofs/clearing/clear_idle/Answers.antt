use Rattle.grid_types.specs.Halves.{half_number}
use Rattle.grid_types.specs.Shapes.{slot_gate_at}
use Rattle.checkpoints.proofs.Disks.{clearing-synced}
use Rattle.checkpoints.proofs.clearing.clear_idle.Goals as goal

pub returns-clause-durable : goal.returns-clause-durable
returns-clause-durable g c = λ was.
    clearing-synced {D = g.row.D.Denot} (slot_gate_at c.geometry-geometry.result.shape (half_number c.idle-half.result) 0) c.used-used.result was c.in_ok-clear_half.ensures.changes c.in_ok-clear_half.ensures.durable
