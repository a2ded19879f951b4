use Rattle.std.proofs.Common.{◌≡◌, ◌<◌, ◌+◌, ◌%◌, ℕ, None}
use Rattle.grid_model.specs.Cuts.{refinement}
use Rattle.linear_scales.specs.Limited.{scales_of}
use Rattle.split_policy.specs.Rows.{keys_of}
use Rattle.split_policy.proofs.refinement.first_refinement.Given as goal

abbrev pub invariant-loop-s : goal.invariant-loop-s
invariant-loop-s g l = (k : ℕ) → k < l.s → refinement l.shape (scales_of l.scales) (keys_of l.rows) ((l.turn + k) % g.row.K) ≡ None
