use Rattle.std.proofs.Common.{◌≡◌, flat_map}
use Rattle.grid_model.specs.Lists.{below}
use Rattle.grid_model.specs.Cuts.{candidates_in}
use Rattle.linear_scales.specs.Limited.{scales_of}
use Rattle.split_policy.specs.Rows.{keys_of}
use Rattle.split_policy.specs.Candidates.{best_of}
use Rattle.split_policy.proofs.existing.best_existing.Given as goal

abbrev pub invariant-loop-a : goal.invariant-loop-a
invariant-loop-a g l = l.best ≡ best_of (keys_of l.rows) (flat_map (candidates_in (scales_of l.scales) l.region (keys_of l.rows)) (below l.a))
