use Rattle.std.proofs.Common.{◌≡◌, ◌<◌, ℕ, false}
use Rattle.grid_types.specs.Regions.{touch_along}
use Rattle.grid_types.proofs.region.Region.makes_a_box.Given as goal

abbrev pub invariant-loop-a : goal.invariant-loop-a
invariant-loop-a g l = (k : ℕ) → k < l.a → touch_along l.self l.other k ≡ false
