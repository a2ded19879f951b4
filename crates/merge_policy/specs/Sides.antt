-- A direction in which a neighbour is sought, as the model sees it.
use Rattle.std.specs.Prelude.{ℕ}
use Rattle.grid_model.specs.Neighbours as model
use Rattle.merge_policy.specs.declared.direction.Direction.{Direction}
use Rattle.merge_policy.specs.declared.direction.Direction.TheVariants.{Below, Above}

-- the attribute of a direction
abbrev pub attribute_of : Direction → ℕ
attribute_of (Below a) = a
attribute_of (Above a) = a

-- the model's direction: the same side of the same attribute
abbrev pub direction_of : Direction → model.Direction
direction_of (Below a) = model.Below a
direction_of (Above a) = model.Above a
