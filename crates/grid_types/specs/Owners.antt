-- Owners of data pages.
use Rattle.std.specs.Prelude.{Bool, false, ◌==◌}
use Rattle.grid_types.specs.declared.owner.Owner.{Owner}
use Rattle.grid_types.specs.declared.owner.Owner.TheVariants.{Bucket, Part}

-- two owners are one: both are buckets or both are parts, of one number
abbrev pub same_owner : Owner → Owner → Bool
same_owner (Bucket a) (Bucket b) = a == b
same_owner (Part a) (Part b) = a == b
same_owner _ _ = false
