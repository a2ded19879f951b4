-- What an update works in.
use Rattle.std.specs.Prelude.{◌≡◌, ℕ, replicate}
use Rattle.grid_types.specs.declared.shape.Shape.{Shape}
use Rattle.linear_scales.specs.Limited.{limits_of}
use Rattle.file_updates.specs.declared.room.UpdateRoom.{UpdateRoom}

-- room is for files of a shape: the scales that it lends may have as many boundaries as theirs
abbrev pub HasRoomFor : {K : ℕ} → Shape → UpdateRoom K → Type 0
HasRoomFor {K} shape room = limits_of room.refined ≡ replicate K shape.boundaries
