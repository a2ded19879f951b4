-- What a bay has under a name once a file was made there, and why none is made.
use Rattle.std.specs.Prelude.{◌≢◌, ◌⊎◌, ℕ, List, IsTrue}
use Rattle.grid_types.specs.declared.shape.Shape.{Shape}
use Rattle.disk_trait.specs.declared.bay.Bay.{Ghosts as Bays}
use Rattle.disk_trait.specs.declared.disk.Disk.{Ghosts}
use Rattle.disk_trait.specs.Bay.{Absent}
use Rattle.disk_trait.specs.Causes.{Rose}
use Rattle.disk_trait.specs.Moments.{Always}
use Rattle.file_images.specs.Leads.{HasStanding}
use Rattle.file_images.specs.NewFiles.{new_standing}

-- a disk has a new file of a shape: it tells its content, and what reads give and each image that a crash may leave stand for place 0 and the empty table
pub record IsMade {D : Type 0} (g : Ghosts D) (s : Shape) (disk : D) : Type 0 where
  pub told : IsTrue (g.honest disk)
  pub stands : HasStanding (g.seen disk) (new_standing s.k)
  pub crash : Always (g.may_leave disk) (λ image. HasStanding image (new_standing s.k))

-- a bay tells its names, and has something under this one
abbrev pub IsTaken : {B D : Type 0} → Bays B D → B → List ℕ → Type 0
IsTaken b bay name = IsTrue (b.tells bay) × (b.place bay name ≢ Absent)

-- a device failed: the name was taken, or the bay's count of failures rose
abbrev pub IsDeviceFault : {B D : Type 0} → Bays B D → List ℕ → B → B → Type 0
IsDeviceFault b name old new = IsTaken b old name ⊎ Rose (b.fault_count old) (b.fault_count new)
