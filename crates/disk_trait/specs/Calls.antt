-- What a call leaves of a disk, each as one record over the trait's ghost members. Where a fact holds of a disk that tells its content alone, it says so itself.
use Rattle.std.specs.Prelude.{◌≡◌, ◌≤◌, List, ℕ, IsTrue, Result, IfErr, IsErrOf}
use Rattle.grid_types.specs.declared.refusal.Refusal.{Refusal}
use Rattle.grid_types.specs.declared.refusal.Refusal.TheVariants.{ReadFault, WriteFault}
use Rattle.disk_trait.specs.declared.disk.Disk.{Ghosts}
use Rattle.disk_trait.specs.Causes.{Rose}
use Rattle.disk_trait.specs.Disk.{Only}
use Rattle.disk_trait.specs.Moments.{After, Always, LeavesOnly, SameImages}

-- a call that only reads: what reads give and what a crash may leave stay, at each moment of it too, and no count falls
pub record OnlyReads {D : Type 0} (g : Ghosts D) (old new : D) : Type 0 where
  pub extent : g.extent new ≡ g.extent old
  pub honest : g.honest new ≡ g.honest old
  pub reads : g.read_count old ≤ g.read_count new
  pub writes : g.write_count old ≤ g.write_count new
  pub seen : IsTrue (g.honest old) → g.seen new ≡ g.seen old
  pub crash : IsTrue (g.honest old) → SameImages (g.may_leave old) (g.may_leave new)
  pub moments : IsTrue (g.honest old) → LeavesOnly g.moment g.left_since old new (g.may_leave old)

-- a call that changes images by this step alone: what reads give, what a crash now may leave, and what one at any moment of it might have left; no count falls
pub record Changes {D : Type 0} (g : Ghosts D) (step : List ℕ → List ℕ → Type 0) (old new : D) : Type 0 where
  pub extent : g.extent new ≡ g.extent old
  pub honest : g.honest new ≡ g.honest old
  pub reads : g.read_count old ≤ g.read_count new
  pub writes : g.write_count old ≤ g.write_count new
  pub outside : IsTrue (g.honest old) → step (g.seen old) (g.seen new)
  pub crash : IsTrue (g.honest old) → Always (g.may_leave new) (After step (g.may_leave old))
  pub moments : IsTrue (g.honest old) → LeavesOnly g.moment g.left_since old new (After step (g.may_leave old))

-- all is on the disk: a crash leaves what reads give
pub record IsSynced {D : Type 0} (g : Ghosts D) (disk : D) : Type 0 where
  pub only : IsTrue (g.honest disk) → Only (g.seen disk) (g.may_leave disk)

-- a refusal is one of those that may come, and a fault of the disk comes only where the disk's count of such failures rose
pub record HasCauses {D T : Type 0} (g : Ghosts D) (may_come : Refusal → Type 0) (old new : D) (result : Result T Refusal) : Type 0 where
  pub read_fault : IsErrOf result ReadFault → Rose (g.read_count old) (g.read_count new)
  pub write_fault : IsErrOf result WriteFault → Rose (g.write_count old) (g.write_count new)
  pub no_other : IfErr result may_come
