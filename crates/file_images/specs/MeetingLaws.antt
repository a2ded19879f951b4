-- What is promised of a disk that meets what a file keeps.
use Rattle.std.specs.Prelude.{◌≡◌, ◌≢◌, ◌≤◌, ◌*◌, ℕ, List, IsTrue}
use Rattle.grid_types.specs.declared.shape.Shape.{Shape}
use Rattle.grid_types.specs.declared.sizes.TheConstants.{PAGE_BYTES}
use Rattle.grid_types.specs.Shapes.{file_pages}
use Rattle.disk_trait.specs.declared.disk.Disk.{Ghosts}
use Rattle.disk_trait.specs.Calls.{IsSynced}
use Rattle.disk_trait.specs.Moments.{Always}
use Rattle.file_images.specs.Kept.{Shut, Flying, Kept}
use Rattle.file_images.specs.Shows.{HoldsPages, Shows}
use Rattle.file_images.specs.Meets.{Meets, Covers}
use Rattle.file_images.specs.Steps.{with_settled, with_turned}
use Rattle.file_images.specs.Leads.{Standing, HasStanding, Leads, HasStandingOrBehind}
use Rattle.file_images.specs.NewFiles.{IsNewFile, new_kept, new_standing}

-- what covers goes on covering: it covers itself, and what is covered by what it covers; and an image that shows it shows what is covered
pub record CoversLess (K : ℕ) : Type 0 where
  pub itself : (k : Kept K) → Covers k k
  pub onward : (first second third : Kept K) → Covers first second → Covers second third → Covers first third
  pub shows : (then now : Kept K) (image : List ℕ) → Covers then now → Shows then image → Shows now image
  pub settled : (k : Kept K) (pages : List ℕ) (image : List ℕ) → HoldsPages k.shape k.fresh image → Shows k image → Shows (with_settled k pages) image

-- a disk that meets what was asked meets what is covered by it; what its pages read as they always hold once all is on the disk; where nothing is on the next slot, the halves' roles may be exchanged; and each image that a crash may leave has the standing to which what is kept leads, or the one behind the batch in doubt
pub record MeetingStands (K : ℕ) {D : Type 0} (g : Ghosts D) : Type 0 where
  pub covered : (then now : Kept K) (d : D) → Covers then now → Meets g then d → Meets g now d
  pub settled : (k : Kept K) (pages : List ℕ) (d : D) → IsSynced g d → Meets g k d → Meets g (with_settled k pages) d
  pub turned : (k : Kept K) (d : D) → k.next ≡ Shut → Meets g k d → Meets g (with_turned k) d
  pub stands : (k : Kept K) (m : Standing K) (d : D) → IsTrue (g.honest d) → k.next ≢ Flying → Leads k m → Meets g k d → Always (g.may_leave d) (λ image. HasStandingOrBehind k image m)

-- a disk whose bytes are those of a new file, all of them on it, meets what a new file keeps; and each image that a crash may leave of it has the standing of a new file
pub record NewFilesMeet (K : ℕ) {D : Type 0} (g : Ghosts D) : Type 0 where
  pub meets : (s : Shape) (d : D) → file_pages s * PAGE_BYTES ≤ g.extent d → IsSynced g d → (IsTrue (g.honest d) → IsNewFile K s (g.seen d)) → Meets g (new_kept K s) d
  pub stands : (s : Shape) (d : D) → IsTrue (g.honest d) → IsSynced g d → IsNewFile K s (g.seen d) → Always (g.may_leave d) (λ image. HasStanding image (new_standing K))
