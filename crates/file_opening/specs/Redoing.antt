-- The redo of the updates of a file that is opened, one after the other.
use Rattle.std.specs.Prelude.{◌≡◌, ◌+◌, ◌∷◌, ℕ, List, length, Contains, ⊤}
use Rattle.grid_types.specs.declared.layout_change.LoggedUpdate.{LoggedUpdate}
use Rattle.grid_types.specs.declared.refusal.Refusal.{Refusal}
use Rattle.grid_types.specs.declared.refusal.Refusal.TheVariants.{ReadFault, WriteFault, Damaged}
use Rattle.grid_types.specs.declared.update.Update.{Update}
use Rattle.disk_trait.specs.declared.disk.Disk.{Ghosts}
use Rattle.grid_model.specs.Layouts.{BucketBox}
use Rattle.grid_model.specs.Spellings.{LoggedBatch}
use Rattle.file_books.specs.Books.{Books}
use Rattle.file_images.specs.Leads.{Standing, updates_in}
use Rattle.file_redo.specs.Redoing.{standing_behind}
use Rattle.update_plans.specs.declared.plan.Plan.{Plan}
use Rattle.update_plans.specs.Plans.{IsPlanOf}
use Rattle.grid_file.specs.Files.{OpenFile}
use Rattle.file_updates.specs.Ready.{IsReadyPlan}
use Rattle.file_opening.specs.declared.redo_batches.Redo.{Redo}
use Rattle.file_opening.specs.declared.redo_batches.Redo.TheVariants.{All, Unfit}
use Rattle.file_opening.specs.UnderWay.{IsUnderWay}

-- where the redo of a file stands
abbrev pub stands_at : {K : ℕ} {D : Type 0} {g : Ghosts D} {b : Books} {disk : D} {m : Standing K} {rest : List (LoggedUpdate K)} → IsUnderWay g b disk m rest → Standing K
stands_at {b = b} w = standing_behind b.rooted_at w.lineage w.done

-- a plan is ready in the books of a file, as that of some update
pub record IsReadyForSome {K : ℕ} (b : Books) (p : Plan K) : Type 0 where
  pub update : Update K
  pub ready : IsReadyPlan b update p

-- a file is being opened, and a plan is that of the next update over the layout and the table where the redo stands, with its note; and it is ready
pub record IsNextPlan {K : ℕ} {D : Type 0} (g : Ghosts D) (f : OpenFile D) (m : Standing K) (u : LoggedUpdate K) (rest : List (LoggedUpdate K)) (first second : List ℕ) (p : Plan K) : Type 0 where
  pub way : IsUnderWay g f.books f.disk m (u ∷ rest)
  pub box : ℕ × BucketBox K
  pub is : IsPlanOf f.books.shape (stands_at way).layout (stands_at way).table u.update box first second p
  pub noted : p.note ≡ u.note
  pub ready : IsReadyPlan f.books u.update p

-- books go on at the same root: the shape, the session and the root's number stay
pub record KeepsRoot (old new : Books) : Type 0 where
  pub shape : new.shape ≡ old.shape
  pub session : new.session ≡ old.session
  pub number : new.number ≡ old.number

-- which refusals may come of a redo: that a disk failed, or that a page is damaged
abbrev pub MayRefuseRedo : Refusal → Type 0
MayRefuseRedo ReadFault = ⊤
MayRefuseRedo WriteFault = ⊤
MayRefuseRedo (Damaged page) = ⊤
MayRefuseRedo other = ⊥

-- one of these batches begins at a place
pub record IsFirstOf {K : ℕ} (batches : List (LoggedBatch K)) (first : ℕ) : Type 0 where
  pub batch : LoggedBatch K
  pub among : Contains batches batch
  pub first_is : batch.first ≡ first

-- a redo of batches came as far as it says: each of their updates has its place, or one of the batches begins at the place that is named
abbrev pub CameSoFar : {K : ℕ} → Books → Books → List (LoggedBatch K) → Redo → Type 0
CameSoFar old new batches All = new.front ≡ old.front + length (updates_in batches)
CameSoFar old new batches (Unfit first) = IsFirstOf batches first
