-- What each section of a root step leaves of the length of a disk, and of what is on it.
use Rattle.std.proofs.Common.{◌≡◌, ◌≤◌, ◌+◌, ℕ, zero, suc, List, IsTrue, ◌++◌, drop, sym, subst, ◌∙◌, arith}
use Rattle.std.proofs.lemmas.List.{take-append-drop}
use Rattle.grid_model.specs.Spellings.{RootFields}
use Rattle.disk_trait.specs.declared.disk.Disk.{Ghosts}
use Rattle.disk_trait.specs.Calls.{Changes, IsSynced}
use Rattle.disk_trait.specs.Disk.{Agrees, Stays}
use Rattle.disk_trait.proofs.Calls.{changes_wider, changes_then, synced_then_stays}
use Rattle.file_roots.specs.Writing.{HeaderStep}
use Rattle.file_roots.proofs.Sections.{header_changes}
use Rattle.checkpoints.specs.Disks.{KeepsLength}

-- images that differ at most in no byte are one
agrees-none : (at : ℕ) (c d : List ℕ) → Agrees at 0 c d → Stays c d
agrees-none at c d a =
    let zero-more : at + 0 ≡ at = omega arith in
    let after : drop at d ≡ drop at c = subst (λ (n : ℕ). drop n d ≡ drop n c) zero-more a.after in
    sym (take-append-drop at d) ∙ (λ i. a.before i ++ after i) ∙ take-append-drop at c

module _ {D : Type 0} {g : Ghosts D} where
  -- a range alone changes
  pub range-keeps : {at n : ℕ} {old new : D} → Changes g (Agrees at n) old new → Changes g KeepsLength old new
  range-keeps r = changes_wider (λ x y a. a.same_length) r

  -- a header page alone changes
  pub header-keeps : (fields : RootFields) {old new : D} → (IsTrue (g.honest old) → g.may_leave old (g.seen old)) → Changes g (HeaderStep fields (g.seen old)) old new → Changes g KeepsLength old new
  header-keeps fields law r = changes_wider (λ x y a. a.same_length) (header_changes fields law r)

  -- one section behind another
  pub keeps-then : {old mid new : D} → Changes g KeepsLength old mid → Changes g KeepsLength mid new → Changes g KeepsLength old new
  keeps-then r s = changes_then (λ x y a. a) (λ x y z a b. b ∙ a) r s

  -- where no gate is written all is on the disk that was
  pub clearing-synced : (at n : ℕ) {old new : D} → IsSynced g old → Changes g (Agrees at n) old new → (1 ≤ n → IsSynced g new) → IsSynced g new
  clearing-synced at zero was r durable = synced_then_stays was (changes_wider (λ x y a. agrees-none at x y a) r)
  clearing-synced at (suc n) was r durable = durable (omega arith)
