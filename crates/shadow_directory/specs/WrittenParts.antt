-- What the writing of one part of a change leaves.
use Rattle.std.specs.Prelude.{◌≡◌, ◌+◌, ◌++◌, ◌∷◌, [], ℕ, List, Result, OnOk, OnErr, IfErr}
use Rattle.grid_types.specs.declared.owner.Owner.TheVariants.{Part}
use Rattle.grid_types.specs.declared.refusal.Refusal.{Refusal}
use Rattle.grid_model.specs.Spellings.{directory_spelling}
use Rattle.directory_changes.specs.declared.change.DirectoryChange.{DirectoryChange}
use Rattle.shadow_directory.specs.declared.pages.ChangePages.{Ghosts}
use Rattle.shadow_directory.specs.Pages.{BeganFor}
use Rattle.shadow_directory.specs.Calls.{Keeps, Tells, IsCause, IsFault, WrotePart}
use Rattle.shadow_directory.specs.Directories.{IsPartAfter}

-- a part of a change is written: its page is the one after the change where the old pages are told, nothing else is written, and a failure has its cause
pub record WritesPart {P T : Type 0} {K : ℕ} (g : Ghosts P) (ns : List ℕ) (change : DirectoryChange K) (part : ℕ) (result : Result T Refusal) (old new : P) (bytes : List ℕ) : Type 0 where
  pub written : (D after : List ℕ) → Tells g old ns D → IsPartAfter ns change D part after → OnOk result (g.written new ≡ g.written old ++ (Part part, directory_spelling part after) ∷ [])
  pub honest : (D : List ℕ) → Tells g old ns D → IfErr result IsFault
  pub cause : IfErr result (IsCause g ns old new bytes)
  pub same : Keeps g old new
  pub wrote : OnOk result (WrotePart part (g.written old) (g.written new))
  pub began : OnErr result (BeganFor (Part part ∷ []) (g.written old) (g.written new))
  pub left : OnOk result (g.room new + 1 ≡ g.room old)
