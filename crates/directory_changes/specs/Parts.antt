-- Which parts a change renews, one after the other.
use Rattle.std.specs.Prelude.{◌≡◌, ◌≤◌, ℕ, List, false, IsTrue}
use Rattle.grid_model.specs.Lists.{is_among}
use Rattle.directory_changes.specs.declared.change.DirectoryChange.{DirectoryChange}
use Rattle.directory_changes.specs.Changes.{parts_changed}

-- a part is the next from another one on that a change renews: it renews it, and none between them
pub record IsNextChanged {K : ℕ} (ns : List ℕ) (change : DirectoryChange K) (from part : ℕ) : Type 0 where
  pub from_on : from ≤ part
  pub changed : IsTrue (is_among (parts_changed ns change) part)
  pub least : (other : ℕ) → from ≤ other → IsTrue (is_among (parts_changed ns change) other) → part ≤ other

-- a change renews no part from this one on
abbrev pub IsNoneChanged : {K : ℕ} → List ℕ → DirectoryChange K → ℕ → Type 0
IsNoneChanged ns change from = (part : ℕ) → from ≤ part → is_among (parts_changed ns change) part ≡ false
