-- An image that reads as a table has none of the damages for which a file is refused.
use Rattle.std.specs.Prelude.{◌≡◌, ◌<◌, ◌≤◌, ◌+◌, ◌*◌, ℕ, List, length, take, codes}
use Rattle.grid_types.specs.declared.sizes.TheConstants.{PAGE_BYTES}
use Rattle.grid_types.specs.FilePages.{FilePage, page_number, HasPage}
use Rattle.grid_types.specs.Pages.{page_of}
use Rattle.grid_model.specs.Tables.{Table}
use Rattle.grid_model.specs.Images.{Reads}
use Rattle.journal_slots.specs.Scans.{IsFirstBadPage}
use Rattle.file_roots.specs.Damage.{IsRootDamage}

-- an image that reads as a table is undamaged: it is a grid file, whose header pages say one shape and whose pages are all there; no page is damaged as far as its roots go, nor in either half of its journal
pub record ReadsUndamaged (K : ℕ) : Type 0 where
  pub kind : (image : List ℕ) (n : ℕ) (t : Table) → Reads K image n t → take 8 (page_of 0 image) ≡ codes "GRIDFILE"
  pub shapes : (image : List ℕ) (n : ℕ) (t : Table) → Reads K image n t → take 64 (page_of 1 image) ≡ take 64 (page_of 0 image)
  pub whole : (image : List ℕ) (n : ℕ) (t : Table) (r : Reads K image n t) (p : FilePage) → HasPage r.found.shape p → (page_number r.found.shape p + 1) * PAGE_BYTES ≤ length image
  pub roots : (image : List ℕ) (n : ℕ) (t : Table) (r : Reads K image n t) (page : ℕ) → IsRootDamage r.found.shape image page → ⊥
  pub journal : (image : List ℕ) (n : ℕ) (t : Table) (r : Reads K image n t) (half page : ℕ) → half < 2 → IsFirstBadPage K r.found.shape image half page → ⊥
