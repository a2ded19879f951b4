-- What the writing of an update's new pages leaves of an open file, and why it fails.
use Rattle.std.specs.Prelude.{◌≡◌, ◌<◌, ◌*◌, ℕ, List, length}
use Rattle.grid_types.specs.declared.owner.Owner.TheVariants.{Part}
use Rattle.grid_types.specs.declared.refusal.Refusal.{Refusal}
use Rattle.grid_types.specs.declared.refusal.Refusal.TheVariants.{ReadFault, WriteFault, Damaged}
use Rattle.grid_types.specs.declared.sizes.TheConstants.{WORDS_ON_PAGE}
use Rattle.grid_model.specs.Cells.{cells, dims}
use Rattle.disk_trait.specs.declared.disk.Disk.{Ghosts}
use Rattle.disk_trait.specs.Causes.{Rose}
use Rattle.directory_pages.specs.Spelling.{IsDirectoryPage}
use Rattle.directory_pages.specs.CellBoxes.{cells_on}
use Rattle.directory_changes.specs.Changes.{parts_changed, IsChangeOf}
use Rattle.layout_pages.specs.Steps.{owners_renewed}
use Rattle.file_books.specs.Books.{Books}
use Rattle.file_books.specs.Effects.{Publishing}
use Rattle.update_plans.specs.declared.plan.Plan.{Plan}
use Rattle.grid_file.specs.Files.{OpenFile, with_claim, without_claim}
use Rattle.grid_file.specs.Keeping.{KeepsFile}
use Rattle.grid_file.specs.Pages.{file_page}

-- a plan counts its new pages: its change is one of the directory, and it has as many pages as owners that it renews
pub record CountsPages {K : ℕ} (b : Books) (p : Plan K) : Type 0 where
  pub directory : IsChangeOf (dims b.scales) p.directory
  pub pages : p.pages ≡ length (owners_renewed p.bucket p.note (parts_changed (dims b.scales) p.directory))

-- a plan with its new pages, as what is published
abbrev pub publishing_by : {K : ℕ} → Plan K → List ℕ → Publishing K
publishing_by p pages = record { bucket = p.bucket; note = p.note; directory = p.directory; pages = pages; change = p.records }

-- nothing came of the writing of so many pages: they were claimed, some of them may have been written, and all were given back
pub record IsGivenBack (K : ℕ) {D : Type 0} (g : Ghosts D) (count : ℕ) (old new : OpenFile D) : Type 0 where
  pub failed : OpenFile D
  pub keeps : KeepsFile K g (with_claim count old) failed
  pub back : new ≡ without_claim failed

-- the page of a directory part was read, stands on that page of the file, and is not that part's page with its number of cells
pub record IsDamagedPart (b : Books) (bytes : List ℕ) (page : ℕ) : Type 0 where
  pub part : ℕ
  pub below : WORDS_ON_PAGE * part < cells b.scales
  pub stands : page ≡ file_page b (Part part)
  pub not_spelled : IsDirectoryPage part (cells_on (dims b.scales) part) bytes → ⊥

-- why new pages are not written: a failed read or write whose count rose, or a damaged page of the directory, whose bytes are these
abbrev pub IsWriteRefusal : {D : Type 0} → Ghosts D → OpenFile D → OpenFile D → List ℕ → Refusal → Type 0
IsWriteRefusal g old new bytes ReadFault = Rose (g.read_count old.disk) (g.read_count new.disk)
IsWriteRefusal g old new bytes WriteFault = Rose (g.write_count old.disk) (g.write_count new.disk)
IsWriteRefusal g old new bytes (Damaged page) = IsDamagedPart old.books bytes page
IsWriteRefusal g old new bytes _ = ⊥
