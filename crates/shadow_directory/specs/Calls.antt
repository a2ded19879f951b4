-- What a call leaves of the pages of a change, each as one record over the trait's ghost members, and why it fails.
use Rattle.std.specs.Prelude.{◌≡◌, ◌<◌, ◌≤◌, ◌*◌, ◌++◌, ◌∷◌, [], ℕ, List, Option, Some, Result, IfErr, ⊤}
use Rattle.grid_types.specs.declared.owner.Owner.{Owner}
use Rattle.grid_types.specs.declared.owner.Owner.TheVariants.{Part}
use Rattle.grid_types.specs.declared.refusal.Refusal.{Refusal}
use Rattle.grid_types.specs.declared.refusal.Refusal.TheVariants.{ReadFault, WriteFault, Damaged}
use Rattle.grid_types.specs.declared.sizes.TheConstants.{WORDS_ON_PAGE}
use Rattle.grid_model.specs.Lists.{product}
use Rattle.grid_model.specs.Tables.{Table}
use Rattle.grid_model.specs.Layouts.{Layout}
use Rattle.history_pages.specs.OwnerPages.{owner_page}
use Rattle.disk_trait.specs.Causes.{Rose}
use Rattle.directory_pages.specs.Spelling.{IsDirectoryPage}
use Rattle.directory_pages.specs.CellBoxes.{cells_on}
use Rattle.shadow_directory.specs.declared.pages.ChangePages.{Ghosts}
use Rattle.shadow_directory.specs.Directories.{SpellDirectory}

-- what each call leaves: what is told of the pages, the number of parts, where each part lies, all that has to stay, and that no count falls
pub record Keeps {P : Type 0} (g : Ghosts P) (old new : P) : Type 0 where
  pub told : g.pages new ≡ g.pages old
  pub count : g.parts new ≡ g.parts old
  pub lies : (part page : ℕ) → g.lies_at new part page → g.lies_at old part page
  pub rest : g.stays old new
  pub reads : g.read_count old ≤ g.read_count new
  pub writes : g.write_count old ≤ g.write_count new

-- a call that only reads leaves what was written, and how many pages may still be, beside that
pub record OnlyReads {P : Type 0} (g : Ghosts P) (old new : P) : Type 0 where
  pub keeps : Keeps g old new
  pub written : g.written new ≡ g.written old
  pub room : g.room new ≡ g.room old

-- what is told of the pages spells a directory
pub record Tells {P : Type 0} (g : Ghosts P) (pages : P) (ns D : List ℕ) : Type 0 where
  pub given : Owner → Option (List ℕ)
  pub told : g.pages pages ≡ Some given
  pub spell : SpellDirectory ns D given

-- a page of the file was read for a part, and is not that part's page with its number of cells
pub record IsDamagedPart {P : Type 0} (g : Ghosts P) (ns : List ℕ) (pages : P) (bytes : List ℕ) (page : ℕ) : Type 0 where
  pub part : ℕ
  pub below : WORDS_ON_PAGE * part < product ns
  pub lies : g.lies_at pages part page
  pub not_spelled : IsDirectoryPage part (cells_on ns part) bytes → ⊥

-- why a change is not written: a failed read or write whose count rose, or a damaged page that was read for a part
abbrev pub IsCause : {P : Type 0} → Ghosts P → List ℕ → P → P → List ℕ → Refusal → Type 0
IsCause g ns old new bytes ReadFault = Rose (g.read_count old) (g.read_count new)
IsCause g ns old new bytes WriteFault = Rose (g.write_count old) (g.write_count new)
IsCause g ns old new bytes (Damaged page) = IsDamagedPart g ns old bytes page
IsCause g ns old new bytes _ = ⊥

-- a failed read or write, and no damage
abbrev pub IsFault : Refusal → Type 0
IsFault ReadFault = ⊤
IsFault WriteFault = ⊤
IsFault _ = ⊥

-- a buffer holds an old part, where one is named: it is that part's page, and the one that is told
pub record Holds {P : Type 0} (g : Ghosts P) (ns : List ℕ) (pages : P) (held : Option ℕ) (bytes : List ℕ) : Type 0 where
  pub below : (q : ℕ) → held ≡ Some q → WORDS_ON_PAGE * q < product ns
  pub spelled : (q : ℕ) → held ≡ Some q → IsDirectoryPage q (cells_on ns q) bytes
  pub told : (q : ℕ) (f : Owner → Option (List ℕ)) → held ≡ Some q → g.pages pages ≡ Some f → f (Part q) ≡ Some bytes

-- a page was written for a part, and nothing else
pub record WrotePart (part : ℕ) (old new : List (Owner × List ℕ)) : Type 0 where
  pub bytes : List ℕ
  pub is : new ≡ old ++ (Part part, bytes) ∷ []

-- what is told of the pages is the page of each owner of a layout and a table
pub record TellsPages {P : Type 0} (g : Ghosts P) {K : ℕ} (pages : P) (L : Layout K) (t : Table) : Type 0 where
  pub given : Owner → Option (List ℕ)
  pub told : g.pages pages ≡ Some given
  pub each : (o : Owner) → given o ≡ owner_page L t o

-- old parts are read: nothing else is done, a failure has its cause, and none but a failed read comes where the pages are told
pub record ReadsOld {P T : Type 0} (g : Ghosts P) (ns : List ℕ) (result : Result T Refusal) (old new : P) (bytes : List ℕ) : Type 0 where
  pub honest : (D : List ℕ) → Tells g old ns D → IfErr result IsFault
  pub cause : IfErr result (IsCause g ns old new bytes)
  pub same : OnlyReads g old new
