-- The pages of a file at one place of its history: what a reading gives, and when they are those of a layout and a table.
use Rattle.std.specs.Prelude.{◌≡◌, ◌≤◌, ◌+◌, ℕ, List, Option, Some, None, Result, Ok, Err, ⊤}
use Rattle.grid_types.specs.declared.owner.Owner.{Owner}
use Rattle.grid_types.specs.declared.shape.Shape.{Shape}
use Rattle.grid_model.specs.Tables.{Table}
use Rattle.grid_model.specs.Layouts.{Layout}
use Rattle.grid_model.specs.LayoutLaws.{StandsOver}
use Rattle.grid_model.specs.Lone.{owners}
use Rattle.history_pages.specs.OwnerPages.{owner_page}

-- an owner's page was read: these bytes are what readings of the owner give, where that is told, and that page of the file has them
pub record IsPageOf (pages : Option (Owner → Option (List ℕ))) (file_page : Owner → ℕ) (o : Owner) (bytes : List ℕ) (at : ℕ) : Type 0 where
  pub given : (told : Owner → Option (List ℕ)) → pages ≡ Some told → told o ≡ Some bytes
  pub stands : at ≡ file_page o

-- a reading that does not fail reads an owner's page
abbrev pub IsRead : {E : Type 0} → Option (Owner → Option (List ℕ)) → (Owner → ℕ) → Owner → List ℕ → Result ℕ E → Type 0
IsRead pages file_page o bytes (Ok at) = IsPageOf pages file_page o bytes at
IsRead pages file_page o bytes (Err e) = ⊤

-- a reading that does not fail reads an owner's page, where there is one
abbrev pub IsReadIfThere : {E : Type 0} → Option (Owner → Option (List ℕ)) → (Owner → ℕ) → Owner → List ℕ → Result (Option ℕ) E → Type 0
IsReadIfThere pages file_page o bytes (Ok (Some at)) = IsPageOf pages file_page o bytes at
IsReadIfThere pages file_page o bytes (Ok None) = ⊤
IsReadIfThere pages file_page o bytes (Err e) = ⊤

-- a call makes so many steps, or where it fails at most as many
abbrev pub MakesSteps : {T E : Type 0} → ℕ → ℕ → ℕ → Result T E → Type 0
MakesSteps n old new (Ok x) = new ≡ old + n
MakesSteps n old new (Err e) = (old ≤ new) × (new ≤ old + n)

-- a call makes one step where there is something, none where there is nothing, and one at most where it fails
abbrev pub MakesAStepIfThere : {T E : Type 0} → ℕ → ℕ → Result (Option T) E → Type 0
MakesAStepIfThere old new (Ok (Some x)) = new ≡ old + 1
MakesAStepIfThere old new (Ok None) = new ≡ old
MakesAStepIfThere old new (Err e) = (old ≤ new) × (new ≤ old + 1)

-- a place stays as it was: the shape, the boundaries, the numbers of buckets, what readings give, and where pages stand in the file
pub record StaysPinned {P : Type 0} (shape : P → Shape) (scales : P → List (List ℕ)) (numbers : P → List ℕ) (pages : P → Option (Owner → Option (List ℕ))) (file_page : P → Owner → ℕ) (old new : P) : Type 0 where
  pub same_shape : shape new ≡ shape old
  pub same_scales : scales new ≡ scales old
  pub same_numbers : numbers new ≡ numbers old
  pub same_pages : pages new ≡ pages old
  pub same_file_pages : file_page new ≡ file_page old

-- a place of a file: its shape, and at the place the boundaries, the bucket numbers that have a page, what a reading of each owner gives where that is told, and the page of the file in which each owner's page stands
pub record Place : Type 0 where
  pub shape : Shape
  pub scales : List (List ℕ)
  pub numbers : List ℕ
  pub pages : Option (Owner → Option (List ℕ))
  pub file_page : Owner → ℕ

-- a place has the pages of a layout and a table: the layout stands over the table, the boundaries and the bucket numbers are its own, and readings are told to give the page of each owner
pub record IsPinnedTo {K : ℕ} (p : Place) (L : Layout K) (t : Table) : Type 0 where
  pub stands : StandsOver p.shape L t
  pub scales_are : p.scales ≡ L.scales
  pub numbers_are : p.numbers ≡ (owners L).buckets
  pub pages_are : p.pages ≡ Some (owner_page L t)
