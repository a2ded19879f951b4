-- What an image shows of its roots, and when another root may be written.
use Rattle.std.specs.Prelude.{◌≡◌, ◌≢◌, ◌⊎◌, ◌<◌, ◌+◌, ℕ, List, Option, Some, None, ⊤}
use Rattle.grid_types.specs.declared.shape.Shape.{Shape}
use Rattle.grid_types.specs.Shapes.{header_page}
use Rattle.grid_model.specs.Spellings.{RootFields, root_bytes}
use Rattle.grid_model.specs.Lawful.{IsRootOn, Area}
use Rattle.grid_model.specs.Images.{header_gate, root_fields, IsOpenOver, IsNewest, HasArea}

-- a root as a file has it: the fields on its header page, and what its table area says
pub record WholeRoot : Type 0 where
  pub fields : RootFields
  pub area : Area

-- these are the fields of a root of a file of this shape: they are lawful on their own header page
abbrev pub AreRootFields : Shape → RootFields → Type 0
AreRootFields s r = IsRootOn s (header_page r.number) r

-- the table area of a root is whole
abbrev pub HasAreaOf : Shape → WholeRoot → List ℕ → Type 0
HasAreaOf s w image = HasArea s image w.fields w.area

-- a root is the newest, with its whole table area
pub record IsNewestWhole (s : Shape) (w : WholeRoot) (image : List ℕ) : Type 0 where
  pub newest : IsNewest s image w.fields
  pub area : HasAreaOf s w image

-- there is no root: no gate is open
pub record HasNoRoot (image : List ℕ) : Type 0 where
  pub zeroth : header_gate image 0 ≢ 1
  pub first : header_gate image 1 ≢ 1

-- the old root is the newest, with its whole table area; in a new file, which has none, there is no root
abbrev pub ShowsOld : Shape → Option WholeRoot → List ℕ → Type 0
ShowsOld s None image = HasNoRoot image
ShowsOld s (Some old) image = IsNewestWhole s old image

-- the old root is the newest, or the one that was tried; each with its whole table area
abbrev pub ShowsOldOrTried : Shape → (old tried : Option WholeRoot) → List ℕ → Type 0
ShowsOldOrTried s old None image = ShowsOld s old image
ShowsOldOrTried s old (Some w) image = IsNewestWhole s w image ⊎ ShowsOld s old image

-- a root of this number, which goes onto the other header page, comes after the old one
pub record ComesAfter (old : RootFields) (number : ℕ) : Type 0 where
  pub apart : header_page old.number ≢ header_page number
  pub later : old.number < number

-- a root of this number comes after the old one, if there is one
abbrev pub ComesNext : Option WholeRoot → ℕ → Type 0
ComesNext None number = ⊤
ComesNext (Some old) number = ComesAfter old.fields number

-- a root stands on its header page, whatever the other one has: its gate is open over its fields, and its table area is whole
pub record IsStanding (s : Shape) (w : WholeRoot) (image : List ℕ) : Type 0 where
  pub opens : IsOpenOver s image (header_page w.fields.number) w.fields
  pub area : HasAreaOf s w image

-- beside the header page of a root of this number the old root stands; in a new file the other header page is closed
abbrev pub KeepsOld : Shape → ℕ → Option WholeRoot → List ℕ → Type 0
KeepsOld s number None image = header_gate image (header_page (number + 1)) ≢ 1
KeepsOld s number (Some old) image = IsStanding s old image

-- a root of this number may be written and opened: the old root is kept beside its header page, which is closed
pub record IsReady (s : Shape) (number : ℕ) (old : Option WholeRoot) (image : List ℕ) : Type 0 where
  pub keeps : KeepsOld s number old image
  pub closed : header_gate image (header_page number) ≢ 1

-- a header page has the fields of this root, whatever its gate is
pub record HasFields (s : Shape) (header : ℕ) (r : RootFields) (image : List ℕ) : Type 0 where
  pub spelled : root_fields image header ≡ root_bytes r
  pub lawful : IsRootOn s header r

-- a header page has the fields of a root that is older than the old one
abbrev pub HasOlder : Shape → ℕ → Option WholeRoot → List ℕ → Type 0
HasOlder s header None image = ⊥
HasOlder s header (Some old) image = (older : RootFields) × HasFields s header older image × (older.number < old.fields.number)

-- a header page has the fields of a root that was tried after the old one, and its table area is whole
abbrev pub HasTried : Shape → ℕ → (old tried : Option WholeRoot) → List ℕ → Type 0
HasTried s header old None image = ⊥
HasTried s header old (Some w) image = HasFields s header w.fields image × HasAreaOf s w image × ComesNext old w.fields.number

-- under the gate of a header page stand the fields of a root that is older than the old one, or those of the one that was tried
abbrev pub HasOlderOrTried : Shape → ℕ → (old tried : Option WholeRoot) → List ℕ → Type 0
HasOlderOrTried s header old tried image = HasOlder s header old image ⊎ HasTried s header old tried image

-- the header page of a root of this number may be closed and written: the old root is kept beside it, and it is closed, or under its gate stand the fields of an older root or of the one that was tried
pub record IsReplaceable (s : Shape) (number : ℕ) (old tried : Option WholeRoot) (image : List ℕ) : Type 0 where
  pub keeps : KeepsOld s number old image
  pub under : (header_gate image (header_page number) ≢ 1) ⊎ HasOlderOrTried s (header_page number) old tried image
