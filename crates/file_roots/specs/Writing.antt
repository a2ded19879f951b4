-- When a root may be written on a disk that tells its content, and what the disk shows meanwhile.
use Rattle.std.specs.Prelude.{◌≡◌, ◌==◌, ◌⊎◌, if◌then◌else◌, ℕ, List, Option, IsTrue}
use Rattle.grid_types.specs.declared.shape.Shape.{Shape}
use Rattle.grid_types.specs.Shapes.{header_page}
use Rattle.grid_model.specs.Spellings.{RootFields, root_bytes}
use Rattle.grid_model.specs.Images.{header_gate, root_fields}
use Rattle.grid_model.specs.Roots.{WholeRoot, AreRootFields, HasAreaOf, ComesNext, IsReady, HasOlderOrTried, IsReplaceable}
use Rattle.disk_trait.specs.declared.disk.Disk.{Ghosts}
use Rattle.disk_trait.specs.Moments.{Always, LeavesOnly}
use Rattle.file_roots.specs.Places.{FieldsAlone, HeaderAlone}

-- a gate that is open is 0 once it was closed, and any other stays what it is
abbrev pub closed_gate : ℕ → ℕ
closed_gate gate = if gate == 1 then 0 else gate

-- an image is what reads gave before, but for the gate of a header page and its fields, which are these
pub record HasNewFields (fields : RootFields) (read_before image : List ℕ) : Type 0 where
  pub elsewhere : HeaderAlone fields.number read_before image
  pub fields_are : root_fields image (header_page fields.number) ≡ root_bytes fields

-- a header page is written: it has these fields under an open gate, and all else is as before
pub record IsHeaderWritten (fields : RootFields) (read_before image : List ℕ) : Type 0 where
  pub written : HasNewFields fields read_before image
  pub opened : header_gate image (header_page fields.number) ≡ 1

-- while a header page is written, an image becomes another one: they differ at most in the bytes of the fields, or the other is what reads gave before, but for the gate and the fields, which are these
abbrev pub HeaderStep : (fields : RootFields) (read_before : List ℕ) → List ℕ → List ℕ → Type 0
HeaderStep fields read_before old new = FieldsAlone fields.number old new ⊎ HasNewFields fields read_before new

-- a root of this number may be written behind the old one, also after an attempt that failed: it comes next, and in each image that a crash may leave its header page may be closed and written; where the gate reads as open, it is so for any gate
pub record MayBeWritten {D : Type 0} (g : Ghosts D) (s : Shape) (number : ℕ) (old tried : Option WholeRoot) (disk : D) : Type 0 where
  pub honest : IsTrue (g.honest disk)
  pub next : ComesNext old number
  pub each : Always (g.may_leave disk) (IsReplaceable s number old tried)
  pub under_open : header_gate (g.seen disk) (header_page number) ≡ 1 → Always (g.may_leave disk) (HasOlderOrTried s (header_page number) old tried)

-- a disk awaits a root of this number behind the old one: it comes next, and in each image that a crash may leave its header page is closed and the old root is kept
pub record Awaits {D : Type 0} (g : Ghosts D) (s : Shape) (number : ℕ) (old : Option WholeRoot) (disk : D) : Type 0 where
  pub honest : IsTrue (g.honest disk)
  pub next : ComesNext old number
  pub each : Always (g.may_leave disk) (IsReady s number old)

-- a disk awaits the header page of this new root, with these fields, behind the old one: they are lawful, and its table area stands in what reads give
pub record AwaitsHeader {D : Type 0} (g : Ghosts D) (s : Shape) (fields : RootFields) (old : Option WholeRoot) (new : WholeRoot) (disk : D) : Type 0 where
  pub fields_are : new.fields ≡ fields
  pub lawful : AreRootFields s new.fields
  pub area : HasAreaOf s new (g.seen disk)
  pub awaits : Awaits g s new.fields.number old disk

-- at each moment of a call the header page of a root of this number may be closed and written
abbrev pub StaysReplaceable : {D : Type 0} → Ghosts D → Shape → ℕ → (old tried : Option WholeRoot) → D → D → Type 0
StaysReplaceable g s number old tried before after = LeavesOnly g.moment g.left_since before after (IsReplaceable s number old tried)

-- at each moment of a call a root of this number may be written and opened
abbrev pub StaysReady : {D : Type 0} → Ghosts D → Shape → ℕ → Option WholeRoot → D → D → Type 0
StaysReady g s number old before after = LeavesOnly g.moment g.left_since before after (IsReady s number old)
