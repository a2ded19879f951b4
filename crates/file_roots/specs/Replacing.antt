-- The laws of roots that are replaced: which root is the newest, and when the next may be written.
use Rattle.std.specs.Prelude.{◌≡◌, ◌⊎◌, ℕ, List, Option, Some, None, IsTrue}
use Rattle.grid_types.specs.declared.shape.Shape.{Shape}
use Rattle.grid_types.specs.Shapes.{is_shape}
use Rattle.grid_model.specs.Spellings.{RootFields}
use Rattle.grid_model.specs.Lawful.{Area}
use Rattle.grid_model.specs.Images.{IsOtherOlder, IsNewest, HasArea}
use Rattle.grid_model.specs.Roots.{WholeRoot, ShowsOld, ShowsOldOrTried, ComesNext, KeepsOld, IsReplaceable}

-- a whole root is the old one, or the one that was tried
abbrev pub IsOldOrTried : (old tried : Option WholeRoot) → WholeRoot → Type 0
IsOldOrTried old tried w = (old ≡ Some w) ⊎ (tried ≡ Some w)

-- where the old root or the one that was tried is the newest and whole, each newest root is one of them, with its table area
abbrev pub NewestIsAmong : Type 0
NewestIsAmong = (s : Shape) (old tried : Option WholeRoot) (image : List ℕ) (r : RootFields) → IsTrue (is_shape s) → ShowsOldOrTried s old tried image → IsNewest s image r
    → (a : Area) × HasArea s image r a × IsOldOrTried old tried (record { fields = r; area = a })

-- where the old root is the newest and whole, or there is none yet, the next may be written
abbrev pub NextMayBeWritten : Type 0
NextMayBeWritten = (s : Shape) (number : ℕ) (old : Option WholeRoot) (image : List ℕ) → ComesNext old number → ShowsOld s old image → IsReplaceable s number old None image

-- where a root may be written, the old one or the one that was tried is the newest and whole
abbrev pub OldOrTriedIsNewest : Type 0
OldOrTriedIsNewest = (s : Shape) (number : ℕ) (old tried : Option WholeRoot) (image : List ℕ) → ComesNext old number → IsReplaceable s number old tried image → ShowsOldOrTried s old tried image

-- where the old root is kept, or there is none, the other header page than that of the next root is closed, or open over a root of a lower number
abbrev pub KeptIsOlder : Type 0
KeptIsOlder = (s : Shape) (number : ℕ) (old : Option WholeRoot) (image : List ℕ) → ComesNext old number → KeepsOld s number old image → IsOtherOlder s number image
