-- What is read of the newest root: what a call gathers from its table area, what it tells, and how many steps it takes.
use Rattle.std.specs.Prelude.{◌≡◌, ◌≤◌, ◌+◌, ◌-◌, ℕ, List, IsTrue, Result, OnOk, OnErr, IfOk, IsErrOf}
use Rattle.grid_types.specs.declared.shape.Shape.{Shape}
use Rattle.grid_types.specs.declared.refusal.Refusal.{Refusal}
use Rattle.grid_types.specs.declared.refusal.Refusal.TheVariants.{NoMemory, Damaged}
use Rattle.grid_model.specs.Spellings.{RootFields}
use Rattle.grid_model.specs.Lawful.{Area}
use Rattle.grid_model.specs.Images.{IsNewest}
use Rattle.grid_model.specs.Roots.{WholeRoot, IsNewestWhole}
use Rattle.linear_scales.specs.Roots.{whole_of}
use Rattle.linear_scales.specs.declared.root.Root.{Root}
use Rattle.disk_trait.specs.declared.disk.Disk.{Ghosts}
use Rattle.file_roots.specs.declared.gathering.Gathered.{Gathered}
use Rattle.file_roots.specs.Damage.{HasAreaUpTo, HasBadAreaPage, IsRootDamage}
use Rattle.file_roots.specs.Gathering.{HasGathered, MayBeGathered, HasRoom}

-- where the pages before one were gathered, those before a later one are gathered then, or the first that is not spelled is named; also of a disk that does not tell its content some file has what was gathered
pub record Gathers {D T : Type 0} {K : ℕ} (g : Ghosts D) (s : Shape) (r : RootFields) (from to : ℕ) (disk : D) (old new : Gathered K) (result : Result T Refusal) : Type 0 where
  pub gathered : IsTrue (g.honest disk) → HasGathered s (g.seen disk) r from old → OnOk result (HasGathered s (g.seen disk) r to new)
  pub lawful : MayBeGathered s r from old → OnOk result (MayBeGathered s r to new)
  pub damaged : IsTrue (g.honest disk) → HasGathered s (g.seen disk) r from old → (p : ℕ) → IsErrOf result (Damaged p) → HasBadAreaPage s (g.seen disk) r p
  pub room : HasRoom s new

-- a call takes so many steps, and where it is refused fewer perhaps
pub record TakesSteps {T E : Type 0} (count before now : ℕ) (result : Result T E) : Type 0 where
  pub most : now ≤ before + count
  pub all : OnOk result (now ≡ before + count)

-- the first n pages that the newest root is read from are good: the two header pages have a newest root, and the others are spelled as the first pages of its table area
pub record AreRootPagesGood (s : Shape) (image : List ℕ) (n : ℕ) : Type 0 where
  pub root : RootFields
  pub newest : IsNewest s image root
  pub area : Area
  pub spelled : HasAreaUpTo s image root (n - 2) area

-- what reading the newest root tells of an image: an answer is the newest root with its whole table area, and the only one; a page that is called damaged is, and where the newest root is whole none is; want of memory comes only where there is a newest root; and where it is refused, the pages before the last one that was read are good
pub record TellsNewest {K : ℕ} (s : Shape) (image : List ℕ) (before now : ℕ) (result : Result (Root K) Refusal) : Type 0 where
  pub found : IfOk result (λ root. IsNewestWhole s (whole_of root) image)
  pub only : (w : WholeRoot) → IsNewestWhole s w image → IfOk result (λ root. whole_of root ≡ w)
  pub undamaged : (w : WholeRoot) → IsNewestWhole s w image → (p : ℕ) → IsErrOf result (Damaged p) → ⊥
  pub damaged : (p : ℕ) → IsErrOf result (Damaged p) → IsRootDamage s image p
  pub no_memory : IsErrOf result NoMemory → (r : RootFields) × IsNewest s image r
  pub good_before : (n : ℕ) → now ≡ before + n + 1 → 2 ≤ n → OnErr result (AreRootPagesGood s image n)
