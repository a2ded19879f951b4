-- What is good of the pages that a survey has read.
use Rattle.std.specs.Prelude.{◌≡◌, ◌⊎◌, ◌<◌, ◌≤◌, ◌+◌, ℕ, List, length}
use Rattle.grid_types.specs.declared.shape.Shape.{Shape}
use Rattle.grid_types.specs.Shapes.{area_pages}
use Rattle.grid_model.specs.Images.{HasShape, HasGatesOf, open_slots_of}
use Rattle.grid_model.specs.Roots.{WholeRoot, IsNewestWhole}
use Rattle.journal_slots.specs.Scans.{IsGoodUpTo}
use Rattle.file_roots.specs.Reading.{AreRootPagesGood}
use Rattle.recovery.specs.Beginnings.{BeginsWhole}
use Rattle.recovery.specs.Faults.{IsGoodHalf}

-- the first half of the journal is good, and the second up to the n-th page that is read of both
pub record IsSecondGoodUpTo (K : ℕ) (s : Shape) (image : List ℕ) (n : ℕ) : Type 0 where
  pub gates : List ℕ
  pub spelled : HasGatesOf s image 0 gates
  pub first : IsGoodHalf K s image 0
  pub rest : ℕ
  pub count : n ≡ 1 + length (open_slots_of gates 0) + rest
  pub second : IsGoodUpTo K s image 1 rest

-- the journal is good up to the n-th page that is read of it, where each gate page comes before the open slots of its half, and the first half before the second
abbrev pub IsJournalGoodUpTo : ℕ → Shape → List ℕ → ℕ → Type 0
IsJournalGoodUpTo K s image n = IsGoodUpTo K s image 0 n ⊎ IsSecondGoodUpTo K s image n

-- the first n pages that a survey reads are good: page 0 begins with a shape whose pages are all there; with page 1 it is a file of K attributes, and both header pages have a newest root; its table area is spelled page by page; and then the journal is
pub record AreGoodUpTo (K : ℕ) (image : List ℕ) (n : ℕ) : Type 0 where
  pub shape : Shape
  pub begins : 1 ≤ n → BeginsWhole image shape
  pub has : 2 ≤ n → HasShape K image shape
  pub roots : 2 ≤ n → n < 2 + area_pages shape → AreRootPagesGood shape image n
  pub whole : 2 + area_pages shape ≤ n → (w : WholeRoot) × IsNewestWhole shape w image
  pub journal : (m : ℕ) → n ≡ 2 + area_pages shape + m → IsJournalGoodUpTo K shape image m
