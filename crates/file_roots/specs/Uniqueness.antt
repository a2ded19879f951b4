-- What an image has once: its shape, its newest root, and a root's table area.
use Rattle.std.specs.Prelude.{◌≡◌, ℕ, List, IsTrue}
use Rattle.grid_types.specs.declared.shape.Shape.{Shape}
use Rattle.grid_types.specs.Shapes.{is_shape}
use Rattle.grid_model.specs.Spellings.{RootFields}
use Rattle.grid_model.specs.Lawful.{Area}
use Rattle.grid_model.specs.Images.{HasShape, IsNewest, HasArea}
use Rattle.grid_model.specs.Roots.{WholeRoot, AreRootFields, IsNewestWhole}

-- an image has one shape, also for two numbers of attributes
abbrev pub HasOneShape : Type 0
HasOneShape = (K J : ℕ) (image : List ℕ) (s t : Shape) → HasShape K image s → HasShape J image t → s ≡ t

-- an image of a shape has one newest root
abbrev pub HasOneNewest : Type 0
HasOneNewest = (s : Shape) (image : List ℕ) (r q : RootFields) → IsTrue (is_shape s) → IsNewest s image r → IsNewest s image q → r ≡ q

-- a root has one table area in an image
abbrev pub HasOneArea : Type 0
HasOneArea = (s : Shape) (image : List ℕ) (r : RootFields) (a b : Area) → IsTrue (is_shape s) → AreRootFields s r → HasArea s image r a → HasArea s image r b → a ≡ b

-- an image of a shape has one newest root with its whole table area
abbrev pub HasOneWhole : Type 0
HasOneWhole = (s : Shape) (image : List ℕ) (w v : WholeRoot) → IsTrue (is_shape s) → IsNewestWhole s w image → IsNewestWhole s v image → w ≡ v
