-- What the definitions of images promise.
use Rattle.std.specs.Prelude.{◌≡◌, ℕ, List}
use Rattle.grid_model.specs.Tables.{Table}
use Rattle.grid_model.specs.Layouts.{Layout}
use Rattle.grid_model.specs.Images.{Reads, IsShaped}

-- an image stands for one thing: it reads as one table at one place at most, and has one layout at most
pub record StandsOnce (K : ℕ) : Type 0 where
  pub place : (image : List ℕ) (n m : ℕ) (s t : Table) → Reads K image n s → Reads K image m t → n ≡ m
  pub table : (image : List ℕ) (n m : ℕ) (s t : Table) → Reads K image n s → Reads K image m t → s ≡ t
  pub layout : (image : List ℕ) (L M : Layout K) → IsShaped image L → IsShaped image M → L ≡ M
