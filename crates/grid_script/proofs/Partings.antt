-- A text has one first place of a byte.
use Rattle.std.proofs.Common.{◌≡◌, ℕ, zero, suc, List, ◌∷◌, arith}
use Rattle.grid_script.specs.Fields.{Without}

pub same_head : {A : Type 0} (x y : A) (xs ys : List A) → x ∷ xs ≡ y ∷ ys → x ≡ y
same_head x y xs ys e = cc

pub without-tail : (b x : ℕ) (xs : List ℕ) → Without b (x ∷ xs) → Without b xs
without-tail b x xs w = λ i h e. w (suc i) (omega (arith, h)) e

pub without-head : (b x : ℕ) (xs : List ℕ) → Without b (x ∷ xs) → x ≡ b → ⊥
without-head b x xs w e = w zero (omega arith) e
