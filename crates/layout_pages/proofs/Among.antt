-- Numbers among others.
use Rattle.std.proofs.Common.{◌≡◌, ◌==◌, ℕ, true, List, ◌∷◌, refl, eq-eqb}
use Rattle.std.proofs.lemmas.Bool.{or_left, or_right}
use Rattle.grid_model.specs.Lists.{is_among}

-- the first number is among all
pub one-among : (p : ℕ) (ps : List ℕ) → is_among (p ∷ ps) p ≡ true
one-among p ps = or_left (p == p) (is_among ps p) (eq-eqb p p refl)

-- a number among those behind the first is among all
pub later-among : (p q : ℕ) (ps : List ℕ) → is_among ps q ≡ true → is_among (p ∷ ps) q ≡ true
later-among p q ps h = or_right (p == q) (is_among ps q) h
