-- Truth values that say when something is so.
use Rattle.std.proofs.Common.{◌≡◌, ◌↔◌, Bool, true, false, IsTrue, refl, sym}

-- two tests that say the same are equal
pub same-truth : (a b : Bool) {A : Type 0} → IsTrue a ↔ A → IsTrue b ↔ A → a ≡ b
same-truth true b p q = sym (q.1 (p.0 refl))
same-truth false true p q = p.1 (q.0 refl)
same-truth false false p q = refl
