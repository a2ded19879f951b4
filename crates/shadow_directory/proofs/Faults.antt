-- Refusals that go on from a call to its caller.
use Rattle.std.proofs.Common.{◌≡◌, sym, subst}
use Rattle.std.specs.Prelude.{Result, Ok, Err, OnOk, OnErr, IfErr, IsErrAnd}
use Rattle.grid_types.specs.declared.refusal.Refusal.{Refusal}

-- what is so of a refusal is so of one that goes on
pub err-goes : {T : Type 0} (r : Result T Refusal) (e : Refusal) (Q : Refusal → Type 0) → IsErrAnd r (λ y. y ≡ e) → Q e → IfErr r Q
err-goes (Ok v) e Q goes q = tt
err-goes (Err y) e Q goes q = subst Q (sym goes) q

-- it is no answer
pub err-not-ok : {T : Type 0} (r : Result T Refusal) (e : Refusal) (Q : Type 0) → IsErrAnd r (λ y. y ≡ e) → OnOk r Q
err-not-ok (Ok v) e Q goes = absurd goes
err-not-ok (Err y) e Q goes = tt

-- what is so at a refusal
pub err-there : {T : Type 0} (r : Result T Refusal) (Q : Type 0) → Q → OnErr r Q
err-there (Ok v) Q q = tt
err-there (Err y) Q q = q

-- and what is so at an answer
pub ok-there : {T : Type 0} (r : Result T Refusal) (Q : Type 0) → Q → OnOk r Q
ok-there (Ok v) Q q = q
ok-there (Err y) Q q = tt

-- what follows from what is so at a refusal
pub err-weaker : {T : Type 0} (r : Result T Refusal) (P Q : Type 0) → (P → Q) → OnErr r P → OnErr r Q
err-weaker (Ok v) P Q f h = tt
err-weaker (Err y) P Q f h = f h
