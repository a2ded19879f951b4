-- A refusal that goes on to the caller.
use Rattle.std.proofs.Common.{◌≡◌, ◌∙◌, refl, sym, ap}
use Rattle.std.specs.Prelude.{Result, Ok, Err, IsErrAnd, IsErrOf, OnErr}
use Rattle.std.proofs.lemmas.Result.{IfErr-at_err, err_from_is_err_and}
use Rattle.grid_types.specs.declared.refusal.Refusal.{Refusal}

-- what a call is refused with is what the call in it was refused with
pub same_refusal : {T U : Type 0} (result : Result T Refusal) (e f : Refusal) → IsErrAnd result (λ y. y ≡ e) → IsErrOf result f → IsErrOf {T = U} (Err e) f
same_refusal {U = U} result e f goes is =
    let p = err_from_is_err_and result goes in
    let same : p.0 ≡ f = IfErr-at_err (λ x. p.0 ≡ x) (sym p.1 ∙ is) refl in
    let again : Refusal → Result U Refusal = λ x. Err x in
    ap again (sym p.2 ∙ same)

-- what holds is so where a call is refused
pub where_refused : {T E P : Type 0} (result : Result T E) → P → OnErr result P
where_refused (Ok x) p = tt
where_refused (Err e) p = p
