-- A fault that goes on to the caller.
use Rattle.std.proofs.Common.{◌≡◌, ◌∙◌, refl, sym, ap}
use Rattle.std.specs.Prelude.{Result, Err, IsErrAnd, IsErrOf}
use Rattle.std.proofs.lemmas.Result.{IfErr-at_err, err_from_is_err_and}

-- the fault of a call is that of the call in it
pub same_fault : {T U E : Type 0} (result : Result T E) (came told : E) → IsErrAnd result (λ e. e ≡ came) → IsErrOf result told → IsErrOf {T = U} (Err came) told
same_fault {U = U} {E = E} result came told goes is =
    let p = err_from_is_err_and result goes in
    let same : p.0 ≡ told = IfErr-at_err (λ e. p.0 ≡ e) (sym p.1 ∙ is) refl in
    let again : E → Result U E = λ e. Err e in
    ap again (sym p.2 ∙ same)
