-- Errors in the results of two calls.
use Rattle.std.proofs.Common.{◌≡◌, ap}
use Rattle.std.specs.Prelude.{Result, Ok, Err, IsErrOf, IsErrAnd, MatchResult}

-- an error is that error
pub error_of : {T E : Type 0} (e f : E) → e ≡ f → IsErrOf {T = T} {E = E} (Err e) f
error_of {T} {E} e f h = let P : E → Result T E = λ x. Err x in ap P h

-- an error that goes on to the caller
pub match-err : {T E : Type 0} (r : Result T E) (P : T → Type 0) (Q R : E → Type 0) → IsErrAnd r R → ((e : E) → R e → Q e) → MatchResult r P Q
match-err (Ok x) P Q R is on = absurd is
match-err (Err e) P Q R is on = on e is
