-- The answers to one request more.
use Rattle.std.proofs.Common.{◌≡◌, ℕ, List, [], ◌∷◌, ◌++◌, refl, ap}
use Rattle.grid_types.specs.declared.shape.Shape.{Shape}
use Rattle.grid_types.specs.declared.request.Request.{Request}
use Rattle.grid_model.specs.Lone.{State, lone, answers, afterwards}

-- what stands after one request more is what that request leaves
pub afterwards-push : {K : ℕ} (shape : Shape) (s : State K) (rs : List (Request K)) (r : Request K) → afterwards shape s (rs ++ r ∷ []) ≡ (lone shape (afterwards shape s rs) r).state
unfolding afterwards
afterwards-push shape s [] r = refl
afterwards-push shape s (q ∷ qs) r = afterwards-push shape (lone shape s q).state qs r

-- the answers to one request more are the answers so far and the answer to that one
pub answers-push : {K : ℕ} (shape : Shape) (s : State K) (rs : List (Request K)) (r : Request K) → answers shape s (rs ++ r ∷ []) ≡ answers shape s rs ++ (lone shape (afterwards shape s rs) r).reply ∷ []
unfolding answers afterwards
answers-push shape s [] r = refl
answers-push shape s (q ∷ qs) r = ap (λ replies. (lone shape s q).reply ∷ replies) (answers-push shape (lone shape s q).state qs r)
