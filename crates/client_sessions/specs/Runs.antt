-- A session of one client, line by line.
use Rattle.std.specs.Prelude.{◌≡◌, ◌≤◌, ℕ, List, [], ◌∷◌, take, length}
use Rattle.grid_types.specs.declared.request.Line.{Line}
use Rattle.grid_types.specs.declared.request.Reply.{Reply}
use Rattle.grid_types.specs.declared.shape.Shape.{Shape}
use Rattle.grid_model.specs.Text.{Group}
use Rattle.client_sessions.specs.Points.{Point, StandsAt}
use Rattle.client_sessions.specs.Told.{Told}

-- lines with their replies lead from a point to another, one after the other
abbrev pub Runs : {K : ℕ} → Shape → Point K → List (Line K) → List (Reply K) → Point K → Type 0
Runs shape p [] [] q = q ≡ p
Runs shape p [] (r ∷ rs) q = ⊥
Runs shape p (l ∷ ls) [] q = ⊥
Runs {K} shape p (l ∷ ls) (r ∷ rs) q = (m : Point K) × Told shape p l.request r m × Runs shape m ls rs q

-- an image may have been left in a session: it stands at the point to which some of its first lines lead
pub record IsLeftIn {K : ℕ} (shape : Shape) (p : Point K) (lines : List (Line K)) (replies : List (Reply K)) (image : List ℕ) : Type 0 where
  pub count : ℕ
  pub few : count ≤ length lines
  pub point : Point K
  pub leads : Runs shape p (take count lines) (take count replies) point
  pub stands : StandsAt point image

-- the replies to one client, where it has a line
abbrev pub group_of_one : {K : ℕ} → ℕ → List (Reply K) → List (Group K)
group_of_one client [] = []
group_of_one client (r ∷ rs) = record { client = client; replies = r ∷ rs } ∷ []
