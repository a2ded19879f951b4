-- What is promised of a session of one client.
use Rattle.std.specs.Prelude.{◌≡◌, ◌≤◌, ◌++◌, ℕ, List, All}
use Rattle.grid_types.specs.declared.request.Line.{Line}
use Rattle.grid_types.specs.declared.request.Reply.{Reply}
use Rattle.grid_types.specs.declared.shape.Shape.{Shape}
use Rattle.grid_types.specs.declared.sizes.TheConstants.{MOST_CLIENTS}
use Rattle.grid_model.specs.Histories.{state_at}
use Rattle.grid_model.specs.Tables.{IsTableOf}
use Rattle.grid_model.specs.Sessions.{Explains, exchanges, told_history}
use Rattle.client_sessions.specs.Points.{Point}
use Rattle.client_sessions.specs.Runs.{Runs, IsLeftIn, group_of_one}

-- sessions that follow one another are one; and what may have been left in the first or in the second may have been left in it
pub record RunsJoin (K : ℕ) : Type 0 where
  pub joined : (shape : Shape) (p q r : Point K) (xs ys : List (Line K)) (rs ss : List (Reply K)) → Runs shape p xs rs q → Runs shape q ys ss r → Runs shape p (xs ++ ys) (rs ++ ss) r
  pub first : (shape : Shape) (p q : Point K) (xs ys : List (Line K)) (rs ss : List (Reply K)) (image : List ℕ) → Runs shape p xs rs q → IsLeftIn shape p xs rs image → IsLeftIn shape p (xs ++ ys) (rs ++ ss) image
  pub second : (shape : Shape) (p q : Point K) (xs ys : List (Line K)) (rs ss : List (Reply K)) (image : List ℕ) → Runs shape p xs rs q → IsLeftIn shape q ys ss image → IsLeftIn shape p (xs ++ ys) (rs ++ ss) image

-- one history explains a session of one client: it begins where the session began, and the table at its front is that where the session ends
pub record IsExplained {K : ℕ} (p q : Point K) (client : ℕ) (lines : List (Line K)) (replies : List (Reply K)) : Type 0 where
  pub explains : Explains p.at.place p.at.table lines (group_of_one client replies) q.at.place
  pub table : state_at (told_history p.at.place p.at.table (exchanges lines (group_of_one client replies))) q.at.place ≡ q.at.table

-- a session that begins with a table, all of whose lines are one client's, is explained
abbrev pub RunsAreExplained : ℕ → Type 0
RunsAreExplained K = (shape : Shape) (p q : Point K) (client : ℕ) (lines : List (Line K)) (replies : List (Reply K)) → 1 ≤ client → client ≤ MOST_CLIENTS → IsTableOf K p.at.table
    → All (λ l. l.client ≡ client) lines → Runs shape p lines replies q → IsExplained p q client lines replies
