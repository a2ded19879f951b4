-- What a script with one client prints: from the bytes of the script to the bytes of the text.
use Rattle.std.specs.Prelude.{ℕ, Bool, true, List, [], ◌∷◌, map, ◌==◌, cond, Result, Ok, Err}
use Rattle.std.specs.List.{list_all}
use Rattle.grid_types.specs.declared.shape.Shape.{Shape}
use Rattle.grid_types.specs.declared.request.Line.{Line}
use Rattle.grid_types.specs.declared.request.Request.{Request}
use Rattle.grid_model.specs.Lone.{State, made, answers, afterwards}
use Rattle.grid_model.specs.Script.{lines}
use Rattle.grid_model.specs.Text.{text, Group}

-- what some lines ask
abbrev pub requests : {K : ℕ} → List (Line K) → List (Request K)
requests ls = map (λ l. l.request) ls

-- the replies to the one client that speaks, if there is a line
abbrev pub groups : {K : ℕ} → Shape → State K → List (Line K) → List (Group K)
groups shape s [] = []
groups shape s (l ∷ ls) = record { client = l.client; replies = answers shape s (requests (l ∷ ls)) } ∷ []

-- all lines are one client's
abbrev pub speaks_alone : {K : ℕ} → List (Line K) → Bool
speaks_alone [] = true
speaks_alone (l ∷ ls) = list_all (λ m. m.client == l.client) ls

-- what a script prints: a text, or the number of its first fault; where several clients speak, no text is said here
pub data Printed : Type 0 where
  Prints : (text : List ℕ) → Printed
  Faults : (line : ℕ) → Printed
  Several : Printed

-- what is printed of lines: the text of the one client that speaks
abbrev pub printed_lines : {K : ℕ} → Shape → State K → Result (List (Line K)) ℕ → Printed
printed_lines shape s (Err line) = Faults line
printed_lines shape s (Ok ls) = cond (speaks_alone ls) (Prints (text (groups shape s ls) (afterwards shape s (requests ls)).front)) Several

-- what a script over a file in that state prints
unfoldable pub printed : {K : ℕ} → Shape → State K → List ℕ → Printed
printed {K} shape s script = printed_lines shape s (lines K script)

-- what a script over a new file prints
unfoldable pub prints : Shape → List ℕ → Printed
prints shape script = printed shape (made shape.k) script
