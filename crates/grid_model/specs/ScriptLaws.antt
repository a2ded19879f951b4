-- What the definitions of scripts and texts promise.
use Rattle.std.specs.Prelude.{◌≡◌, ◌≢◌, ◌<◌, ◌≤◌, ◌+◌, ◌-◌, ◌↔◌, ℕ, List, fold, take, filter_map, length, slice_get, Option, Some, None, Ok, Err}
use Rattle.std.specs.Option.{option_and_then}
use Rattle.grid_types.specs.declared.request.Line.{Line}
use Rattle.grid_model.specs.Lists.{below}
use Rattle.grid_model.specs.Script.{Meaning, Silent, Speaks, Asks, Bad, lines_of, meanings, longest, lines}
use Rattle.grid_model.specs.Text.{Group, text, text_lines}

-- who speaks behind a line, where that client spoke before it
abbrev pub speaker : {K : ℕ} → ℕ → Meaning K → ℕ
speaker client Silent = client
speaker client (Speaks c) = c
speaker client (Asks r) = client
speaker client Bad = client

-- who speaks at line i, counted from 0: the client that was named last before it, or client 1
abbrev pub speaker_at : {K : ℕ} → List (Meaning K) → ℕ → ℕ
speaker_at ms i = fold speaker 1 (take i ms)

-- a request with its client
abbrev pub line_of : {K : ℕ} → ℕ → Meaning K → Option (Line K)
line_of client Silent = None
line_of client (Speaks c) = None
line_of client (Asks r) = Some (record { client = client; request = r })
line_of client Bad = None

-- what line i asks, with the client that speaks there
abbrev pub line_at : {K : ℕ} → List (Meaning K) → ℕ → Option (Line K)
line_at ms i = option_and_then (line_of (speaker_at ms i)) (slice_get ms i)

-- line n, counted from 1, is the first that is nothing of the grammar
pub record IsFirstBadLine {K : ℕ} (ms : List (Meaning K)) (n : ℕ) : Type 0 where
  pub some : 1 ≤ n
  pub bad : slice_get ms (n - 1) ≡ Some Bad
  pub first : (i : ℕ) → i + 1 < n → slice_get ms i ≢ Some Bad

-- a script has one list of lines or one first fault: it is too long, or a line is the first that is nothing of the grammar, or its lines are what each line asks, with the client that speaks there
pub record IsOneScript (K : ℕ) : Type 0 where
  pub long : (bytes : List ℕ) → (lines K bytes ≡ Err 0) ↔ (longest < length bytes)
  pub fault : (bytes : List ℕ) (n : ℕ) → length bytes ≤ longest → (lines K bytes ≡ Err n) ↔ IsFirstBadLine (meanings K bytes) n
  pub whole : (bytes : List ℕ) (ls : List (Line K)) → length bytes ≤ longest → (lines K bytes ≡ Ok ls) ↔ (((i : ℕ) → slice_get (meanings K bytes) i ≢ Some Bad) × (ls ≡ filter_map (line_at (meanings K bytes)) (below (length (meanings K bytes)))))

-- what is printed is the lines of the replies, each as one line of the text
pub record PrintsLines (K : ℕ) : Type 0 where
  pub lines : (groups : List (Group K)) (front : ℕ) → lines_of (text groups front) ≡ text_lines groups front
