-- What the program takes of a script: the requests of client 1. It refuses any other line that asks something.
use Rattle.std.specs.Prelude.{◌≡◌, ◌<◌, ◌≤◌, ◌==◌, ◌-◌, ◌+◌, ℕ, List, Bool, Some, Ok, IsTrue, IsFalse, All, length, slice_get, ⊤}
use Rattle.grid_types.specs.declared.request.Line.{Line}
use Rattle.grid_model.specs.Script.{Meaning, Silent, Speaks, Asks, Bad, longest, lines, meanings}
use Rattle.grid_model.specs.ScriptLaws.{speaker_at}

-- the program takes a line of client 1
unfoldable pub is_taken : {K : ℕ} → Line K → Bool
is_taken l = l.client == 1

-- the program takes each of these lines
abbrev pub AreTaken : {K : ℕ} → List (Line K) → Type 0
AreTaken ls = All (λ l. IsTrue (is_taken l)) ls

-- bytes are a script of the program that asks these lines
pub record IsScript {K : ℕ} (bytes : List ℕ) (asked : List (Line K)) : Type 0 where
  pub read : lines K bytes ≡ Ok asked
  pub taken : AreTaken asked

-- the program refuses a line of this client: it is nothing of the grammar, or it asks what the program does not take
abbrev pub Refuses : {K : ℕ} → ℕ → Meaning K → Type 0
Refuses client Silent = ⊥
Refuses client (Speaks c) = ⊥
Refuses client (Asks r) = IsFalse (is_taken (record { client = client; request = r }))
Refuses client Bad = ⊤

-- the program refuses line i, counted from 0, as a line of the client that speaks there
pub record IsRefused {K : ℕ} (ms : List (Meaning K)) (i : ℕ) : Type 0 where
  pub says : Meaning K
  pub there : slice_get ms i ≡ Some says
  pub refused : Refuses (speaker_at ms i) says

-- line n of a text, counted from 1, is the first that the program refuses
pub record IsFirstRefused (K : ℕ) (bytes : List ℕ) (n : ℕ) : Type 0 where
  pub some : 1 ≤ n
  pub refused : IsRefused (meanings K bytes) (n - 1)
  pub first : (i : ℕ) → i + 1 < n → IsRefused (meanings K bytes) i → ⊥

-- a text has its fault at line n: at line 0 where it has too many bytes, and else at the first line that the program refuses
pub record IsFault (K : ℕ) (bytes : List ℕ) (n : ℕ) : Type 0 where
  pub long : longest < length bytes → n ≡ 0
  pub short : length bytes ≤ longest → IsFirstRefused K bytes n

-- the program refuses no line of a text
abbrev pub RefusesNone : ℕ → List ℕ → Type 0
RefusesNone K bytes = (i : ℕ) → IsRefused (meanings K bytes) i → ⊥
