-- How a script is read: piece by piece, word by word and line by line.
use Rattle.std.specs.Prelude.{ℕ, List, [], ◌++◌, Bool, true, false, map, filter, Option, Result, Ok, Err}
use Rattle.std.specs.Option.{option_and_then}
use Rattle.grid_types.specs.declared.request.Line.{Line}
use Rattle.grid_model.specs.Script.{Meaning, Silent, Speaks, Asks, Bad, pieces, is_word, all_of, if_count, asked}
use Rattle.grid_script.specs.declared.reader.Reading.{Reading}
use Rattle.grid_script.specs.declared.reader.meanings.Said.{Said}
use Rattle.grid_script.specs.declared.reader.meanings.Said.TheVariants as said

-- the pieces that are left: those of the rest, if there is more
abbrev pub pieces_left : ℕ → Bool → List ℕ → List (List ℕ)
pieces_left c true rest = pieces c rest
pieces_left c false rest = []

-- the words of a text: its pieces between spaces that are not empty
abbrev pub words_in : List ℕ → List (List ℕ)
words_in text = filter is_word (pieces 32 text)

-- the values of K parts with commas between, where there are K and each writes one
abbrev pub values_of : {X : Type 0} → ℕ → (List ℕ → Option X) → List ℕ → Option (List X)
values_of K value word = option_and_then (if_count K) (all_of (map value (pieces 44 word)))

-- what is said, in the grammar's words
abbrev pub meant : {K : ℕ} → Said K → Meaning K
meant said.Silent = Silent
meant (said.Speaks client) = Speaks client
meant (said.Asks request) = Asks request
meant said.Bad = Bad

-- the lines so far, and then those that follow, unless there is a fault
abbrev pub so_far : {K : ℕ} → List (Line K) → Result (List (Line K)) ℕ → Result (List (Line K)) ℕ
so_far ls (Ok more) = Ok (ls ++ more)
so_far ls (Err n) = Err n

-- the lines of a script that is read so far, where the lines that follow say this
abbrev pub read_on : {K : ℕ} → Reading K → List (Meaning K) → Result (List (Line K)) ℕ
read_on r ms = so_far r.list.items (asked r.number r.client ms)
