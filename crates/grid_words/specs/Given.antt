-- The words that the system gives a program.
use Rattle.std.specs.Prelude.{◌≡◌, ℕ, List, [], ◌∷◌, map, Result, Ok, Err, string_bytes}
use Rattle.std.specs.Vec.Iter.{into_iter_items}
use Rattle.std.specs.IoError.{error_kind}
use Rattle.std.specs.declared.io.Error.{Error}
use Rattle.std.specs.declared.io.ErrorKind.TheVariants.{OutOfMemory}
use Rattle.std.specs.declared.string.String.{String}
use Rattle.std.specs.declared.vec.IntoIter.{IntoIter}

-- all of some words but the first
abbrev pub behind_first : List (List ℕ) → List (List ℕ)
behind_first [] = []
behind_first (word ∷ words) = words

module _ {Z : Type 0} where
  -- the words that are still to come
  abbrev pub coming : IntoIter (String Z) Z → List (List ℕ)
  coming words = map string_bytes (into_iter_items words)

  -- the words of a command line, behind the program's name; one that the system does not give has none
  abbrev pub words_of : Result (IntoIter (String Z) Z) Error → List (List ℕ)
  words_of (Ok arguments) = behind_first (coming arguments)
  words_of (Err why) = []

  -- the system had no memory to give a command line
  abbrev pub LacksMemory : Result (IntoIter (String Z) Z) Error → Type 0
  LacksMemory (Ok arguments) = ⊥
  LacksMemory (Err why) = error_kind why ≡ OutOfMemory
