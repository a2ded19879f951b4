-- Which words mean which command. A word is a list of bytes.
use Rattle.std.specs.Prelude.{◌≡◌, ◌≢◌, ◌≤◌, ◌<◌, ◌⊎◌, ◌++◌, ℕ, List, [], ◌∷◌, map, codes, decimal, IsTrue, string_bytes}
use Rattle.grid_types.specs.declared.shape.Shape.{Shape}
use Rattle.grid_types.specs.declared.sizes.TheConstants.{MOST_BOUNDARIES, MOST_CELLS, MOST_CLIENTS}
use Rattle.grid_types.specs.Shapes.{is_shape}
use Rattle.grid_gen.specs.declared.draws.TheConstants.{MODULUS}
use Rattle.grid_gen.specs.declared.generator.TheConstants.{MOST_ROUNDS}
use Rattle.grid_words.specs.declared.command.Command.{Command}
use Rattle.grid_words.specs.declared.command.Command.TheVariants.{Make, Run, Check, Dump, Gen}

-- a plain word: it is not empty and does not begin with a dash
abbrev pub IsPlain : List ℕ → Type 0
IsPlain [] = ⊥
IsPlain (b ∷ bs) = b ≢ 45

-- the numbers of a shape that are always written: K, C, P and S
abbrev pub size_numbers : Shape → List ℕ
size_numbers s = s.k ∷ s.capacity ∷ s.pages ∷ s.slots ∷ []

-- the numbers of a shape that may be left out: B and M
abbrev pub bound_numbers : Shape → List ℕ
bound_numbers s = s.boundaries ∷ s.cells ∷ []

-- the bounds of a shape for which none are written: the greatest that there may be, a thousand boundaries and a million cells
abbrev pub HasUsualBounds : Shape → Type 0
HasUsualBounds s = (s.boundaries ≡ MOST_BOUNDARIES) × (s.cells ≡ MOST_CELLS)

-- numbers write a shape: K C P S B M, or K C P S where it has the usual bounds
abbrev pub WriteShape : List ℕ → Shape → Type 0
WriteShape numbers s = (numbers ≡ size_numbers s ++ bound_numbers s) ⊎ ((numbers ≡ size_numbers s) × HasUsualBounds s)

-- a seed, a number of rounds and a number of clients are within their limits
pub record IsGeneration (seed rounds clients : ℕ) : Type 0 where
  pub some_seed : 1 ≤ seed
  pub low_seed : seed < MODULUS
  pub some_rounds : 1 ≤ rounds
  pub few_rounds : rounds ≤ MOST_ROUNDS
  pub some_clients : 1 ≤ clients
  pub few_clients : clients ≤ MOST_CLIENTS

-- the verb of a command
abbrev pub verb_of : Command → List ℕ
verb_of (Make file shape) = codes "make"
verb_of (Run file) = codes "run"
verb_of (Check file) = codes "check"
verb_of (Dump file) = codes "dump"
verb_of (Gen file seed rounds clients) = codes "gen"

-- the name of the file of a command
abbrev pub file_of : Command → List ℕ
file_of (Make file shape) = string_bytes file
file_of (Run file) = string_bytes file
file_of (Check file) = string_bytes file
file_of (Dump file) = string_bytes file
file_of (Gen file seed rounds clients) = string_bytes file

-- numbers write a command: those of a lawful shape; those of a generation, SEED N CLIENTS, within their limits; or else none
abbrev pub Write : List ℕ → Command → Type 0
Write numbers (Make file shape) = WriteShape numbers shape × IsTrue (is_shape shape)
Write numbers (Run file) = numbers ≡ []
Write numbers (Check file) = numbers ≡ []
Write numbers (Dump file) = numbers ≡ []
Write numbers (Gen file seed rounds clients) =
    (numbers ≡ seed ∷ rounds ∷ clients ∷ []) × IsGeneration seed rounds clients

-- words mean a command: they are its verb, the name of its file, which is a plain word, and in decimal numbers that write it
pub record Mean (words : List (List ℕ)) (command : Command) : Type 0 where
  pub numbers : List ℕ
  pub words_are : words ≡ verb_of command ∷ file_of command ∷ map decimal numbers
  pub plain : IsPlain (file_of command)
  pub written : Write numbers command

-- words mean no command
abbrev pub MeanNothing : List (List ℕ) → Type 0
MeanNothing words = (command : Command) → Mean words command → ⊥
