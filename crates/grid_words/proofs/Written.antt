-- The numbers that write a command, and the words that mean it.
use Rattle.std.proofs.Common.{◌≡◌, ◌≤◌, ◌<◌, ◌∙◌, ◌^◌, ◌++◌, ℕ, List, [], ◌∷◌, map, length, ap, arith, sym, subst, inl, inr, IsTrue}
use Rattle.std.specs.Prelude.{decimal, Option, Some, None, IfNone}
use Rattle.std.proofs.lemmas.List.Elements.{All-cons, All-nil}
use Rattle.grid_types.specs.declared.shape.Shape.{Shape}
use Rattle.grid_types.specs.Shapes.{is_shape}
use Rattle.grid_types.proofs.Places.{within-limits}
use Rattle.grid_words.specs.declared.command.Command.{Command}
use Rattle.grid_words.specs.declared.command.Command.TheVariants.{Make, Run, Check, Dump, Gen}
use Rattle.grid_words.specs.declared.numbers.TheConstants.{MOST_NUMBERS}
use Rattle.grid_words.specs.Commands.{Write, WriteShape, IsPlain, Mean, MeanNothing, size_numbers, bound_numbers, verb_of}
use Rattle.grid_words.proofs.Decimals.{AreSmall, same_prints}

-- few numbers, each of 32 bits
pub record AreFew (numbers : List ℕ) : Type 0 where
  pub few : length numbers ≤ MOST_NUMBERS
  pub small : AreSmall numbers

abbrev and_small : (n : ℕ) (ns : List ℕ) → n < 2 ^ 32 → AreSmall ns → AreSmall (n ∷ ns)
and_small n ns = All-cons (λ m. m < 2 ^ 32) n ns

none_small : AreSmall []
none_small = All-nil (λ n. n < 2 ^ 32)

-- the numbers of a lawful shape are few
shape_few : (s : Shape) (numbers : List ℕ) → IsTrue (is_shape s) → WriteShape numbers s → AreFew numbers
shape_few s numbers lawful written =
    let l = within-limits s lawful in
    let bounds : AreSmall (bound_numbers s) = and_small s.boundaries (s.cells ∷ []) (omega (arith, l.few_boundaries)) (and_small s.cells [] (omega (arith, l.few_cells)) none_small) in
    let sizes : (ns : List ℕ) → AreSmall ns → AreSmall (size_numbers s ++ ns) = λ ns small.
    and_small s.k (s.capacity ∷ s.pages ∷ s.slots ∷ ns) (omega (arith, l.few_attributes))
    (and_small s.capacity (s.pages ∷ s.slots ∷ ns) (omega (arith, l.small_capacity))
    (and_small s.pages (s.slots ∷ ns) (omega (arith, l.few_pages)) (and_small s.slots ns (omega (arith, l.few_slots)) small))) in
    elim written [
      | inl all ↦ subst AreFew (sym all) (record { few = omega arith; small = sizes (bound_numbers s) bounds })
      | inr some ↦ subst AreFew (sym some.0) (record { few = omega arith; small = sizes [] none_small })
    ]

-- the numbers that write a command are few
pub written_few : (numbers : List ℕ) (command : Command) → Write numbers command → AreFew numbers
written_few numbers (Make file shape) written = shape_few shape numbers written.1 written.0
written_few numbers (Run file) written = subst AreFew (sym written) (record { few = omega arith; small = none_small })
written_few numbers (Check file) written = subst AreFew (sym written) (record { few = omega arith; small = none_small })
written_few numbers (Dump file) written = subst AreFew (sym written) (record { few = omega arith; small = none_small })
written_few numbers (Gen file seed rounds clients) written =
    let l = written.1 in
    subst AreFew (sym written.0) (record {
      few = omega arith;
      small = and_small seed (rounds ∷ clients ∷ []) (omega (arith, l.low_seed))
          (and_small rounds (clients ∷ []) (omega (arith, l.few_rounds)) (and_small clients [] (omega (arith, l.few_clients)) none_small));
    })

abbrev rest_of : List (List ℕ) → List (List ℕ)
rest_of [] = []
rest_of (x ∷ xs) = xs

abbrev first_of : List (List ℕ) → List ℕ
first_of [] = []
first_of (x ∷ xs) = x

-- the parts of words that mean a command
pub verb_is : (verb file : List ℕ) (rest : List (List ℕ)) (command : Command) → Mean (verb ∷ file ∷ rest) command → verb_of command ≡ verb
verb_is verb file rest command m = sym (ap first_of m.words_are)

pub file_is : (verb file : List ℕ) (rest : List (List ℕ)) (command : Command) → Mean (verb ∷ file ∷ rest) command → IsPlain file
file_is verb file rest command m = subst IsPlain (sym (ap (λ ws. first_of (rest_of ws)) m.words_are)) m.plain

pub rest_is : (verb file : List ℕ) (rest : List (List ℕ)) (command : Command) (m : Mean (verb ∷ file ∷ rest) command) → rest ≡ map decimal m.numbers
rest_is verb file rest command m = ap (λ ws. rest_of (rest_of ws)) m.words_are

-- where the words behind a verb and a file print numbers, these write each command that is meant
pub prints_write : (verb file : List ℕ) (rest : List (List ℕ)) (numbers : List ℕ) (command : Command) → AreSmall numbers → rest ≡ map decimal numbers
    → Mean (verb ∷ file ∷ rest) command → Write numbers command
prints_write verb file rest numbers command small print m =
    let few = written_few m.numbers command m.written in
    subst (λ ns. Write ns command) (same_prints m.numbers numbers few.small small (sym (rest_is verb file rest command m) ∙ print)) m.written

-- words mean nothing where no command has their verb and their numbers
pub no_command : (words : List (List ℕ)) (verb file : List ℕ) (rest : List (List ℕ)) (numbers : List ℕ) (found : Option Command)
    → words ≡ verb ∷ file ∷ rest → rest ≡ map decimal numbers → AreSmall numbers
    → IfNone found ((command : Command) → verb_of command ≡ verb → Write numbers command → ⊥) → IfNone found (MeanNothing words)
no_command words verb file rest numbers (Some command) are print small none = tt
no_command words verb file rest numbers None are print small none = λ command mean.
    let here = subst (λ ws. Mean ws command) are mean in
    none command (verb_is verb file rest command here) (prints_write verb file rest numbers command small print here)
