-- What is found in words, and which commands they mean.
use Rattle.std.proofs.Common.{◌≡◌, ◌∙◌, ◌⊎◌, ◌<◌, ◌^◌, ◌++◌, ℕ, List, [], ◌∷◌, Option, Some, None, map, length, refl, ap, sym, subst, arith, inl, inr, true, true≢false, unwrap_or}
use Rattle.std.specs.Prelude.{codes, decimal, option_map, is_some, IfSome}
use Rattle.std.specs.Str.Parse.{IsNumeral}
use Rattle.std.proofs.lemmas.Fmt.{decimal_is_IsNumeral}
use Rattle.std.proofs.lemmas.Str.Parse.{digit_from_value}
use Rattle.std.proofs.lemmas.List.Elements.{All-cons, All-nil, All-head, All-tail}
use Rattle.clap.specs.Words.{Row, Text, all_of, first_of, is_simple, subcommand_of, subcommand_rows_of, fault_of}
use Rattle.clap.specs.Matches.{subcommand_name_of}
use Rattle.clap.specs.declared.parser.matches.ArgMatches.{ArgMatches}
use Rattle.clap.specs.declared.parser.matches.ArgMatches.TheViews.{out-ArgMatches}
use Rattle.clap.proofs.OnLiterals.{clap_on_literals}
use Rattle.grid_words.specs.declared.command.Command.{Command}
use Rattle.grid_words.specs.declared.command.Command.TheVariants.{Make, Run, Check, Dump, Gen}
use Rattle.grid_words.specs.Commands.{IsPlain, Mean, MeanNothing, Write, verb_of, file_of}
use Rattle.grid_words.specs.Program.{found_in, grid_app}
use Rattle.grid_words.proofs.Decimals.{AreSmall, print_count}
use Rattle.grid_words.proofs.Splitting.{ArePlain, Verb, make, run, check, dump, gen, verb_text, verb_or_none, verb_splits, verb_passes, stray_refused}
use Rattle.grid_words.proofs.Written.{written_few}

-- ---- plain words

numeral_plain : (ds : Text) → IsNumeral 10 ds → IsPlain ds
numeral_plain [] h = let some = h.0 in absurd (omega (arith, some))
numeral_plain (b ∷ bs) h = λ e. let digit = digit_from_value b h.1.0 in omega (arith, e, digit)

-- numbers in decimal are plain words
prints_plain : (numbers : List ℕ) → AreSmall numbers → ArePlain (map decimal numbers)
prints_plain [] small = All-nil IsPlain
prints_plain (n ∷ ns) small =
    let lt : n < 2 ^ 32 = All-head (λ m. m < 2 ^ 32) n ns small in
    All-cons IsPlain (decimal n) (map decimal ns) (numeral_plain (decimal n) (decimal_is_IsNumeral n (omega (arith, lt))).0) (prints_plain ns (All-tail (λ m. m < 2 ^ 32) n ns small))

verb_plain : (command : Command) → IsPlain (verb_of command)
verb_plain (Make file shape) = λ e. omega (arith, e)
verb_plain (Run file) = λ e. omega (arith, e)
verb_plain (Check file) = λ e. omega (arith, e)
verb_plain (Dump file) = λ e. omega (arith, e)
verb_plain (Gen file seed rounds clients) = λ e. omega (arith, e)

-- words that mean a command are plain
mean_plain : (words : List Text) (command : Command) → Mean words command → ArePlain words
mean_plain words command m =
    let few = written_few m.numbers command m.written in
    subst ArePlain (sym m.words_are) (All-cons IsPlain (verb_of command) (file_of command ∷ map decimal m.numbers) (verb_plain command) (All-cons IsPlain (file_of command) (map decimal m.numbers) m.plain (prints_plain m.numbers few.small)))

plain_behind : (front : List Text) (word : Text) (rest : List Text) → ArePlain (front ++ word ∷ rest) → IsPlain word
plain_behind [] word rest all = All-head IsPlain word rest all
plain_behind (x ∷ xs) word rest all = plain_behind xs word rest (All-tail IsPlain x (xs ++ word ∷ rest) all)

-- words of which one is not plain mean nothing
pub not_plain : (words front : List Text) (word : Text) (rest : List Text) → words ≡ front ++ word ∷ rest → (IsPlain word → ⊥) → MeanNothing words
not_plain words front word rest are not command mean = not (plain_behind front word rest (subst ArePlain are (mean_plain words command mean)))

-- ---- what is found behind a verb

-- the words that are found as numbers
abbrev pub numbers_found : List Row → List Text
numbers_found rows = unwrap_or (all_of (codes "numbers") rows) []

some≢none : {X : Type 0} (x : X) → Some x ≡ None → ⊥
some≢none x e = true≢false (ap is_some e)

-- a verb alone means nothing
pub lone_verb : (verb : Text) → MeanNothing (verb ∷ [])
lone_verb verb command mean = let long = ap length mean.words_are in omega (arith, long)

-- where no file is found behind a verb, nothing is meant
pub no_file : (verb : Text) (words : List Text) → None ≡ first_of (codes "file") (found_in words) → MeanNothing (verb ∷ words)
unfolding clap_on_literals
no_file verb [] e = lone_verb verb
no_file verb (file ∷ []) e = absurd (some≢none file (sym e))
no_file verb (file ∷ number ∷ numbers) e = absurd (some≢none file (sym e))

-- the words behind a verb are the file and the numbers that are found
pub file_words : (words : List Text) (file : Text) → Some file ≡ first_of (codes "file") (found_in words) → words ≡ file ∷ numbers_found (found_in words)
unfolding clap_on_literals
file_words [] file e = absurd (some≢none file e)
file_words (f ∷ []) file e = ap (λ o. unwrap_or o f ∷ []) (sym e)
file_words (f ∷ number ∷ numbers) file e = ap (λ o. unwrap_or o f ∷ number ∷ numbers) (sym e)

-- a command with a verb, a file and numbers is meant by them
pub meant_by : (found : Option Command) (verb file : Text) (words : List Text) (numbers : List ℕ) → words ≡ file ∷ map decimal numbers → IsPlain file
    → IfSome found (λ c. (verb_of c ≡ verb) × (file_of c ≡ file) × Write numbers c) → IfSome found (λ c. Mean (verb ∷ words) c)
meant_by None verb file words numbers are plain h = tt
meant_by (Some command) verb file words numbers are plain h = record {
  numbers = numbers;
  words_are = ap (λ ws. verb ∷ ws) are ∙ ap (λ v. v ∷ file ∷ map decimal numbers) (sym h.0) ∙ ap (λ f. verb_of command ∷ f ∷ map decimal numbers) (sym h.1);
  plain = subst IsPlain (sym h.1) plain;
  written = h.2;
}

-- ---- how words are split

verb_kind : (command : Command) → (verb : Verb) × (verb_of command ≡ verb_text verb)
verb_kind (Make file shape) = (make, refl)
verb_kind (Run file) = (run, refl)
verb_kind (Check file) = (check, refl)
verb_kind (Dump file) = (dump, refl)
verb_kind (Gen file seed rounds clients) = (gen, refl)

-- words that mean a command are not refused
pub meant_passes : (words : List Text) (command : Command) → Mean words command → fault_of grid_app words ≡ []
meant_passes words command m =
    let few = written_few m.numbers command m.written in
    let verb = verb_kind command in
    let count = print_count m.numbers in
    let most = few.few in
    subst (λ ws. fault_of grid_app ws ≡ []) (sym (m.words_are ∙ ap (λ v. v ∷ file_of command ∷ map decimal m.numbers) verb.1))
    (verb_passes verb.0 (file_of command) (map decimal m.numbers) m.plain (prints_plain m.numbers few.small) (omega (arith, count, most)))

-- how words are split
pub record Split (words : List Text) (verb : Text) (rest : List Text) : Type 0 where
  pub words_are : words ≡ verb ∷ rest
  pub plain : ArePlain rest
  pub split : subcommand_of grid_app words ≡ Some (verb, found_in rest)

-- words that are not refused are none, or they are split
pub splits : (words : List Text) → ArePlain words → fault_of grid_app words ≡ [] → (words ≡ []) ⊎ ((verb : Text) × (rest : List Text) × Split words verb rest)
splits [] plain none = inl refl
splits (word ∷ words) plain none =
    let first = All-head IsPlain word words plain in
    let behind = All-tail IsPlain word words plain in
    elim (verb_or_none word) [
      | inl verb ↦ inr (
        word,
        words,
        record {
          words_are = refl;
          plain = behind;
          split = subst (λ w. subcommand_of grid_app (w ∷ words) ≡ Some (w, found_in words)) (sym verb.1) (verb_splits verb.0 words behind);
        },
      )
      | inr unmet ↦ absurd (stray_refused word words first unmet none)
    ]

pub program_simple : is_simple grid_app ≡ true
unfolding clap_on_literals
program_simple = refl

firsts : {X Y Z : Type 0} (o : Option X) (f : X → Y) (g : X → Z) → option_map f o ≡ option_map (λ (p : Y × Z). p.0) (option_map (λ x. (f x, g x)) o)
firsts None f g = refl
firsts (Some x) f g = refl

-- the name of a subcommand is that of its rows
pub subcommand_name : (m : ArgMatches) → subcommand_name_of m ≡ option_map (λ p. p.0) (subcommand_rows_of m)
subcommand_name m = firsts (out-ArgMatches m).subcommand _ _

-- no words mean nothing
no_words : MeanNothing []
no_words command mean = let long = ap length mean.words_are in omega (arith, long)

no_verb : subcommand_of grid_app [] ≡ None
unfolding clap_on_literals
no_verb = refl

-- plain words in which no verb is found mean nothing
pub no_split : (words : List Text) (m : ArgMatches) → ArePlain words → fault_of grid_app words ≡ [] → subcommand_rows_of m ≡ subcommand_of grid_app words
    → None ≡ option_map (λ p. p.1) (subcommand_rows_of m) → MeanNothing words
no_split words m plain passes rows none = elim (splits words plain passes) [
  | inl e ↦ subst MeanNothing (sym e) no_words
  | inr s ↦ absurd (some≢none (found_in s.1) (sym (none ∙ ap (option_map (λ p. p.1)) (rows ∙ s.2.split))))
]

-- the words behind a verb, and what is found in them
pub record Behind (words : List Text) (verb : Text) (found : List Row) : Type 0 where
  pub rest : List Text
  pub words_are : words ≡ verb ∷ rest
  pub plain : ArePlain rest
  pub found_is : found ≡ found_in rest

-- plain words in which a verb is found are this verb and others, in which the rest is found
pub split_is : (words : List Text) (m : ArgMatches) (verb : Text) (found : List Row) → ArePlain words → fault_of grid_app words ≡ []
    → subcommand_rows_of m ≡ subcommand_of grid_app words → Some verb ≡ subcommand_name_of m → Some found ≡ option_map (λ p. p.1) (subcommand_rows_of m)
    → Behind words verb found
split_is words m verb found plain passes rows name some = elim (splits words plain passes) [
  | inl e ↦ absurd (some≢none found (some ∙ ap (option_map (λ p. p.1)) (rows ∙ ap (subcommand_of grid_app) e ∙ no_verb)))
  | inr s ↦ (
      let verb_is : verb ≡ s.0 = ap (λ o. unwrap_or o verb) (name ∙ subcommand_name m ∙ ap (option_map (λ p. p.0)) (rows ∙ s.2.split)) in
      record {
        rest = s.1;
        words_are = s.2.words_are ∙ ap (λ v. v ∷ s.1) (sym verb_is);
        plain = s.2.plain;
        found_is = ap (λ o. unwrap_or o found) (some ∙ ap (option_map (λ p. p.1)) (rows ∙ s.2.split));
      })
]
