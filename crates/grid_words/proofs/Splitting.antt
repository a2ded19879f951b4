-- How `clap` splits words that begin with a verb.
use Rattle.std.proofs.Common.{◌≡◌, ◌∙◌, ◌==◌, ◌≤◌, ◌&&◌, ◌⊎◌, ◌||◌, nat_lt, inl, inr, cond, append-nil, append_assoc, ℕ, List, [], ◌∷◌, ◌++◌, length, refl, ap, sym, arith, true, false, Bool, Some, None}
use Rattle.std.specs.Prelude.{codes, fold, find, option_and_then, option_map, is_some}
use Rattle.std.proofs.lemmas.Bool.{ne_eqb, le-ltb}
use Rattle.clap.specs.Walk.{Held, Names, Rule, Text, Waiting, Walk, plain_word, subcommand_or_other, idle, positional, nothing_held, walk, walk_from, walked, rows_after, after_step, trailing, long_or_other, short_or_plain, settled, finished, answers_to, subcommand_met}
use Rattle.clap.specs.Kinds.{Kinds, or_else, range_kinds, values_kinds}
use Rattle.clap.specs.declared.error.kind.ErrorKind.{ErrorKind}
use Rattle.clap.specs.declared.error.kind.ErrorKind.TheVariants as kind
use Rattle.clap.specs.declared.builder.value_parser.ValueParser.TheVariants as vp
use Rattle.std.specs.Option.{option_map_or}
use Rattle.std.proofs.lemmas.Slice.Eq.{bytes_eq-Decides}
use Rattle.std.specs.List.{All}
use Rattle.std.specs.Str.{bytes_eq}
use Rattle.std.proofs.lemmas.List.Elements.{All-head, All-tail}
use Rattle.clap.specs.Lexer.{long_of, long_of_rest, short_of_rest, strip_byte}
use Rattle.clap.specs.Simple.{App, Shape, names_of, entered, built, built_leaf, inherited, subcommand_of}
use Rattle.clap.specs.Faults.{fault_of, is_simple_and_free, other_fault, flag_word_fault, bundle_fault, turn_fault, step_fault, walk_fault, level_fault, entered_fault, settle_fault, defaults_fault, check_fault}
use Rattle.clap.proofs.OnLiterals.{clap_on_literals}
use Rattle.grid_words.specs.Commands.{IsPlain}
use Rattle.grid_words.specs.Program.{grid_app, verb_app, found, found_in}

pub grid_simple : is_simple_and_free grid_app ≡ true
unfolding clap_on_literals
grid_simple = refl

-- the built program, and a built verb of it
abbrev program : App
program = built grid_app

abbrev leaf : Text → Shape
leaf verb = built_leaf (inherited program.top (verb_app verb).top)

abbrev leaf_rules : List Rule
leaf_rules = (leaf []).rules

-- the walk behind the name of a file
abbrev at_file : Text → Walk
at_file file = record {
  held = record { rows = []; pending = Some (codes "file", file ∷ []); skip = 0 };
  waiting = idle;
  position = 2;
  is_trailing = false;
  stopped = None;
}

-- the walk behind the name of a file and numbers
abbrev at_numbers : Text → List Text → Walk
at_numbers file numbers = record {
  held = record { rows = found (codes "file") (file ∷ []) ∷ []; pending = Some (codes "numbers", numbers); skip = 0 };
  waiting = positional;
  position = 2;
  is_trailing = false;
  stopped = None;
}

-- a word that begins with no dash is no option
plain_met : (c : List Rule) (waiting : Waiting) (position : ℕ) (word : Text) (h : Held) → IsPlain word
    → subcommand_or_other c None waiting position word h ≡ plain_word c waiting word h
plain_met c waiting position [] h plain = absurd plain
plain_met c waiting position (b ∷ bs) h plain =
    let e : (b == 45) ≡ false = ne_eqb b 45 plain in
    ap (λ t. cond (t && bytes_eq bs (45 ∷ [])) (h, trailing position) (long_or_other c waiting (b ∷ bs) (long_of (b ∷ bs)) h)) e
    ∙ ap (λ t. long_or_other c waiting (b ∷ bs) (option_and_then long_of_rest (option_and_then (strip_byte 45) (cond t (Some bs) None))) h) e
    ∙ ap (λ t. short_or_plain c waiting (b ∷ bs) (option_and_then short_of_rest (cond t (Some bs) None)) h) e

to_file : (word : Text) → IsPlain word → walked leaf_rules [] (walk_from nothing_held) word ≡ at_file word
unfolding clap_on_literals
to_file word plain = ap (λ met. after_step leaf_rules word (walk_from nothing_held) met.0 met.1) (plain_met leaf_rules idle 1 word nothing_held plain)

to_numbers : (file word : Text) → IsPlain word → walked leaf_rules [] (at_file file) word ≡ at_numbers file (word ∷ [])
unfolding clap_on_literals
to_numbers file word plain = ap (λ met. after_step leaf_rules word (at_file file) met.0 met.1) (plain_met leaf_rules idle 2 word (at_file file).held plain)

to_more : (file : Text) (numbers : List Text) (word : Text) → IsPlain word → walked leaf_rules [] (at_numbers file numbers) word ≡ at_numbers file (numbers ++ word ∷ [])
unfolding clap_on_literals
to_more file numbers word plain =
    ap (λ met. after_step leaf_rules word (at_numbers file numbers) met.0 met.1) (plain_met leaf_rules positional 2 word (at_numbers file numbers).held plain)

-- all the words of a list begin with no dash
abbrev pub ArePlain : List Text → Type 0
ArePlain = All IsPlain

to_all : (file : Text) (numbers words : List Text) → ArePlain words
    → fold (walked leaf_rules []) (at_numbers file numbers) words ≡ at_numbers file (numbers ++ words)
to_all file numbers [] plain = ap (at_numbers file) (sym (append-nil numbers))
to_all file numbers (word ∷ words) plain =
    ap (λ w. fold (walked leaf_rules []) w words) (to_more file numbers word (All-head IsPlain word words plain))
    ∙ to_all file (numbers ++ word ∷ []) words (All-tail IsPlain word words plain)
    ∙ ap (at_numbers file) (append_assoc numbers (word ∷ []) words)

-- what is found behind a verb
leaf_rows : (words : List Text) → ArePlain words → rows_after leaf_rules [] words ≡ found_in words
unfolding clap_on_literals
leaf_rows [] plain = refl
leaf_rows (file ∷ []) plain = ap (λ w. finished leaf_rules w.held) (to_file file (All-head IsPlain file [] plain))
leaf_rows (file ∷ number ∷ numbers) plain =
    let behind = All-tail IsPlain file (number ∷ numbers) plain in
    ap (λ w. finished leaf_rules (fold (walked leaf_rules []) w (number ∷ numbers)).held) (to_file file (All-head IsPlain file (number ∷ numbers) plain))
    ∙ ap (λ w. finished leaf_rules (fold (walked leaf_rules []) w numbers).held) (to_numbers file number (All-head IsPlain number numbers behind))
    ∙ ap (λ w. finished leaf_rules w.held) (to_all file (number ∷ []) numbers (All-tail IsPlain number numbers behind))

-- ---- verbs

-- the five verbs
pub data Verb : Type 0 where
  make : Verb
  run : Verb
  check : Verb
  dump : Verb
  gen : Verb

abbrev pub verb_text : Verb → Text
verb_text make = codes "make"
verb_text run = codes "run"
verb_text check = codes "check"
verb_text dump = codes "dump"
verb_text gen = codes "gen"

abbrev names : Names
names = names_of program

-- the walk behind a verb and words
abbrev behind_verb : Text → List Text → Walk
behind_verb verb words = record (walk_from nothing_held) { stopped = Some (verb, words) }

to_verb : (verb : Verb) → walked program.top.rules names (walk_from nothing_held) (verb_text verb) ≡ behind_verb (verb_text verb) []
unfolding clap_on_literals
to_verb make = refl
to_verb run = refl
to_verb check = refl
to_verb dump = refl
to_verb gen = refl

to_rest : (verb : Text) (before words : List Text) → fold (walked program.top.rules names) (behind_verb verb before) words ≡ behind_verb verb (before ++ words)
unfolding clap_on_literals
to_rest verb before [] = ap (behind_verb verb) (sym (append-nil before))
to_rest verb before (word ∷ words) = to_rest verb (before ++ word ∷ []) words ∙ ap (behind_verb verb) (append_assoc before (word ∷ []) words)

-- the walk over a verb and the words behind it
whole_walk : (verb : Verb) (words : List Text) → walk program.top.rules names nothing_held (verb_text verb ∷ words) ≡ behind_verb (verb_text verb) words
whole_walk verb words = ap (λ w. fold (walked program.top.rules names) w words) (to_verb verb) ∙ to_rest (verb_text verb) [] words

enters : (verb : Verb) (words : List Text) → entered program (Some (verb_text verb, words)) ≡ Some (verb_text verb, rows_after leaf_rules [] words)
unfolding clap_on_literals
enters make words = refl
enters run words = refl
enters check words = refl
enters dump words = refl
enters gen words = refl

-- a verb and the words behind it are split so
pub verb_splits : (verb : Verb) (words : List Text) → ArePlain words → subcommand_of grid_app (verb_text verb ∷ words) ≡ Some (verb_text verb, found_in words)
verb_splits verb words plain =
    ap (λ w. entered program w.stopped) (whole_walk verb words) ∙ enters verb words ∙ ap (λ rows. Some (verb_text verb, rows)) (leaf_rows words plain)

skip : (word : Text) (s : Text × List Text) (rest : Names) → answers_to word s ≡ false → find (answers_to word) (s ∷ rest) ≡ find (answers_to word) rest
skip word s rest e = ap (λ t. cond t (Some s) (find (answers_to word) rest)) e

abbrev label : Verb → Text × List Text
label verb = (verb_text verb, [])

tells : (verb : Verb) (word : Text) (t : Bool) → bytes_eq (verb_text verb) word ≡ t → (word ≡ verb_text verb) ⊎ (answers_to word (label verb) ≡ false)
tells verb word true e = inl (sym ((bytes_eq-Decides (verb_text verb) word).0 e))
tells verb word false e = inr (ap (λ t. t || false) e)

-- a word is a verb, or it names none
pub verb_or_none : (word : Text) → ((verb : Verb) × (word ≡ verb_text verb)) ⊎ (subcommand_met names idle word ≡ None)
unfolding clap_on_literals
verb_or_none word = elim (tells make word _ refl) [
  | inl is ↦ inl (make, is)
  | inr a ↦ elim (tells run word _ refl) [
    | inl is ↦ inl (run, is)
    | inr b ↦ elim (tells check word _ refl) [
      | inl is ↦ inl (check, is)
      | inr c ↦ elim (tells dump word _ refl) [
        | inl is ↦ inl (dump, is)
        | inr d ↦ elim (tells gen word _ refl) [
          | inl is ↦ inl (gen, is)
          | inr e ↦ inr (ap (option_map (λ (s : Text × List Text). s.0))
              (skip word (label make) (label run ∷ label check ∷ label dump ∷ label gen ∷ []) a
              ∙ skip word (label run) (label check ∷ label dump ∷ label gen ∷ []) b
              ∙ skip word (label check) (label dump ∷ label gen ∷ []) c
              ∙ skip word (label dump) (label gen ∷ []) d
              ∙ skip word (label gen) [] e))
        ]
      ]
    ]
  ]
]

-- ---- what is refused

-- a word that begins with no dash does not fail by itself
plain_fault : (s : Shape) (word : Text) (h : Held) → IsPlain word → other_fault s None word h ≡ []
plain_fault s [] h plain = absurd plain
plain_fault s (b ∷ bs) h plain =
    let e : (b == 45) ≡ false = ne_eqb b 45 plain in
    ap (λ t. cond (t && bytes_eq bs (45 ∷ [])) [] (flag_word_fault s.rules s.args_override_self (long_of (b ∷ bs)) (b ∷ bs) h)) e
    ∙ ap (λ t. flag_word_fault s.rules s.args_override_self (option_and_then long_of_rest (option_and_then (strip_byte 45) (cond t (Some bs) None))) (b ∷ bs) h) e
    ∙ ap (λ t. option_map_or (λ flags. bundle_fault s.rules s.args_override_self flags h) (option_and_then short_of_rest (cond t (Some bs) None)) []) e

-- where a walk stands that no verb has stopped
abbrev at : Held → Waiting → ℕ → Walk
at h waiting position = record { held = h; waiting = waiting; position = position; is_trailing = false; stopped = None }

-- a word that begins with no dash and names no verb fails where it finds no place
plain_turn : (s : Shape) (all : Names) (h : Held) (waiting : Waiting) (position : ℕ) (word : Text) → IsPlain word → subcommand_met all waiting word ≡ None
    → turn_fault s all (at h waiting position) word ≡ step_fault s position (plain_word s.rules waiting word h).0 (plain_word s.rules waiting word h).1
plain_turn s all h waiting position word plain unmet =
    ap (λ m. let met = subcommand_or_other s.rules m waiting position word h in or_else (other_fault s m word h) (step_fault s position met.0 met.1)) unmet
    ∙ ap (λ met. or_else (other_fault s None word h) (step_fault s position met.0 met.1)) (plain_met s.rules waiting position word h plain)
    ∙ ap (λ f. or_else f (step_fault s position (plain_word s.rules waiting word h).0 (plain_word s.rules waiting word h).1)) (plain_fault s word h plain)

first_fails : (a b c : Kinds) (k : ErrorKind) (ks : Kinds) → a ≡ k ∷ ks → or_else (or_else a b) c ≡ [] → ⊥
first_fails [] b c k ks e none = let long = ap length e in absurd (omega (arith, long))
first_fails (x ∷ xs) b c k ks e none = let long = ap length none in absurd (omega (arith, long))

-- what fails behind the walk, where the walk ends so
abbrev end_fault : Shape → Held → Bool → Kinds
end_fault s end has_subcommand = or_else (settle_fault s.rules s.args_override_self end)
    (or_else (defaults_fault (settled s.rules end).rows s.rules) (check_fault s (finished s.rules end) has_subcommand))

-- words of which the first is no verb are refused
pub stray_refused : (word : Text) (words : List Text) → IsPlain word → subcommand_met names idle word ≡ None → fault_of grid_app (word ∷ words) ≡ [] → ⊥
unfolding clap_on_literals
stray_refused word words plain unmet none =
    let end = walk program.top.rules names nothing_held (word ∷ words) in
    first_fails (turn_fault program.top names (walk_from nothing_held) word) (walk_fault program.top names (walked program.top.rules names (walk_from nothing_held) word) words)
    (or_else (entered_fault program end.stopped) (end_fault program.top end.held (is_some (entered program end.stopped))))
    kind.UnknownArgument (kind.InvalidSubcommand ∷ []) (plain_turn program.top names nothing_held idle 1 word plain unmet) none

-- ---- what is not refused

strings_pass : (values : List Text) → values_kinds false vp.String values ≡ []
strings_pass [] = refl
strings_pass (v ∷ vs) = strings_pass vs

few_pass : (n : ℕ) → 1 ≤ n → n ≤ 6 → range_kinds 1 6 n ≡ []
few_pass n some few =
    ap (λ t. cond t (kind.InvalidValue ∷ []) (cond (nat_lt n 1) (kind.TooFewValues ∷ []) (cond (nat_lt 6 n) (kind.TooManyValues ∷ []) []))) (ne_eqb n 0 (λ e. omega (arith, e, some)))
    ∙ ap (λ t. cond t (kind.TooFewValues ∷ []) (cond (nat_lt 6 n) (kind.TooManyValues ∷ []) [])) (le-ltb n 1 some)
    ∙ ap (λ t. cond t (kind.TooManyValues ∷ []) []) (le-ltb 6 n few)

file_turn : (verb file : Text) → IsPlain file → turn_fault (leaf verb) [] (walk_from nothing_held) file ≡ []
unfolding clap_on_literals
file_turn verb file plain = plain_turn (leaf verb) [] nothing_held idle 1 file plain refl

number_turn : (verb file number : Text) → IsPlain number → turn_fault (leaf verb) [] (at_file file) number ≡ []
unfolding clap_on_literals
number_turn verb file number plain = plain_turn (leaf verb) [] (at_file file).held idle 2 number plain refl

more_turn : (verb file : Text) (numbers : List Text) (number : Text) → IsPlain number → turn_fault (leaf verb) [] (at_numbers file numbers) number ≡ []
unfolding clap_on_literals
more_turn verb file numbers number plain = plain_turn (leaf verb) [] (at_numbers file numbers).held positional 2 number plain refl

more_walk : (verb file : Text) (numbers words : List Text) → ArePlain words → walk_fault (leaf verb) [] (at_numbers file numbers) words ≡ []
unfolding clap_on_literals
more_walk verb file numbers [] plain = refl
more_walk verb file numbers (word ∷ words) plain =
    let first = All-head IsPlain word words plain in
    ap (λ f. or_else f (walk_fault (leaf verb) [] (walked leaf_rules [] (at_numbers file numbers) word) words)) (more_turn verb file numbers word first)
    ∙ ap (λ w. walk_fault (leaf verb) [] w words) (to_more file numbers word first)
    ∙ more_walk verb file (numbers ++ word ∷ []) words (All-tail IsPlain word words plain)

-- the words behind a verb, up to six numbers, are not refused
number_end : (verb file number : Text) (numbers : List Text) → length (number ∷ numbers) ≤ 6
    → settle_fault leaf_rules false (at_numbers file (number ∷ numbers)).held ≡ []
unfolding clap_on_literals
number_end verb file number numbers few =
    ap (λ f. or_else f (values_kinds false vp.String (number ∷ numbers))) (few_pass (length (number ∷ numbers)) (omega arith) few) ∙ strings_pass (number ∷ numbers)

abbrev leaf_fault : Text → Walk → Kinds → Kinds
leaf_fault verb w f = or_else f (or_else [] (end_fault (leaf verb) w.held false))

leaf_passes : (verb file : Text) (numbers : List Text) → IsPlain file → ArePlain numbers → length numbers ≤ 6
    → level_fault (leaf verb) [] nothing_held (file ∷ numbers) false [] ≡ []
unfolding clap_on_literals
leaf_passes verb file [] plain all few =
    ap (λ w. leaf_fault verb w (walk_fault (leaf verb) [] (walk_from nothing_held) (file ∷ []))) (to_file file plain)
    ∙ ap (λ f. leaf_fault verb (at_file file) (or_else f [])) (file_turn verb file plain)
leaf_passes verb file (number ∷ numbers) plain all few =
    let first = All-head IsPlain number numbers all in
    let behind = All-tail IsPlain number numbers all in
    let walks = ap (λ w. fold (walked leaf_rules []) w (number ∷ numbers)) (to_file file plain)
    ∙ ap (λ w. fold (walked leaf_rules []) w numbers) (to_numbers file number first)
    ∙ to_all file (number ∷ []) numbers behind in
    let passes : walk_fault (leaf verb) [] (walk_from nothing_held) (file ∷ number ∷ numbers) ≡ [] =
    ap (λ f. or_else f (walk_fault (leaf verb) [] (walked leaf_rules [] (walk_from nothing_held) file) (number ∷ numbers))) (file_turn verb file plain)
    ∙ ap (λ w. walk_fault (leaf verb) [] w (number ∷ numbers)) (to_file file plain)
    ∙ ap (λ f. or_else f (walk_fault (leaf verb) [] (walked leaf_rules [] (at_file file) number) numbers)) (number_turn verb file number first)
    ∙ ap (λ w. walk_fault (leaf verb) [] w numbers) (to_numbers file number first)
    ∙ more_walk verb file (number ∷ []) numbers behind in
    ap (λ w. leaf_fault verb w (walk_fault (leaf verb) [] (walk_from nothing_held) (file ∷ number ∷ numbers))) walks
    ∙ ap (leaf_fault verb (at_numbers file (number ∷ numbers))) passes
    ∙ ap (λ f. or_else f (or_else (defaults_fault (settled leaf_rules (at_numbers file (number ∷ numbers)).held).rows leaf_rules)
    (check_fault (leaf verb) (finished leaf_rules (at_numbers file (number ∷ numbers)).held) false))) (number_end verb file number numbers few)

behind_walk : (verb : Text) (before words : List Text) → walk_fault program.top names (behind_verb verb before) words ≡ []
unfolding clap_on_literals
behind_walk verb before [] = refl
behind_walk verb before (word ∷ words) = behind_walk verb (before ++ word ∷ []) words

verb_walk : (verb : Verb) (words : List Text) → walk_fault program.top names (walk_from nothing_held) (verb_text verb ∷ words) ≡ []
unfolding clap_on_literals
verb_walk make words = behind_walk (verb_text make) [] words
verb_walk run words = behind_walk (verb_text run) [] words
verb_walk check words = behind_walk (verb_text check) [] words
verb_walk dump words = behind_walk (verb_text dump) [] words
verb_walk gen words = behind_walk (verb_text gen) [] words

abbrev top_fault : Walk → Kinds → Kinds
top_fault w f = or_else f (or_else (entered_fault program w.stopped) (end_fault program.top w.held (is_some (entered program w.stopped))))

verb_ends : (verb : Verb) (file : Text) (numbers : List Text) → IsPlain file → ArePlain numbers → length numbers ≤ 6
    → top_fault (behind_verb (verb_text verb) (file ∷ numbers)) [] ≡ []
unfolding clap_on_literals
verb_ends make file numbers plain all few = ap (λ f. or_else f []) (leaf_passes (verb_text make) file numbers plain all few)
verb_ends run file numbers plain all few = ap (λ f. or_else f []) (leaf_passes (verb_text run) file numbers plain all few)
verb_ends check file numbers plain all few = ap (λ f. or_else f []) (leaf_passes (verb_text check) file numbers plain all few)
verb_ends dump file numbers plain all few = ap (λ f. or_else f []) (leaf_passes (verb_text dump) file numbers plain all few)
verb_ends gen file numbers plain all few = ap (λ f. or_else f []) (leaf_passes (verb_text gen) file numbers plain all few)

-- a verb, the name of a file and up to six words are not refused
pub verb_passes : (verb : Verb) (file : Text) (numbers : List Text) → IsPlain file → ArePlain numbers → length numbers ≤ 6
    → fault_of grid_app (verb_text verb ∷ file ∷ numbers) ≡ []
verb_passes verb file numbers plain all few =
    ap (λ w. top_fault w (walk_fault program.top names (walk_from nothing_held) (verb_text verb ∷ file ∷ numbers))) (whole_walk verb (file ∷ numbers))
    ∙ ap (top_fault (behind_verb (verb_text verb) (file ∷ numbers))) (verb_walk verb (file ∷ numbers))
    ∙ verb_ends verb file numbers plain all few
