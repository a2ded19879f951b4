-- What `clap` is told of the program: its verbs, and what may stand behind one.
use Rattle.std.specs.Prelude.{List, [], ◌∷◌, codes, None, Some, true}
use Rattle.clap.specs.Words.{App, Row, Rule, Text, new_app, new_rule, with_rule, with_subcommand}
use Rattle.clap.specs.declared.builder.value_parser.Reading.TheVariants.{AsWritten}
use Rattle.clap.specs.declared.parser.matches.ValueSource.TheVariants.{CommandLine}
use Rattle.grid_words.specs.declared.numbers.TheConstants.{MOST_NUMBERS}

-- the name of a file, which has to be there
abbrev pub file_rule : Rule
file_rule = record (new_rule (codes "file")) { required = true }

-- some numbers, which may be left out
abbrev pub numbers_rule : Rule
numbers_rule = record (new_rule (codes "numbers")) { range = Some (record { start_inclusive = 1; end_inclusive = MOST_NUMBERS }) }

-- a verb, with the name of a file and numbers behind it
abbrev pub verb_app : Text → App
verb_app verb = with_rule (with_rule (new_app verb) file_rule) numbers_rule

-- the program without verbs: nothing stands for its name, and there is no help
abbrev pub bare_app : App
bare_app = let bare = new_app (codes "grid") in record bare {
  top = record bare.top { no_binary_name = true; disable_help_flag = true; disable_help_subcommand = true };
}

-- the program with one more verb
abbrev pub with_verb : App → Text → App
with_verb program verb = with_subcommand program (verb_app verb).top

-- the program with its five verbs
abbrev pub grid_app : App
grid_app = with_verb (with_verb (with_verb (with_verb (with_verb bare_app (codes "make")) (codes "run")) (codes "check")) (codes "dump")) (codes "gen")

-- what is found for an argument: values as they are written
abbrev pub found : Text → List Text → Row
found id values = record { id = id; values = values; count = None; source = Some CommandLine; reading = AsWritten }

-- what is found in the words behind a verb: the name of a file, and numbers, where there are any
abbrev pub found_in : List Text → List Row
found_in [] = []
found_in (file ∷ []) = found (codes "file") (file ∷ []) ∷ []
found_in (file ∷ number ∷ numbers) = found (codes "file") (file ∷ []) ∷ found (codes "numbers") (number ∷ numbers) ∷ []
