-- Which command was done, and which endings it may have.
use Rattle.std.proofs.Common.{◌≡◌, ◌⊎◌, inl, inr, ℕ, IsTrue, List, [], ◌∷◌, refl, sym, ap, subst, ◌∙◌, arith}
use Rattle.std.specs.Prelude.{string_bytes, ⊤}
use Rattle.grid_types.specs.declared.refusal.Refusal.{Refusal}
use Rattle.grid_types.specs.declared.refusal.Refusal.TheVariants as refusal
use Rattle.disk_trait.specs.declared.bay.Bay.{Ghosts as Bays}
use Rattle.disk_trait.specs.declared.disk.Disk.{Ghosts as Disks}
use Rattle.disk_trait.specs.declared.sink.Sink.{Ghosts as Sinks}
use Rattle.disk_trait.specs.declared.source.Source.{Ghosts as Sources}
use Rattle.grid_words.specs.Commands.{Mean, file_of}
use Rattle.grid_words.specs.declared.command.Command.{Command}
use Rattle.grid_words.specs.declared.command.Command.TheVariants.{Make, Run, Check, Dump, Gen}
use Rattle.grid_shell.specs.declared.ending.Ending.{Ending}
use Rattle.grid_shell.specs.declared.ending.Ending.TheVariants.{Done, BadWords, BadScript, Damaged, Device, Memory, Refused, Unsure}
use Rattle.grid_shell.specs.Endings.{status_of, with_fault, unopened, IsOfLines, EndsBeside}
use Rattle.grid_shell.specs.Inputs.{IsUnreadSo}
use Rattle.grid_shell.specs.Runs.{WorksLines, RunsAt, RunsDisk}
use Rattle.grid_shell.specs.Files.{IsReturned, RunsFile, MakesFile}
use Rattle.grid_shell.specs.Commands.{IsOffered, IsRun, AskNothing, IsUntouched, Does, Came}
use Rattle.grid_shell.specs.Headline.{Serves}
use Rattle.grid_shell.proofs.Serving.{ShapeLaws, serves_file, serves_untouched}

-- an ending is not that of words
abbrev pub IsNotOfWords : Ending → Type 0
IsNotOfWords e = status_of e ≡ 2 → ⊥

unopened_words : (e : Refusal) → IsNotOfWords (unopened e)
unopened_words refusal.NoMemory h = omega (arith, h)
unopened_words refusal.ReadFault h = omega (arith, h)
unopened_words refusal.WriteFault h = omega (arith, h)
unopened_words (refusal.Unsure faults before) h = omega (arith, h)
unopened_words (refusal.Stopped faults opened) h = omega (arith, h)
unopened_words (refusal.Full free need) h = omega (arith, h)
unopened_words (refusal.NoCut cells boundaries) h = omega (arith, h)
unopened_words (refusal.Damaged page) h = omega (arith, h)
unopened_words refusal.Foreign h = omega (arith, h)
unopened_words (refusal.Version found) h = omega (arith, h)
unopened_words refusal.Seats h = omega (arith, h)
unopened_words refusal.BadShape h = omega (arith, h)
unopened_words refusal.BadQuery h = omega (arith, h)
unopened_words (refusal.Worn count) h = omega (arith, h)
unopened_words (refusal.Arity found) h = omega (arith, h)

fault_words : (e : Ending) → IsNotOfWords e → IsNotOfWords (with_fault e)
fault_words Done never h = omega (arith, h)
fault_words Damaged never h = omega (arith, h)
fault_words other never h = never h

lines_words : (e : Ending) → IsOfLines e → IsNotOfWords e
lines_words Done line h = omega (arith, h)
lines_words Damaged line h = omega (arith, h)
lines_words Memory line h = omega (arith, h)
lines_words Refused line h = omega (arith, h)
lines_words Unsure line h = omega (arith, h)
lines_words other line h = absurd line

beside_words : (e now : Ending) (before after : ℕ) → IsNotOfWords e → EndsBeside e before after now → IsNotOfWords now
beside_words e now before after never (inl same) = subst IsNotOfWords (sym same.0) never
beside_words e now before after never (inr rose) = subst IsNotOfWords (sym rose.0) (fault_words e never)

device_words : (e : Ending) → e ≡ Device → IsNotOfWords e
device_words e is h = let five : status_of e ≡ 5 = ap status_of is in omega (arith, five, h)

memory_words : (e : Ending) → e ≡ Memory → IsNotOfWords e
memory_words e is h = let six : status_of e ≡ 6 = ap status_of is in omega (arith, six, h)

module _ {D S O : Type 0} (d : Disks D) (s : Sources S) (o : Sinks O) (old new : D) (input : S × S) (out : O × O) (e : Ending) where
  works_words : {K : ℕ} (lines : List _) → WorksLines {K = K} d o lines old new out e → IsNotOfWords e
  works_words lines (inl w) = subst IsNotOfWords (sym w.ends) (unopened_words w.refusal)
  works_words lines (inr w) = beside_words w.prints.worst e _ _ (lines_words w.prints.worst w.prints.line) w.prints.ends

  unread_words : (K : ℕ) (f : Ending) → IsUnreadSo K s input.0 input.1 f → IsNotOfWords f
  unread_words K (BadScript line) why h = omega (arith, h)
  unread_words K Device why h = omega (arith, h)
  unread_words K Memory why h = omega (arith, h)
  unread_words K other why h = absurd why

  at_words : (K : ℕ) → RunsAt K d s o old new input out e → IsNotOfWords e
  at_words K (inl r) = unread_words K e r.why
  at_words K (inr r) = works_words r.lines r.works

  disk_words : RunsDisk d s o old new input out e → IsNotOfWords e
  disk_words (inl r) = memory_words e r.ends
  disk_words (inr (inl r)) = subst IsNotOfWords (sym r.ends) (unopened_words r.refusal)
  disk_words (inr (inr r)) = at_words r.attributes r.runs

module _ {B D S O : Type 0} (b : Bays B D) (d : Disks D) (s : Sources S) (o : Sinks O) (bay : B × B) (input : S × S) (out : O × O) where
  run_words : (name : List ℕ) (e : Ending) → RunsFile b d s o name bay input out e → IsNotOfWords e
  run_words name e (inl r) = device_words e r.ends
  run_words name e (inr r) = beside_words r.before e _ _ (inner r.runs) r.back.ends
    where
      inner : IsReturned b bay r.old r.new input out r.before ⊎ RunsDisk d s o r.old r.new input out r.before → IsNotOfWords r.before
      inner (inl back) = device_words r.before back.ends
      inner (inr ran) = disk_words d s o r.old r.new input out r.before ran

  make_words : (name : List ℕ) (shape : _) (e : Ending) → MakesFile b d o name shape bay out e → IsNotOfWords e
  make_words name shape e (inl r) = device_words e r.ends
  make_words name shape e (inr r) = beside_words Done e _ _ (λ h. omega (arith, h)) r.ends

  offered_words : (c : Command) (e : Ending) → IsOffered c → Does b d s o c bay input out e → IsNotOfWords e
  offered_words (Make file shape) e offered does = make_words (string_bytes file) shape e does.0
  offered_words (Run file) e offered does = run_words (string_bytes file) e does
  offered_words other e offered does = absurd offered

-- the first byte of the first word, and the second word
abbrev first_byte : List (List ℕ) → ℕ
first_byte ((x ∷ xs) ∷ words) = x
first_byte other = 0

abbrev second_word : List (List ℕ) → List ℕ
second_word (x ∷ y ∷ words) = y
second_word other = []

-- the first byte of each verb
abbrev verb_byte : Command → ℕ
verb_byte (Make file shape) = 109
verb_byte (Run file) = 114
verb_byte (Check file) = 99
verb_byte (Dump file) = 100
verb_byte (Gen file seed rounds clients) = 103

begins_with : (words : List (List ℕ)) (c : Command) → Mean words c → first_byte words ≡ verb_byte c
begins_with words (Make file shape) m = ap first_byte m.words_are
begins_with words (Run file) m = ap first_byte m.words_are
begins_with words (Check file) m = ap first_byte m.words_are
begins_with words (Dump file) m = ap first_byte m.words_are
begins_with words (Gen file seed rounds clients) m = ap first_byte m.words_are

names_file : (words : List (List ℕ)) (c : Command) → Mean words c → second_word words ≡ file_of c
names_file words (Make file shape) m = ap second_word m.words_are
names_file words (Run file) m = ap second_word m.words_are
names_file words (Check file) m = ap second_word m.words_are
names_file words (Dump file) m = ap second_word m.words_are
names_file words (Gen file seed rounds clients) m = ap second_word m.words_are

offered_or_not : (c : Command) → IsOffered c ⊎ (IsOffered c → ⊥)
offered_or_not (Make file shape) = inl tt
offered_or_not (Run file) = inl tt
offered_or_not (Check file) = inr (λ none. none)
offered_or_not (Dump file) = inr (λ none. none)
offered_or_not (Gen file seed rounds clients) = inr (λ none. none)

other_verb : (e c : Command) → (IsOffered e → ⊥) → IsOffered c → verb_byte e ≡ verb_byte c → ⊥
other_verb (Make file shape) c never offered h = never tt
other_verb (Run file) c never offered h = never tt
other_verb (Check file) (Make name shape) never offered h = omega (arith, h)
other_verb (Check file) (Run name) never offered h = omega (arith, h)
other_verb (Check file) other never offered h = absurd offered
other_verb (Dump file) (Make name shape) never offered h = omega (arith, h)
other_verb (Dump file) (Run name) never offered h = omega (arith, h)
other_verb (Dump file) other never offered h = absurd offered
other_verb (Gen file seed rounds clients) (Make name shape) never offered h = omega (arith, h)
other_verb (Gen file seed rounds clients) (Run name) never offered h = omega (arith, h)
other_verb (Gen file seed rounds clients) other never offered h = absurd offered

-- words that mean a command which is not offered ask nothing
asks_nothing : (words : List (List ℕ)) (e : Command) → Mean words e → (IsOffered e → ⊥) → AskNothing words
asks_nothing words e means never c offered also = other_verb e c never offered (sym (begins_with words e means) ∙ begins_with words c also)

-- words that mean a run mean no other command
run_alone : (e c : Command) → IsRun c → verb_byte e ≡ verb_byte c → IsRun e
run_alone (Make file shape) (Run name) run h = absurd (omega (arith, h))
run_alone (Run file) (Run name) run h = tt
run_alone (Check file) (Run name) run h = absurd (omega (arith, h))
run_alone (Dump file) (Run name) run h = absurd (omega (arith, h))
run_alone (Gen file seed rounds clients) (Run name) run h = absurd (omega (arith, h))
run_alone e other run h = absurd run

run_offered : (c : Command) → IsRun c → IsOffered c
run_offered (Run file) run = tt
run_offered other run = absurd run

module _ {B D S O : Type 0} (b : Bays B D) (d : Disks D) (s : Sources S) (o : Sinks O) (words : List (List ℕ)) (bay0 bay1 : B) (in0 in1 : S) (out0 out1 : O) (ending : Ending) where
  abbrev CameSo : Type 0
  CameSo = Came b d s o words (bay0, bay1) (in0, in1) (out0, out1) ending

  -- a call whose status is that of words was asked nothing
  pub status_words : CameSo → status_of ending ≡ 2 → AskNothing words
  status_words (inl u) two = elim u.ends [ inl bad ↦ bad.1 | inr none ↦ absurd (memory_words ending none two) ]
  status_words (inr a) two = elim (offered_or_not a.command) [
    | inl offered ↦ absurd (offered_words b d s o (bay0, bay1) (in0, in1) (out0, out1) a.command ending offered a.done two)
    | inr never ↦ asks_nothing words a.command a.meant never
  ]

  untouched_by : (c : Command) → (IsOffered c → ⊥) → Does b d s o c (bay0, bay1) (in0, in1) (out0, out1) ending → IsUntouched (bay0, bay1) (in0, in1) (out0, out1)
  untouched_by (Make file shape) never does = absurd (never tt)
  untouched_by (Run file) never does = absurd (never tt)
  untouched_by other never does = does.1

  -- and one that was asked nothing touched nothing
  pub nothing_touched : CameSo → AskNothing words → IsUntouched (bay0, bay1) (in0, in1) (out0, out1)
  nothing_touched (inl u) nothing = u.untouched
  nothing_touched (inr a) nothing = elim (offered_or_not a.command) [
    | inl offered ↦ absurd (nothing a.command offered a.meant)
    | inr never ↦ untouched_by a.command never a.done
  ]

  -- the headline, of the words of a run
  module _ (status : ℕ) (is : status ≡ status_of ending) (laws : ShapeLaws) (only_now : (disk : D) (k : List ℕ) → IsTrue (d.honest disk) → d.left_since disk (d.moment disk) k → d.may_leave disk k) where
    serves_run : (c : Command) (name : List ℕ) → IsRun c → file_of c ≡ name → Does b d s o c (bay0, bay1) (in0, in1) (out0, out1) ending → Serves b d s o name (bay0, bay1) (in0, in1) (out0, out1) status
    serves_run (Run file) name run same does = λ K home m lines a.
        serves_file b d s o name bay0 bay1 in0 in1 out0 out1 ending status is laws only_now home m lines a
        (subst (λ (n : List ℕ). RunsFile b d s o n (bay0, bay1) (in0, in1) (out0, out1) ending) same does)
    serves_run other name run same does = absurd run

    pub serves : CameSo → (c : Command) → IsRun c → Mean words c → Serves b d s o (file_of c) (bay0, bay1) (in0, in1) (out0, out1) status
    serves (inl u) c run means = λ K home m lines a.
        elim u.ends [
          | inl bad ↦ absurd (bad.1 c (run_offered c run) means)
          | inr none ↦ serves_untouched b d s o (file_of c) bay0 bay1 in0 in1 out0 out1 ending status is laws only_now home m lines a none u.untouched.bay_same u.untouched.nothing.silent
        ]
    serves (inr e) c run means =
        serves_run e.command (file_of c) (run_alone e.command c run (sym (begins_with words e.command e.meant) ∙ begins_with words c means)) (sym (names_file words e.command e.meant) ∙ names_file words c means) e.done
