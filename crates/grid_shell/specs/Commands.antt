-- What a call of the program did: which command its words mean, and what came of that.
use Rattle.std.specs.Prelude.{◌≡◌, ◌⊎◌, ◌++◌, ℕ, List, IsTrue, ⊤, string_bytes}
use Rattle.disk_trait.specs.declared.bay.Bay.{Ghosts as Bays}
use Rattle.disk_trait.specs.declared.disk.Disk.{Ghosts as Disks}
use Rattle.disk_trait.specs.declared.sink.Sink.{Ghosts as Sinks}
use Rattle.disk_trait.specs.declared.source.Source.{Ghosts as Sources}
use Rattle.disk_trait.specs.Bay.{SameElsewhere}
use Rattle.disk_trait.specs.Causes.{Rose}
use Rattle.grid_words.specs.Commands.{Mean, file_of}
use Rattle.grid_words.specs.declared.command.Command.{Command}
use Rattle.grid_words.specs.declared.command.Command.TheVariants.{Make, Run, Check, Dump, Gen}
use Rattle.grid_shell.specs.declared.ending.Ending.{Ending}
use Rattle.grid_shell.specs.declared.ending.Ending.TheVariants.{BadWords, Memory}
use Rattle.grid_shell.specs.Endings.{status_of, error_text}
use Rattle.grid_shell.specs.Files.{IsSilent, RunsFile, MakesFile}

-- the commands that the program has today
abbrev pub IsOffered : Command → Type 0
IsOffered (Make file shape) = ⊤
IsOffered (Run file) = ⊤
IsOffered other = ⊥

-- a command is to run a script on a file
abbrev pub IsRun : Command → Type 0
IsRun (Run file) = ⊤
IsRun other = ⊥

-- words ask nothing that the program does
abbrev pub AskNothing : List (List ℕ) → Type 0
AskNothing words = (c : Command) → IsOffered c → Mean words c → ⊥

-- bay, input and output are as they were
pub record IsUntouched {B S O : Type 0} (bay : B × B) (input : S × S) (out : O × O) : Type 0 where
  pub bay_same : bay.1 ≡ bay.0
  pub nothing : IsSilent input out

-- a command was done
abbrev pub Does : {B D S O : Type 0} → Bays B D → Disks D → Sources S → Sinks O → Command → B × B → S × S → O × O → Ending → Type 0
Does b d s o (Make file shape) bay input out ending = MakesFile b d o (string_bytes file) shape bay out ending × (input.1 ≡ input.0)
Does b d s o (Run file) bay input out ending = RunsFile b d s o (string_bytes file) bay input out ending
Does b d s o other bay input out ending = (ending ≡ BadWords) × IsUntouched bay input out

-- the words were not taken for a command: they mean none, or there was no memory; and nothing was touched
pub record EndsUnasked {B S O : Type 0} (words : List (List ℕ)) (bay : B × B) (input : S × S) (out : O × O) (ending : Ending) : Type 0 where
  pub ends : ((ending ≡ BadWords) × AskNothing words) ⊎ (ending ≡ Memory)
  pub untouched : IsUntouched bay input out

-- the words mean this command, it was done, and nothing lies otherwise under another name
pub record EndsAsked {B D S O : Type 0} (b : Bays B D) (d : Disks D) (s : Sources S) (o : Sinks O) (words : List (List ℕ)) (bay : B × B) (input : S × S) (out : O × O) (ending : Ending) : Type 0 where
  pub command : Command
  pub meant : Mean words command
  pub done : Does b d s o command bay input out ending
  pub elsewhere : SameElsewhere b.tells b.place (file_of command) bay.0 bay.1

-- what came of the words of a command line
abbrev pub Came : {B D S O : Type 0} → Bays B D → Disks D → Sources S → Sinks O → List (List ℕ) → B × B → S × S → O × O → Ending → Type 0
Came b d s o words bay input out ending = EndsUnasked words bay input out ending ⊎ EndsAsked b d s o words bay input out ending

-- an ending was told on the error sink, unless that failed
abbrev pub IsTold : {E : Type 0} → Sinks E → E × E → Ending → Type 0
IsTold e err ending = IsTrue (e.tells err.0) → Rose (e.fault_count err.0) (e.fault_count err.1) ⊎ (e.received err.1 ≡ e.received err.0 ++ error_text ending)

-- what a call of the program did, how that ended, what was told of it, and its status
pub record Did {B D S O E : Type 0} (b : Bays B D) (d : Disks D) (s : Sources S) (o : Sinks O) (e : Sinks E) (words : List (List ℕ)) (bay : B × B) (input : S × S) (out : O × O) (err : E × E) (status : ℕ) : Type 0 where
  pub ending : Ending
  pub ends : status ≡ status_of ending
  pub came : Came b d s o words bay input out ending
  pub told : IsTold e err ending
