-- What a run does over the disk of its file: the shape is read, then the script; the file is opened, its lines are answered, and the replies are printed.
use Rattle.std.specs.Prelude.{◌≡◌, ◌⊎◌, ℕ, List, All, IsTrue, Err}
use Rattle.grid_types.specs.declared.refusal.Refusal.{Refusal}
use Rattle.grid_types.specs.declared.refusal.Refusal.TheVariants.{NoMemory, ReadFault}
use Rattle.grid_types.specs.declared.request.Line.{Line}
use Rattle.grid_types.specs.declared.request.Reply.{Reply}
use Rattle.grid_types.specs.declared.shape.Shape.{Shape}
use Rattle.grid_model.specs.Images.{HasShape}
use Rattle.disk_trait.specs.declared.disk.Disk.{Ghosts as Disks}
use Rattle.disk_trait.specs.declared.sink.Sink.{Ghosts as Sinks}
use Rattle.disk_trait.specs.declared.source.Source.{Ghosts as Sources}
use Rattle.disk_trait.specs.Calls.{OnlyReads, HasCauses}
use Rattle.recovery.specs.Beginnings.{IsShapeFault}
use Rattle.file_images.specs.Leads.{Standing, HasStanding}
use Rattle.file_opening.specs.Opening.{LeavesStanding, IsUnopened}
use Rattle.file_opening.specs.Refusals.{IsRefused, IsNoDamage, MayRefuseOpening}
use Rattle.script_sessions.specs.Replies.{AreRepliesTo, CountsFault}
use Rattle.file_sessions.specs.Sessions.{StandsAs, IsSession}
use Rattle.grid_shell.specs.declared.ending.Ending.{Ending}
use Rattle.grid_shell.specs.declared.ending.Ending.TheVariants.{Memory}
use Rattle.grid_shell.specs.Endings.{unopened}
use Rattle.grid_shell.specs.Inputs.{most_read, LostAtMost, IsUnreadSo, IsReadFor}
use Rattle.grid_shell.specs.Printing.{PrintsSession}

-- a file was not opened, for this refusal: one of the image, a fault of the disk, or want of memory; a file that stands goes on standing, and what was refused before the first write is as it was
pub record IsNotOpened (K : ℕ) {D : Type 0} (g : Disks D) (old new : D) (refusal : Refusal) : Type 0 where
  pub why : IsTrue (g.honest old) → IsUnopened K (g.seen old) refusal
  pub sound : IsTrue (g.honest old) → (m : Standing K) → HasStanding (g.seen old) m → IsNoDamage refusal
  pub moments : IsTrue (g.honest old) → (m : Standing K) → HasStanding (g.seen old) m → LeavesStanding g m old new
  pub untouched : IsTrue (g.honest old) → IsRefused K (g.seen old) refusal → OnlyReads g old new
  pub memory : refusal ≡ NoMemory → OnlyReads g old new
  pub causes : HasCauses {T = Unit} g MayRefuseOpening old new (Err refusal)

-- lines were answered over a file: each has a reply of its kind, a fault of the disk is told only where it was counted, and over a file that stands the replies are those of a session
pub record IsAnswered {K : ℕ} {D : Type 0} (g : Disks D) (lines : List (Line K)) (replies : List (Reply K)) (front records : ℕ) (old new : D) : Type 0 where
  pub kinds : AreRepliesTo lines replies
  pub faults : All (CountsFault g old new) replies
  pub session : (m : Standing K) → StandsAs g m old → IsSession g m lines replies front records old new

-- a file was not opened, and so nothing was printed
pub record EndsUnopened (K : ℕ) {D O : Type 0} (g : Disks D) (old new : D) (out : O × O) (ending : Ending) : Type 0 where
  pub refusal : Refusal
  pub ends : ending ≡ unopened refusal
  pub unopened : IsNotOpened K g old new refusal
  pub silent : out.1 ≡ out.0

-- lines were answered, and the replies printed
pub record EndsAnswered {K : ℕ} {D O : Type 0} (g : Disks D) (o : Sinks O) (lines : List (Line K)) (old new : D) (out : O × O) (ending : Ending) : Type 0 where
  pub replies : List (Reply K)
  pub front : ℕ
  pub records : ℕ
  pub answered : IsAnswered g lines replies front records old new
  pub prints : PrintsSession o replies front out.0 out.1 ending

-- a run of lines in hand
abbrev pub WorksLines : {K : ℕ} {D O : Type 0} → Disks D → Sinks O → List (Line K) → D → D → O × O → Ending → Type 0
WorksLines {K} g o lines old new out ending = EndsUnopened K g old new out ending ⊎ EndsAnswered g o lines old new out ending

-- the script was not read: the disk was only read, and nothing was printed
pub record EndsUnread (K : ℕ) {D S O : Type 0} (g : Disks D) (s : Sources S) (old new : D) (input : S × S) (out : O × O) (ending : Ending) : Type 0 where
  pub why : IsUnreadSo K s input.0 input.1 ending
  pub lost : IsTrue (s.tells input.0) → LostAtMost most_read (s.left input.0) (s.left input.1)
  pub disk : OnlyReads g old new
  pub silent : out.1 ≡ out.0

-- the script was read for some lines, and these were worked
pub record EndsRead (K : ℕ) {D S O : Type 0} (g : Disks D) (s : Sources S) (o : Sinks O) (old new : D) (input : S × S) (out : O × O) (ending : Ending) : Type 0 where
  pub lines : List (Line K)
  pub read : IsReadFor s lines input.0 input.1
  pub works : WorksLines g o lines old new out ending

-- a run over a file of K attributes
abbrev pub RunsAt : (K : ℕ) {D S O : Type 0} → Disks D → Sources S → Sinks O → D → D → S × S → O × O → Ending → Type 0
RunsAt K g s o old new input out ending = EndsUnread K g s old new input out ending ⊎ EndsRead K g s o old new input out ending

-- the file has no shape, or reading it failed; and so nothing was read of the input or printed
pub record EndsShapeless {D S O : Type 0} (g : Disks D) (old new : D) (input : S × S) (out : O × O) (ending : Ending) : Type 0 where
  pub refusal : Refusal
  pub ends : ending ≡ unopened refusal
  pub why : IsTrue (g.honest old) → (refusal ≡ ReadFault) ⊎ IsShapeFault (g.seen old) refusal
  pub causes : HasCauses {T = Unit} g MayRefuseOpening old new (Err refusal)
  pub disk : OnlyReads g old new
  pub input_same : input.1 ≡ input.0
  pub silent : out.1 ≡ out.0

-- the file has a shape of K attributes
pub record HasAttributes (K : ℕ) (image : List ℕ) : Type 0 where
  pub shape : Shape
  pub has : HasShape K image shape

-- the file has a shape, and it was run
pub record EndsShaped {D S O : Type 0} (g : Disks D) (s : Sources S) (o : Sinks O) (old new : D) (input : S × S) (out : O × O) (ending : Ending) : Type 0 where
  pub attributes : ℕ
  pub shaped : IsTrue (g.honest old) → HasAttributes attributes (g.seen old)
  pub runs : RunsAt attributes g s o old new input out ending

-- there was no memory to begin, and all is as it was
pub record EndsUnbegun {D S O : Type 0} (old new : D) (input : S × S) (out : O × O) (ending : Ending) : Type 0 where
  pub ends : ending ≡ Memory
  pub disk : new ≡ old
  pub input_same : input.1 ≡ input.0
  pub silent : out.1 ≡ out.0

-- a run over the disk of a file
abbrev pub RunsDisk : {D S O : Type 0} → Disks D → Sources S → Sinks O → D → D → S × S → O × O → Ending → Type 0
RunsDisk g s o old new input out ending = EndsUnbegun old new input out ending ⊎ EndsShapeless g old new input out ending ⊎ EndsShaped g s o old new input out ending

-- on a disk that tells its content, what a crash at the present moment leaves is what a crash now may leave
abbrev pub HasPresent : {D : Type 0} → Disks D → Type 0
HasPresent {D} g = (disk : D) (image : List ℕ) → IsTrue (g.honest disk) → g.left_since disk (g.moment disk) image → g.may_leave disk image
