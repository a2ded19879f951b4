-- What is promised of a run of a file that stands: the answers of a session, and what the file stands for at each moment.
use Rattle.std.specs.Prelude.{◌≡◌, ◌⊎◌, ℕ, List, IsTrue, max}
use Rattle.grid_types.specs.declared.request.Line.{Line}
use Rattle.grid_types.specs.declared.request.Reply.{Reply}
use Rattle.disk_trait.specs.declared.bay.Bay.{Ghosts as Bays}
use Rattle.disk_trait.specs.declared.disk.Disk.{Ghosts as Disks}
use Rattle.disk_trait.specs.declared.sink.Sink.{Ghosts as Sinks}
use Rattle.disk_trait.specs.declared.source.Source.{Ghosts as Sources}
use Rattle.disk_trait.specs.Bay.{Home}
use Rattle.disk_trait.specs.Causes.{Rose}
use Rattle.disk_trait.specs.Moments.{LeavesOnly}
use Rattle.grid_script.specs.Taken.{IsScript}
use Rattle.file_images.specs.Leads.{Standing, HasStanding}
use Rattle.script_sessions.specs.Replies.{AreRepliesTo}
use Rattle.file_sessions.specs.Sessions.{StandsAs, IsSession}
use Rattle.grid_shell.specs.Statuses.{greatest_status}
use Rattle.grid_shell.specs.Printing.{IsPrinted, session_text}

-- under a name lies a disk whose file stands so, the script asks these lines, and bay, source and sink tell what they hold
pub record AsksOver {K : ℕ} {B D S O : Type 0} (b : Bays B D) (d : Disks D) (s : Sources S) (o : Sinks O) (name : List ℕ) (bay : B) (input : S) (out : O) (home : D) (m : Standing K) (lines : List (Line K)) : Type 0 where
  pub bay_tells : IsTrue (b.tells bay)
  pub place : b.place bay name ≡ Home home
  pub stands : StandsAs d m home
  pub source_tells : IsTrue (s.tells input)
  pub sink_tells : IsTrue (o.tells out)
  pub script : IsScript (s.left input) lines

-- a disk lies under its name, unless the bay has failed
abbrev pub LiesThere : {B D : Type 0} → Bays B D → List ℕ → D → B × B → Type 0
LiesThere b name disk bay = (b.place bay.1 name ≡ Home disk) ⊎ Rose (b.fault_count bay.0) (b.fault_count bay.1)

-- one of three devices has failed
abbrev pub DeviceFailed : ℕ × ℕ → ℕ × ℕ → ℕ × ℕ → Type 0
DeviceFailed bay source sink = Rose bay.0 bay.1 ⊎ Rose source.0 source.1 ⊎ Rose sink.0 sink.1

-- the lines were not begun: nothing was printed; a device failed, there was no memory, or the file is worn; and at each moment the file stood as before
pub record IsUnbegun {K : ℕ} {B D S O : Type 0} (b : Bays B D) (d : Disks D) (s : Sources S) (name : List ℕ) (bay : B × B) (input : S × S) (out : O × O) (home : D) (m : Standing K) (status : ℕ) : Type 0 where
  pub silent : out.1 ≡ out.0
  pub ends : ((status ≡ 5) × (Rose (b.fault_count bay.0) (b.fault_count bay.1) ⊎ Rose (s.fault_count input.0) (s.fault_count input.1))) ⊎ (status ≡ 6) ⊎ (status ≡ 7)
  pub disk : D
  pub there : LiesThere b name disk bay
  pub left : LeavesOnly d.moment d.left_since home disk (λ image. HasStanding image m)

-- the lines were answered: one reply to each, those of a session over the file, which lies under its name; they were printed with the front; and the status is the greatest of a reply, or that and 5 where a device failed
pub record IsServed {K : ℕ} {B D S O : Type 0} (b : Bays B D) (d : Disks D) (s : Sources S) (o : Sinks O) (name : List ℕ) (bay : B × B) (input : S × S) (out : O × O) (home : D) (m : Standing K) (lines : List (Line K)) (status : ℕ) : Type 0 where
  pub replies : List (Reply K)
  pub front : ℕ
  pub records : ℕ
  pub disk : D
  pub kinds : AreRepliesTo lines replies
  pub session : IsSession d m lines replies front records home disk
  pub there : LiesThere b name disk bay
  pub printed : IsPrinted o (session_text replies front) out.0 out.1
  pub ends : (status ≡ greatest_status replies) ⊎ ((status ≡ max 5 (greatest_status replies)) × (Rose (b.fault_count bay.0) (b.fault_count bay.1) ⊎ Rose (o.fault_count out.0) (o.fault_count out.1)))

-- the headline: a script that is asked over a file that stands is answered as a session of one client, or not begun
abbrev pub Serves : {B D S O : Type 0} → Bays B D → Disks D → Sources S → Sinks O → List ℕ → B × B → S × S → O × O → ℕ → Type 0
Serves {D = D} b d s o name bay input out status = (K : ℕ) (home : D) (m : Standing K) (lines : List (Line K)) → AsksOver b d s o name bay.0 input.0 out.0 home m lines
    → IsUnbegun b d s name bay input out home m status ⊎ IsServed b d s o name bay input out home m lines status
