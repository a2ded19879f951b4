-- What a command does with the file of a name in a bay.
use Rattle.std.specs.Prelude.{◌≡◌, ◌≢◌, ◌⊎◌, ◌++◌, ℕ, List, IsTrue}
use Rattle.grid_types.specs.declared.shape.Shape.{Shape}
use Rattle.grid_types.specs.Shapes.{file_pages}
use Rattle.disk_trait.specs.declared.bay.Bay.{Ghosts as Bays}
use Rattle.disk_trait.specs.declared.disk.Disk.{Ghosts as Disks}
use Rattle.disk_trait.specs.declared.sink.Sink.{Ghosts as Sinks}
use Rattle.disk_trait.specs.declared.source.Source.{Ghosts as Sources}
use Rattle.disk_trait.specs.Bay.{Absent, Home, Tells, TellsAll, IsUnfailed}
use Rattle.disk_trait.specs.Causes.{Rose}
use Rattle.file_commands.specs.Made.{IsMade, IsTaken, IsDeviceFault}
use Rattle.grid_shell.specs.declared.ending.Ending.{Ending}
use Rattle.grid_shell.specs.declared.ending.Ending.TheVariants.{Done, Device}
use Rattle.grid_shell.specs.Endings.{EndsBeside}
use Rattle.grid_script.specs.Fields.{made_line}
use Rattle.grid_shell.specs.Printing.{IsPrinted}
use Rattle.grid_shell.specs.Runs.{RunsDisk}

-- nothing was read of the input, and nothing printed
pub record IsSilent {S O : Type 0} (input : S × S) (out : O × O) : Type 0 where
  pub input_same : input.1 ≡ input.0
  pub silent : out.1 ≡ out.0

-- a bay handed out the disk of a name: no call of it has failed, and it tells all that the one tells that lay there
pub record IsHanded {B D : Type 0} (b : Bays B D) (d : Disks D) (name : List ℕ) (bay : B) (disk : D) : Type 0 where
  pub unfailed : IsUnfailed d disk
  pub same : IsTrue (b.tells bay) → Tells (TellsAll d disk) (b.place bay name)

-- a disk was put back under its name, and so the run ends: it lies there, unless the bay failed; a failure of the bay, or of a call of the disk, is one of a device
pub record IsPutBack {B D : Type 0} (b : Bays B D) (d : Disks D) (name : List ℕ) (disk : D) (bay : B × B) (before ending : Ending) : Type 0 where
  pub home : IsTrue (b.tells bay.0) → (b.place bay.1 name ≡ Home disk) ⊎ Rose (b.fault_count bay.0) (b.fault_count bay.1)
  pub failed : (d.read_count disk ≢ 0) ⊎ (d.write_count disk ≢ 0) → Rose (b.fault_count bay.0) (b.fault_count bay.1)
  pub ends : EndsBeside before (b.fault_count bay.0) (b.fault_count bay.1) ending

-- a bay did not hand out the disk of a name: none was there, or it failed; what was there stays
pub record EndsUnhanded {B D S O : Type 0} (b : Bays B D) (name : List ℕ) (bay : B × B) (input : S × S) (out : O × O) (ending : Ending) : Type 0 where
  pub ends : ending ≡ Device
  pub cause : (IsTrue (b.tells bay.0) × (b.place bay.0 name ≡ Absent)) ⊎ Rose (b.fault_count bay.0) (b.fault_count bay.1)
  pub stays : IsTrue (b.tells bay.0) → b.place bay.1 name ≡ b.place bay.0 name
  pub nothing : IsSilent input out

-- a bay handed a disk out, but counted a failure, so it was put back as it was
pub record IsReturned {B D S O : Type 0} (b : Bays B D) (bay : B × B) (old new : D) (input : S × S) (out : O × O) (ending : Ending) : Type 0 where
  pub ends : ending ≡ Device
  pub cause : Rose (b.fault_count bay.0) (b.fault_count bay.1)
  pub disk : new ≡ old
  pub nothing : IsSilent input out

-- a run over the disk that a bay handed out, which was then put back
pub record EndsHanded {B D S O : Type 0} (b : Bays B D) (d : Disks D) (s : Sources S) (o : Sinks O) (name : List ℕ) (bay : B × B) (input : S × S) (out : O × O) (ending : Ending) : Type 0 where
  pub old : D
  pub handed : IsHanded b d name bay.0 old
  pub new : D
  pub before : Ending
  pub runs : IsReturned b bay old new input out before ⊎ RunsDisk d s o old new input out before
  pub back : IsPutBack b d name new bay before ending

-- a run of the file of a name
abbrev pub RunsFile : {B D S O : Type 0} → Bays B D → Disks D → Sources S → Sinks O → List ℕ → B × B → S × S → O × O → Ending → Type 0
RunsFile b d s o name bay input out ending = EndsUnhanded b name bay input out ending ⊎ EndsHanded b d s o name bay input out ending

-- a file was not made: the name was taken, and what is there stays, or the bay failed
pub record EndsUnmade {B D O : Type 0} (b : Bays B D) (name : List ℕ) (bay : B × B) (out : O × O) (ending : Ending) : Type 0 where
  pub ends : ending ≡ Device
  pub cause : IsDeviceFault b name bay.0 bay.1
  pub stays : IsTaken b bay.0 name → b.place bay.1 name ≡ b.place bay.0 name
  pub silent : out.1 ≡ out.0

-- a file of a shape was made, and it was told how many pages it has
pub record EndsMade {B D O : Type 0} (b : Bays B D) (d : Disks D) (o : Sinks O) (name : List ℕ) (shape : Shape) (bay : B × B) (out : O × O) (ending : Ending) : Type 0 where
  pub absent : IsTrue (b.tells bay.0) → b.place bay.0 name ≡ Absent
  pub made : IsTrue (b.tells bay.0) → Tells (IsMade d shape) (b.place bay.1 name)
  pub printed : IsPrinted o (made_line (file_pages shape)) out.0 out.1
  pub ends : EndsBeside Done (o.fault_count out.0) (o.fault_count out.1) ending

-- a file is made under a name
abbrev pub MakesFile : {B D O : Type 0} → Bays B D → Disks D → Sinks O → List ℕ → Shape → B × B → O × O → Ending → Type 0
MakesFile b d o name shape bay out ending = EndsUnmade b name bay out ending ⊎ EndsMade b d o name shape bay out ending
