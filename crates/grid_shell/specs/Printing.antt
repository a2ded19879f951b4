-- Text on its way to a sink, through a buffer; and the replies of a session, printed.
use Rattle.std.specs.Prelude.{◌≡◌, ◌⊎◌, ◌++◌, ℕ, List, IsTrue, Result, OnOk}
use Rattle.grid_types.specs.declared.request.Reply.{Reply}
use Rattle.grid_model.specs.Text.{text}
use Rattle.disk_trait.specs.declared.sink.Sink.{Ghosts}
use Rattle.disk_trait.specs.Causes.{HasCause, Rose}
use Rattle.disk_trait.specs.Streams.{AddsFront}
use Rattle.client_sessions.specs.Runs.{group_of_one}
use Rattle.grid_shell.specs.declared.ending.Ending.{Ending}
use Rattle.grid_shell.specs.Statuses.{greatest_status}
use Rattle.grid_shell.specs.Endings.{status_of, IsOfLines, EndsBeside}

-- a text passes into a sink and a buffer: behind what the sink had they hold it one after the other; where the sink fails it has received a front of the text
pub record Passes {O E : Type 0} (g : Ghosts O) (text buffered : List ℕ) (old new : O) (result : Result Unit E) : Type 0 where
  pub kept : IsTrue (g.tells old) → OnOk result (g.received new ++ buffered ≡ g.received old ++ text)
  pub front : IsTrue (g.tells old) → AddsFront (g.received old) (g.received new) text
  pub tells : g.tells new ≡ g.tells old
  pub cause : HasCause (g.fault_count old) (g.fault_count new) result

-- a text was printed: a sink that tells its bytes has received all of it, or a front where it failed
pub record IsPrinted {O : Type 0} (g : Ghosts O) (printed : List ℕ) (old new : O) : Type 0 where
  pub front : IsTrue (g.tells old) → AddsFront (g.received old) (g.received new) printed
  pub whole : IsTrue (g.tells old) → Rose (g.fault_count old) (g.fault_count new) ⊎ (g.received new ≡ g.received old ++ printed)

-- the text of the replies to client 1, and of a front
abbrev pub session_text : {K : ℕ} → List (Reply K) → ℕ → List ℕ
session_text replies front = text (group_of_one 1 replies) front

-- the replies of a session were printed, and so the run ends: with the greatest status of a reply, or at least with that of a device where the sink failed
pub record PrintsSession {K : ℕ} {O : Type 0} (g : Ghosts O) (replies : List (Reply K)) (front : ℕ) (old new : O) (ending : Ending) : Type 0 where
  pub printed : IsPrinted g (session_text replies front) old new
  pub worst : Ending
  pub line : IsOfLines worst
  pub greatest : status_of worst ≡ greatest_status replies
  pub ends : EndsBeside worst (g.fault_count old) (g.fault_count new) ending
