-- What a session comes to: its disk, and why there was none.
use Rattle.std.specs.Prelude.{ℕ, Result, Ok, Err}
use Rattle.grid_types.specs.declared.refusal.Refusal.{Refusal}
use Rattle.file_opening.specs.declared.opened.Unopened.{Unopened}
use Rattle.file_sessions.specs.declared.session.Session.{Session}

-- the disk of a file, whether it was opened or not
abbrev pub disk_of : {K : ℕ} {D : Type 0} → Result (Session K D) (Unopened D) → D
disk_of (Ok s) = s.disk.value
disk_of (Err n) = n.disk.value

-- what a session comes to, where of a file that was not opened only the refusal counts
abbrev pub refusal_of : {K : ℕ} {D : Type 0} → Result (Session K D) (Unopened D) → Result (Session K D) Refusal
refusal_of (Ok s) = Ok s
refusal_of (Err n) = Err n.refusal
