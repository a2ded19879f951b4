-- A script worked over a file: what the file stands for before it, at each moment of it, and behind it.
use Rattle.std.specs.Prelude.{◌≡◌, ◌≤◌, ℕ, List, None, All, IsTrue, length}
use Rattle.grid_types.specs.declared.request.Line.{Line}
use Rattle.grid_types.specs.declared.request.Reply.{Reply}
use Rattle.grid_types.specs.declared.shape.Shape.{Shape}
use Rattle.grid_types.specs.declared.sizes.TheConstants.{MOST_CLIENTS}
use Rattle.disk_trait.specs.declared.disk.Disk.{Ghosts}
use Rattle.disk_trait.specs.Moments.{LeavesOnly}
use Rattle.grid_model.specs.Lone.{opened, answers}
use Rattle.grid_model.specs.Transcripts.{requests}
use Rattle.file_images.specs.Leads.{Standing, HasStanding}
use Rattle.client_sessions.specs.Laws.{IsExplained}
use Rattle.client_sessions.specs.Points.{Point, StandsAt}
use Rattle.client_sessions.specs.Runs.{Runs, IsLeftIn}
use Rattle.script_sessions.specs.Laws.{Leaves}
use Rattle.script_sessions.specs.Replies.{IsSure, NoneRefused}

-- a disk has a file that stands: it tells its content, and what reads give, and each image that a crash may leave, have this standing
pub record StandsAs {K : ℕ} {D : Type 0} (g : Ghosts D) (m : Standing K) (disk : D) : Type 0 where
  pub told : IsTrue (g.honest disk)
  pub leaves : Leaves g disk (λ image. HasStanding image m)

-- the point at which a session begins: where the file stands, with nothing in doubt
abbrev pub start : {K : ℕ} → Standing K → Point K
start m = record { at = m; beyond = None }

-- a session over a file that stood so: its replies lead line by line to a point, whose place is its front and whose table has these records; the file then stands at that point, and just there where no reply leaves its update in doubt; at each moment since the session began a crash leaves an image at a point to which some of the first lines lead
pub record IsSession {K : ℕ} {D : Type 0} (g : Ghosts D) (m : Standing K) (lines : List (Line K)) (replies : List (Reply K)) (front records : ℕ) (old new : D) : Type 0 where
  pub shape : Shape
  pub point : Point K
  pub runs : Runs shape (start m) lines replies point
  pub ends : (front ≡ point.at.place) × (records ≡ length point.at.table)
  pub leaves : Leaves g new (StandsAt point)
  pub sure : All IsSure replies → Leaves g new (λ image. HasStanding image point.at)
  pub left : LeavesOnly g.moment g.left_since old new (IsLeftIn shape (start m) lines replies)
  -- one history explains the replies to one client, each answer a plain table's at its place
  pub explained : (client : ℕ) → 1 ≤ client → client ≤ MOST_CLIENTS → All (λ l. l.client ≡ client) lines → IsExplained (start m) point client lines replies
  -- and where each refusal is one that the rules give, they are a lone caller's, one and all
  pub alone : NoneRefused replies → replies ≡ answers shape (opened m.table m.layout m.place) (requests lines)
