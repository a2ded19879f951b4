-- An open file at a point of a session, and what an update comes to there.
use Rattle.std.specs.Prelude.{◌≡◌, ◌⊎◌, ℕ, List, Option, Some, None, Result, Ok, Err, IsTrue}
use Rattle.grid_types.specs.declared.answer.Answer.{Answer}
use Rattle.grid_types.specs.declared.refusal.Refusal.{Refusal}
use Rattle.grid_types.specs.declared.request.Reply.{Reply}
use Rattle.grid_types.specs.declared.request.Reply.TheVariants as told
use Rattle.grid_types.specs.declared.request.Request.{Request}
use Rattle.grid_types.specs.declared.request.Request.TheVariants as ask
use Rattle.grid_types.specs.declared.shape.Shape.{Shape}
use Rattle.grid_types.specs.declared.update.Update.{Update}
use Rattle.grid_types.specs.declared.update.Update.TheVariants.{Put, Remove}
use Rattle.disk_trait.specs.declared.disk.Disk.{Ghosts}
use Rattle.disk_trait.specs.Moments.{LeavesOnly}
use Rattle.grid_model.specs.Spellings.{LoggedBatch}
use Rattle.file_images.specs.Leads.{Standing, behind}
use Rattle.file_books.specs.Books.{Books}
use Rattle.file_standing.specs.Open.{IsOpenInSession}
use Rattle.commits.specs.Commits.{IsDoubtful}
use Rattle.client_sessions.specs.Points.{Point, StandsAt}
use Rattle.client_sessions.specs.Told.{Told}

-- a file is open in session at a standing, and where a batch is in doubt, it would stand there with the batch
abbrev pub IsOpenBeside : {K : ℕ} {D : Type 0} → Ghosts D → Books → Standing K → Option (Standing K) → D → Type 0
IsOpenBeside g b m None disk = IsOpenInSession g b m disk
IsOpenBeside {K} g b m (Some n) disk = (d : LoggedBatch K) × (n ≡ behind m d) × IsDoubtful g b m d disk

-- a file is open at a point of a session
abbrev pub IsOpenAsAt : {K : ℕ} {D : Type 0} → Ghosts D → Books → Point K → D → Type 0
IsOpenAsAt g b p disk = IsOpenBeside g b p.at p.beyond disk

-- at each moment of a call a crash leaves an image that stands at the one or at the other of two points
abbrev pub StaysAtPoints : {K : ℕ} {D : Type 0} → Ghosts D → Point K → Point K → D → D → Type 0
StaysAtPoints g p q old new = IsTrue (g.honest old) → LeavesOnly g.moment g.left_since old new (λ image. StandsAt p image ⊎ StandsAt q image)

-- an update as what a client asks
abbrev pub request_of : {K : ℕ} → Update K → Request K
request_of (Put r) = ask.Put r
request_of (Remove k) = ask.Remove k

-- what an update came to, as what its client is told
abbrev pub reply_to : {K : ℕ} → Update K → Result (Answer (Option (List ℕ))) Refusal → Reply K
reply_to (Put r) (Ok a) = told.Put a
reply_to (Remove k) (Ok a) = told.Removed a
reply_to u (Err e) = told.Refused e

-- a call at a point of a session answers a request: the reply leads from there to a point, the file is open at it afterwards, and at each moment of the call a crash leaves an image that stands at the one or at the other
pub record IsAnsweredAt {K : ℕ} {D : Type 0} (g : Ghosts D) (shape : Shape) (p : Point K) (r : Request K) (reply : Reply K) (old : D) (b : Books) (new : D) : Type 0 where
  pub point : Point K
  pub told : Told shape p r reply point
  pub stands : IsOpenAsAt g b point new
  pub moments : StaysAtPoints g p point old new
