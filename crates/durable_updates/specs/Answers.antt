-- What an update is answered by a lone caller's rules, and on any disk.
use Rattle.std.specs.Prelude.{◌≡◌, ◌⊎◌, ◌≤◌, ◌+◌, ℕ, List, [], Option, None, Result, Ok, Err, ⊤}
use Rattle.std.specs.List.{count_by}
use Rattle.grid_types.specs.declared.answer.Answer.{Answer}
use Rattle.grid_types.specs.declared.refusal.Refusal.{Refusal}
use Rattle.grid_types.specs.declared.refusal.Refusal.TheVariants as refusal
use Rattle.grid_types.specs.declared.request.Reply.{Reply}
use Rattle.grid_types.specs.declared.request.Request.{Request}
use Rattle.grid_types.specs.declared.shape.Shape.{Shape}
use Rattle.grid_types.specs.declared.update.Update.{Update}
use Rattle.grid_types.specs.declared.update.Update.TheVariants.{Put, Remove}
use Rattle.disk_trait.specs.declared.disk.Disk.{Ghosts}
use Rattle.grid_model.specs.Lone.{State, lone}
use Rattle.page_states.specs.States.{is_claimed}
use Rattle.file_books.specs.Books.{Books}
use Rattle.file_standing.specs.Open.{IsOpenAlone}
use Rattle.grid_file.specs.Files.{OpenFile}
use Rattle.client_sessions.specs.Points.{standing_of}

-- a request is answered as a lone caller's at a state, the file is open as the state that this leaves, and no page is claimed
pub record IsAnsweredAlone {K : ℕ} {D : Type 0} (g : Ghosts D) (shape : Shape) (s : State K) (r : Request K) (reply : Reply K) (b : Books) (disk : D) : Type 0 where
  pub reply_is : reply ≡ (lone shape s r).reply
  pub goes_on : IsOpenAlone g b (standing_of (lone shape s r).state) (lone shape s r).state disk
  pub unclaimed : count_by is_claimed b.pages ≡ 0

-- where nothing failed, P holds: there is an answer, or a refusal since pages or cuts lack
abbrev pub UnlessFailed : {T : Type 0} → Result T Refusal → Type 0 → Type 0
UnlessFailed (Ok x) P = P
UnlessFailed (Err (refusal.Full free wanted)) P = P
UnlessFailed (Err (refusal.NoCut cells boundaries)) P = P
UnlessFailed (Err e) P = ⊤

-- an update took the next place; or it was a removal that changed nothing: no data is answered, and the front stays
abbrev pub TookPlace : {K : ℕ} → Update K → ℕ → ℕ → Option (List ℕ) → Type 0
TookPlace (Put r) old new value = new ≡ old + 1
TookPlace (Remove k) old new value = (new ≡ old + 1) ⊎ ((new ≡ old) × (value ≡ None))

-- an answer's place is the front, and a refusal leaves the front
abbrev pub IsPlaced : {K : ℕ} → Update K → ℕ → ℕ → Result (Answer (Option (List ℕ))) Refusal → Type 0
IsPlaced u old new (Ok a) = (a.at ≡ new) × TookPlace u old new a.value
IsPlaced u old new (Err e) = new ≡ old

-- what is done moves the front on by one, and a refusal leaves it
abbrev pub IsMoved : {T : Type 0} → ℕ → ℕ → Result T Refusal → Type 0
IsMoved old new (Ok x) = new ≡ old + 1
IsMoved old new (Err e) = new ≡ old

-- an open file goes on: its shape and its session stay, no page is claimed, and neither its front nor its root's number falls
pub record GoesOn {D : Type 0} (old new : OpenFile D) : Type 0 where
  pub shape : new.books.shape ≡ old.books.shape
  pub session : new.books.session ≡ old.books.session
  pub unclaimed : new.claimed ≡ []
  pub front : old.books.front ≤ new.books.front
  pub number : old.books.number ≤ new.books.number
