-- A store that replies to requests, one after the other.
use Rattle.std.specs.Prelude.{◌≡◌, ℕ, List, All, IsTrue}
use Rattle.grid_types.specs.declared.request.Line.{Line}
use Rattle.grid_types.specs.declared.request.Reply.{Reply}
use Rattle.grid_types.specs.declared.request.Request.{Request}
use Rattle.disk_trait.specs.declared.disk.Disk.{Ghosts}
use Rattle.disk_trait.specs.Calls.{Changes}
use Rattle.disk_trait.specs.Moments.{LeavesOnly}
use Rattle.grid_model.specs.Lone.{State, answers, afterwards}
use Rattle.grid_model.specs.Transcripts.{requests}
use Rattle.checkpoints.specs.Disks.{KeepsLength}
use Rattle.client_sessions.specs.Points.{Point}
use Rattle.client_sessions.specs.Runs.{Runs, IsLeftIn}
use Rattle.grid_store.specs.Stores.{OpenStore, IsStoreAt, IsStoreAlone}
use Rattle.grid_store.specs.Answered.{IsAnswered, IsAnsweredLone}
use Rattle.script_sessions.specs.Replies.{AreRepliesTo, CountsFault, IsReplyTo, NoneRefused, UnlessRefused}

-- a store replies to a request: over a disk that tells its content by what is true at the point of the session, and as a lone caller's, unless something failed; on any disk by a reply of the request's kind, with the same shape, and a fault is told only where it was counted
pub record RepliesTo {K : ℕ} {D : Type 0} (g : Ghosts D) (r : Request K) (reply : Reply K) (old new : OpenStore K D) : Type 0 where
  pub answers : IsTrue (g.honest old.file.disk) → (p : Point K) → IsStoreAt g old p → IsAnswered g p r reply old new
  pub lone : IsTrue (g.honest old.file.disk) → (s : State K) → IsStoreAlone g old s → UnlessRefused reply (IsAnsweredLone g s r reply old new)
  pub kind : IsReplyTo r reply
  pub shape : new.file.books.shape ≡ old.file.books.shape
  pub changes : Changes g KeepsLength old.file.disk new.file.disk
  pub fault : CountsFault g old.file.disk new.file.disk reply

-- lines were answered from a point on: with their replies they lead from there to a point, the store is at it afterwards, and at each moment a crash leaves an image that stands at a point to which some of the first lines lead
pub record AnsweredAll {K : ℕ} {D : Type 0} (g : Ghosts D) (p : Point K) (lines : List (Line K)) (replies : List (Reply K)) (old new : OpenStore K D) : Type 0 where
  pub point : Point K
  pub runs : Runs old.file.books.shape p lines replies point
  pub stands : IsStoreAt g new point
  pub left : IsTrue (g.honest old.file.disk) → LeavesOnly g.moment g.left_since old.file.disk new.file.disk (IsLeftIn old.file.books.shape p lines replies)

-- lines were answered as a lone caller's from a state on, and the store is as the state that they leave
pub record AnsweredAllLone {K : ℕ} {D : Type 0} (g : Ghosts D) (s : State K) (lines : List (Line K)) (replies : List (Reply K)) (old new : OpenStore K D) : Type 0 where
  pub replies_are : replies ≡ answers old.file.books.shape s (requests lines)
  pub goes_on : IsStoreAlone g new (afterwards old.file.books.shape s (requests lines))

-- a store replies to lines, one after the other: what it does for each it does for all
pub record RepliesToAll {K : ℕ} {D : Type 0} (g : Ghosts D) (lines : List (Line K)) (replies : List (Reply K)) (old new : OpenStore K D) : Type 0 where
  pub runs : IsTrue (g.honest old.file.disk) → (p : Point K) → IsStoreAt g old p → AnsweredAll g p lines replies old new
  pub lone : IsTrue (g.honest old.file.disk) → (s : State K) → IsStoreAlone g old s → NoneRefused replies → AnsweredAllLone g s lines replies old new
  pub kinds : AreRepliesTo lines replies
  pub shape : new.file.books.shape ≡ old.file.books.shape
  pub changes : Changes g KeepsLength old.file.disk new.file.disk
  pub faults : All (CountsFault g old.file.disk new.file.disk) replies
