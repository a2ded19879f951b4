-- What a call on a store answers.
use Rattle.std.specs.Prelude.{◌≡◌, ◌⊎◌, ℕ, Result, Ok, Err, IsTrue}
use Rattle.grid_types.specs.declared.refusal.Refusal.{Refusal}
use Rattle.grid_types.specs.declared.request.Reply.{Reply}
use Rattle.grid_types.specs.declared.request.Reply.TheVariants as told
use Rattle.grid_types.specs.declared.request.Request.{Request}
use Rattle.disk_trait.specs.declared.disk.Disk.{Ghosts}
use Rattle.disk_trait.specs.Moments.{LeavesOnly}
use Rattle.grid_model.specs.Lone.{State, lone}
use Rattle.client_sessions.specs.Points.{Point, StandsAt}
use Rattle.client_sessions.specs.Told.{Told}
use Rattle.grid_store.specs.Stores.{OpenStore, IsStoreAt, IsStoreAlone}

-- what a call came to, as what its client is told: its answer in this form, or its refusal
abbrev pub told_by : {K : ℕ} {V : Type 0} → (V → Reply K) → Result V Refusal → Reply K
told_by answered (Ok a) = answered a
told_by answered (Err e) = told.Refused e

-- a call at a point of a session answers a request: the reply leads from there to a point, the store is at it afterwards, and at each moment of the call a crash leaves an image that stands at the one or at the other
pub record IsAnswered {K : ℕ} {D : Type 0} (g : Ghosts D) (p : Point K) (r : Request K) (reply : Reply K) (old new : OpenStore K D) : Type 0 where
  pub point : Point K
  pub told : Told old.file.books.shape p r reply point
  pub stands : IsStoreAt g new point
  pub moments : IsTrue (g.honest old.file.disk) → LeavesOnly g.moment g.left_since old.file.disk new.file.disk (λ image. StandsAt p image ⊎ StandsAt point image)

-- a request is answered as a lone caller's at a state, and the store is as the state that this leaves
pub record IsAnsweredLone {K : ℕ} {D : Type 0} (g : Ghosts D) (s : State K) (r : Request K) (reply : Reply K) (old new : OpenStore K D) : Type 0 where
  pub reply_is : reply ≡ (lone old.file.books.shape s r).reply
  pub goes_on : IsStoreAlone g new (lone old.file.books.shape s r).state
