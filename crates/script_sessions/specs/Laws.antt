-- What is promised of the lines of a script that a store answered.
use Rattle.std.specs.Prelude.{◌≡◌, ◌≤◌, ℕ, List, None, All, IsTrue}
use Rattle.grid_types.specs.declared.request.Line.{Line}
use Rattle.grid_types.specs.declared.request.Reply.{Reply}
use Rattle.grid_types.specs.declared.sizes.TheConstants.{MOST_CLIENTS}
use Rattle.disk_trait.specs.declared.disk.Disk.{Ghosts}
use Rattle.disk_trait.specs.Moments.{Always}
use Rattle.file_images.specs.Leads.{HasStanding}
use Rattle.client_sessions.specs.Laws.{IsExplained}
use Rattle.client_sessions.specs.Points.{Point, StandsAt}
use Rattle.grid_store.specs.Stores.{OpenStore, IsStoreAt}
use Rattle.script_sessions.specs.Replies.{IsSure}
use Rattle.script_sessions.specs.Sessions.{AnsweredAll}

-- what reads give, and each image that a crash leaves, have P
pub record Leaves {D : Type 0} (g : Ghosts D) (disk : D) (P : List ℕ → Type 0) : Type 0 where
  pub read : P (g.seen disk)
  pub crash : Always (g.may_leave disk) P

-- lines that a store answered from a point on: one history explains them where all are one client's; the front is the place of the point where they end; what is on the disk then stands at that point, and just there where nothing was in doubt and no reply leaves its update so
pub record SessionsTell (K : ℕ) {D : Type 0} (g : Ghosts D) : Type 0 where
  pub explained : (p : Point K) (client : ℕ) (lines : List (Line K)) (replies : List (Reply K)) (old new : OpenStore K D) → 1 ≤ client → client ≤ MOST_CLIENTS → All (λ l. l.client ≡ client) lines → IsStoreAt g old p
      → (a : AnsweredAll g p lines replies old new) → IsExplained p a.point client lines replies
  pub front : (p : Point K) (lines : List (Line K)) (replies : List (Reply K)) (old new : OpenStore K D) (a : AnsweredAll g p lines replies old new) → a.point.at.place ≡ new.file.books.front
  pub leaves : (p : Point K) (lines : List (Line K)) (replies : List (Reply K)) (old new : OpenStore K D) → IsTrue (g.honest new.file.disk) → (a : AnsweredAll g p lines replies old new) → Leaves g new.file.disk (StandsAt a.point)
  pub settled : (p : Point K) (lines : List (Line K)) (replies : List (Reply K)) (old new : OpenStore K D) → p.beyond ≡ None → All IsSure replies → (a : AnsweredAll g p lines replies old new) → a.point.beyond ≡ None
  pub sure : (p : Point K) (lines : List (Line K)) (replies : List (Reply K)) (old new : OpenStore K D) → p.beyond ≡ None → All IsSure replies → IsTrue (g.honest new.file.disk) → (a : AnsweredAll g p lines replies old new)
      → Leaves g new.file.disk (λ image. HasStanding image a.point.at)
