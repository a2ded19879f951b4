-- What is promised of a store at a point of its client's session.
use Rattle.std.specs.Prelude.{◌≡◌, ℕ, None, IsTrue}
use Rattle.disk_trait.specs.declared.disk.Disk.{Ghosts}
use Rattle.disk_trait.specs.Moments.{Always}
use Rattle.grid_model.specs.Lone.{State}
use Rattle.grid_model.specs.Tables.{IsTableOf}
use Rattle.client_sessions.specs.Points.{Point, StandsAt, standing_of}
use Rattle.grid_store.specs.Stores.{OpenStore, IsStoreAlone, IsStoreAt}

-- a store that is as a lone caller's state says is where that stands; where a store is at a point, its front is the point's place, whose table is one of K attributes, and on a disk that tells its content what reads give and each image that a crash leaves stand at the point
pub record StoreTells (K : ℕ) {D : Type 0} (g : Ghosts D) : Type 0 where
  pub lone : (s : OpenStore K D) (t : State K) → IsStoreAlone g s t → IsStoreAt g s (record { at = standing_of t; beyond = None })
  pub front : (s : OpenStore K D) (p : Point K) → IsStoreAt g s p → p.at.place ≡ s.file.books.front
  pub table : (s : OpenStore K D) (p : Point K) → IsStoreAt g s p → IsTableOf K p.at.table
  pub crash : (s : OpenStore K D) (p : Point K) → IsTrue (g.honest s.file.disk) → IsStoreAt g s p → Always (g.may_leave s.file.disk) (StandsAt p)
  pub read : (s : OpenStore K D) (p : Point K) → IsTrue (g.honest s.file.disk) → IsStoreAt g s p → StandsAt p (g.seen s.file.disk)
