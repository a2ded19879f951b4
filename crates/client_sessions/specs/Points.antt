-- Where a session of one client is.
use Rattle.std.specs.Prelude.{◌≡◌, ◌⊎◌, ◌+◌, ℕ, List, [], ◌∷◌, Option, None, IsSomeAnd}
use Rattle.grid_types.specs.declared.layout_change.LayoutChange.{LayoutChange}
use Rattle.grid_types.specs.declared.shape.Shape.{Shape}
use Rattle.grid_types.specs.declared.update.Update.{Update}
use Rattle.grid_model.specs.Images.{layout_after}
use Rattle.grid_model.specs.Lone.{State}
use Rattle.grid_model.specs.Notes.{IsLawfulNote}
use Rattle.grid_model.specs.Tables.{effect}
use Rattle.file_images.specs.Leads.{Standing, HasStanding}

-- the standing behind an update with a note
abbrev pub after_update : {K : ℕ} → Standing K → Update K → LayoutChange → Standing K
after_update m u n = record { place = m.place + 1; table = effect m.table u; layout = layout_after m.layout (record { update = u; note = n } ∷ []) }

-- where a lone caller's state stands
abbrev pub standing_of : {K : ℕ} → State K → Standing K
standing_of s = record { place = s.front; table = s.table; layout = s.layout }

-- a point of a session: where it stands; and where it would stand with a batch that is in doubt, if there is one
pub record Point (K : ℕ) : Type 0 where
  pub at : Standing K
  pub beyond : Option (Standing K)

-- an image stands at a point: there, or with the batch in doubt
abbrev pub StandsAt : {K : ℕ} → Point K → List ℕ → Type 0
StandsAt p image = HasStanding image p.at ⊎ IsSomeAnd p.beyond (λ m. HasStanding image m)

-- from a point where nothing is in doubt an update with a lawful note leads to this standing
pub record LeadsBy {K : ℕ} (shape : Shape) (p : Point K) (u : Update K) (m : Standing K) : Type 0 where
  pub settled : p.beyond ≡ None
  pub note : LayoutChange
  pub lawful : IsLawfulNote shape p.at.layout p.at.table u note
  pub behind : m ≡ after_update p.at u note
