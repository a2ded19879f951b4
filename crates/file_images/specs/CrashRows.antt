-- What a crash leaves of a file at the moments that matter most.
use Rattle.std.specs.Prelude.{◌⊎◌, ◌<◌, ◌+◌, ℕ, List, length, Some}
use Rattle.grid_types.specs.declared.shape.Shape.{Shape}
use Rattle.grid_model.specs.Spellings.{LoggedBatch}
use Rattle.grid_model.specs.Roots.{WholeRoot}
use Rattle.journal_slots.specs.Committing.{BatchStep}
use Rattle.file_images.specs.Kept.{Kept}
use Rattle.file_images.specs.Shows.{Shows}
use Rattle.file_images.specs.Steps.{IsNextSlot, with_doubt, with_slot, with_turned, with_closed, with_tried, with_root, with_loose}
use Rattle.file_images.specs.Leads.{Standing, HasStanding, behind, Lineage, and_then, MayFollow, LeadsAlong, Leads}
use Rattle.file_images.specs.LeadingLaws.{IsBehind, NoneBeyond}

-- the halves' roles are exchanged, and two batches count, one behind the other, on the half that is current now
abbrev pub with_two : {K : ℕ} → Kept K → LoggedBatch K → LoggedBatch K → Kept K
with_two k b c = with_slot (with_slot (with_turned k) b) c

-- the standing behind two batches
abbrev pub behind_two : {K : ℕ} → Standing K → LoggedBatch K → LoggedBatch K → Standing K
behind_two m b c = behind (behind m b) c

-- two batches may follow one behind the other, neither empty: no batch of a root's session begins beyond the place; the first may follow behind its lineage, and the second behind that and the first
pub record MayBothFollow {K : ℕ} (k : Kept K) (m : Standing K) (w : WholeRoot) (x : Lineage K) (b c : LoggedBatch K) : Type 0 where
  pub none : NoneBeyond k w m.place
  pub some : 0 < length b.updates
  pub some_more : 0 < length c.updates
  pub first : MayFollow k w x m.place b
  pub second : MayFollow k w (and_then x b) (m.place + length b.updates) c

-- a crash between the write of a gate and its sync leaves the batch as a whole or nothing of it; two batches that may both follow, placed since the halves were exchanged, lead a root to the standing behind both, along its lineage and both batches; and a crash leaves that standing while the other header page is closed, while a new root is tried on it, once that root stands, and while the gates of the half behind it may be anything
pub record CrashRows (K : ℕ) : Type 0 where
  pub committed : (k : Kept K) (s : Shape) (half slot : ℕ) (b : LoggedBatch K) (m : Standing K) (old new : List ℕ) → IsNextSlot k s half slot → slot < s.slots → Leads (with_doubt k b) m → Shows k old → BatchStep s half slot b old new → HasStanding new m ⊎ HasStanding new (behind m b)
  pub both_lead : (k : Kept K) (m : Standing K) (b c : LoggedBatch K) (w : WholeRoot) (x : Lineage K) → MayBothFollow k m w x b c → LeadsAlong k w m x → LeadsAlong (with_two k b c) w (behind_two m b c) (and_then (and_then x b) c)
  pub closed : (k : Kept K) (m : Standing K) (b c : LoggedBatch K) (image : List ℕ) → Leads (with_two k b c) (behind_two m b c) → Shows (with_closed (with_two k b c)) image → HasStanding image (behind_two m b c)
  pub tried : (k : Kept K) (m : Standing K) (b c : LoggedBatch K) (w : WholeRoot) (image : List ℕ) → Leads (with_tried (with_two k b c) (Some w)) (behind_two m b c) → Shows (with_tried (with_two k b c) (Some w)) image → HasStanding image (behind_two m b c)
  pub rooted : (k : Kept K) (m : Standing K) (b c : LoggedBatch K) (w : WholeRoot) (image : List ℕ) → Leads (with_tried (with_two k b c) (Some w)) (behind_two m b c) → Shows (with_root (with_two k b c) w) image → HasStanding image (behind_two m b c)
  pub loosened : (k : Kept K) (m : Standing K) (b c : LoggedBatch K) (w : WholeRoot) (image : List ℕ) → k.half < 2 → Leads (with_tried (with_two k b c) (Some w)) (behind_two m b c) → IsBehind (with_root (with_two k b c) w) w k.half → Shows (with_loose (with_root (with_two k b c) w) k.half) image → HasStanding image (behind_two m b c)
