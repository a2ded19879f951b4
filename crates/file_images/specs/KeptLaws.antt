-- What is promised of all that a file keeps, over plain images.
use Rattle.std.specs.Prelude.{◌≡◌, ◌≢◌, ◌<◌, ◌≤◌, ◌+◌, ◌*◌, ℕ, List, length, Option, Some}
use Rattle.grid_types.specs.declared.sizes.TheConstants.{PAGE_BYTES}
use Rattle.grid_types.specs.Ranges.{slot_ranges}
use Rattle.grid_types.specs.Shapes.{header_page, slot_gate_at}
use Rattle.disk_trait.specs.Disk.{Agrees}
use Rattle.disk_trait.specs.Moments.{AgreesOutside}
use Rattle.grid_model.specs.Spellings.{LoggedBatch}
use Rattle.grid_model.specs.Slots.{IsCommitted}
use Rattle.grid_model.specs.Images.{header_gate}
use Rattle.grid_model.specs.Roots.{WholeRoot, AreRootFields, HasAreaOf}
use Rattle.journal_slots.specs.Committing.{BatchStep}
use Rattle.file_roots.specs.Places.{GateAlone, FieldsAlone, AreaAlone, RootAlone}
use Rattle.file_roots.specs.Writing.{HasNewFields, IsHeaderWritten}
use Rattle.file_images.specs.Kept.{OtherHeader, ShutHeader, LooseHeader, Shut, Flying, InDoubt, Kept, used, next_number}
use Rattle.file_images.specs.Shows.{ShowsRoots, gate_in, Shows}
use Rattle.file_images.specs.Apart.{IsFreePage}
use Rattle.file_images.specs.Steps.{with_doubt, with_slot, with_barred, with_next_shut, with_loose, with_shut, with_closed, with_tried, with_root, with_turned}
use Rattle.file_images.specs.Meets.{IsLooseUnder}
use Rattle.file_images.specs.Leads.{Standing, behind, Lineage, and_then, LeadsAlong, Leads, HasStandingOrBehind}

-- a write on a page of which nothing is kept leaves what an image shows
abbrev pub WritesApartLeave : ℕ → Type 0
WritesApartLeave K = (k : Kept K) (q at n : ℕ) (c d : List ℕ) → IsFreePage k q → q * PAGE_BYTES ≤ at → at + n ≤ q * PAGE_BYTES + PAGE_BYTES → Agrees at n c d → Shows k c → Shows k d

-- an image that shows what is kept, where no batch is just being written, has the standing to which that leads, or the one behind the batch in doubt
abbrev pub ShownStands : ℕ → Type 0
ShownStands K = (k : Kept K) (image : List ℕ) (m : Standing K) → Shows k image → k.next ≢ Flying → Leads k m → HasStandingOrBehind k image m

-- the batch in doubt, where it counts, leads a root on to the standing behind it, along its lineage and then the batch; where it is barred, or gone, a root leads to the standing to which it led, along the same lineage
pub record DoubtLeadsOn (K : ℕ) : Type 0 where
  pub counts : (k : Kept K) (d : LoggedBatch K) (m : Standing K) (w : WholeRoot) (x : Lineage K) → k.half < 2 → k.next ≡ InDoubt d → 0 < length d.updates → LeadsAlong k w m x → LeadsAlong (with_slot k d) w (behind m d) (and_then x d)
  pub barred : (k : Kept K) (d : LoggedBatch K) (m : Standing K) (w : WholeRoot) (x : Lineage K) → k.half < 2 → k.next ≡ InDoubt d → LeadsAlong k w m x → LeadsAlong (with_barred k d) w m x
  pub gone : (k : Kept K) (m : Standing K) (w : WholeRoot) (x : Lineage K) → LeadsAlong k w m x → LeadsAlong (with_next_shut k) w m x

-- at each moment of a commit on the next slot, on which nothing is, its batch is in doubt there, and when it is committed it counts there
pub record CommittingShows (K : ℕ) : Type 0 where
  pub during : (k : Kept K) (b : LoggedBatch K) (c d : List ℕ) → k.next ≡ Shut → used k k.half < k.shape.slots → Shows k c → BatchStep k.shape k.half (used k k.half) b c d → Shows (with_doubt k b) d
  pub after : (k : Kept K) (b : LoggedBatch K) (c d : List ℕ) → k.next ≡ Shut → used k k.half < k.shape.slots → Shows k c → AgreesOutside (slot_ranges k.shape k.half (used k k.half)) c d → IsCommitted k.shape k.half (used k k.half) b d → Shows (with_slot k b) d

-- while the gates of the half that is not current are closed, they may be anything, and then no slot of it is used
pub record ClearingShows (K : ℕ) : Type 0 where
  pub during : (k : Kept K) (h : ℕ) (c d : List ℕ) → Shows k c → h < 2 → h ≢ k.half → Agrees (slot_gate_at k.shape h 0) (used k h) c d → Shows (with_loose k h) d
  pub after : (k : Kept K) (h : ℕ) (c d : List ℕ) → Shows k c → h < 2 → h ≢ k.half → Agrees (slot_gate_at k.shape h 0) (used k h) c d → ((i : ℕ) → i < used k h → gate_in k.shape h i d ≡ 0) → Shows (with_shut k h) d

-- where nothing is on the next slot, the halves' roles may be exchanged
abbrev pub TurningShows : ℕ → Type 0
TurningShows K = (k : Kept K) (image : List ℕ) → k.next ≡ Shut → Shows k image → Shows (with_turned k) image

-- a new root is the next one, with lawful fields, and its table area is whole
pub record IsNextWhole {K : ℕ} (k : Kept K) (new : WholeRoot) (image : List ℕ) : Type 0 where
  pub number : new.fields.number ≡ next_number k
  pub lawful : AreRootFields k.shape new.fields
  pub area : HasAreaOf k.shape new image

-- where only the bytes of the next root change, all but the roots is shown as before
abbrev pub RootStepsShow : ℕ → Type 0
RootStepsShow K = (k : Kept K) (root : WholeRoot) (other : OtherHeader) (c d : List ℕ) → Shows k c → RootAlone k.shape (next_number k) c d → ShowsRoots k.shape root other d → Shows (record k { root = root; other = other }) d

-- while the next root's header page is closed, and while its table area and its fields are written, all stays shown; it is closed where its gate is; while its gate is opened the next root is one that was tried; and when it is open it is the root
pub record RootMomentsShow (K : ℕ) : Type 0 where
  pub closing : (k : Kept K) (tried : Option WholeRoot) (c d : List ℕ) → k.other ≡ LooseHeader tried → IsLooseUnder k (LooseHeader tried) c → Shows k c → GateAlone (next_number k) c d → Shows k d
  pub closed : (k : Kept K) (c d : List ℕ) → Shows k c → GateAlone (next_number k) c d → header_gate d (header_page (next_number k)) ≢ 1 → Shows (with_closed k) d
  pub parts : (k : Kept K) (c d : List ℕ) → k.other ≡ ShutHeader → Shows k c → AreaAlone k.shape (next_number k) c d → Shows k d
  pub fields : (k : Kept K) (c d : List ℕ) → k.other ≡ ShutHeader → Shows k c → FieldsAlone (next_number k) c d → Shows k d
  pub opening : (k : Kept K) (new : WholeRoot) (c d : List ℕ) → k.other ≡ ShutHeader → IsNextWhole k new c → Shows k c → HasNewFields new.fields c d → Shows (with_tried k (Some new)) d
  pub rooted : (k : Kept K) (new : WholeRoot) (c d : List ℕ) → k.other ≡ ShutHeader → IsNextWhole k new c → Shows k c → IsHeaderWritten new.fields c d → Shows (with_root k new) d
