-- What each step leaves of where a root leads, along a lineage that is named.
use Rattle.std.specs.Prelude.{◌≡◌, ◌⊎◌, ◌<◌, ◌≤◌, ◌+◌, ℕ, List, ◌++◌, length, slice_get, Option, Some, Contains}
use Rattle.grid_model.specs.Lawful.{pages_named}
use Rattle.grid_model.specs.Lone.{opened}
use Rattle.grid_model.specs.Spellings.{LoggedBatch}
use Rattle.grid_model.specs.Images.{MayRedoAll}
use Rattle.grid_model.specs.Roots.{WholeRoot}
use Rattle.file_images.specs.Kept.{Barred, PlacedBatch, Shut, InDoubt, MayBeNewest, Kept, on_half}
use Rattle.file_images.specs.Meets.{Covers}
use Rattle.file_images.specs.Steps.{with_page, without_page, with_settled, without_pages, with_flying, with_doubt, with_slot, with_closed, with_tried, with_root, with_loose, with_shut, with_turned}
use Rattle.file_images.specs.Leads.{Standing, Chain, updates_in, RootHolds, Lineage, past, lineage_at, MayFollow, LeadsAlong, RootLeads, Leads}

-- a root is ahead of another one that leads to a standing along a lineage, by the first of its batches: it is of the same session, stands behind these, and holds the layout and the table there; each update of the batches after them may be made, those of the batch in doubt too
pub record IsAhead {K : ℕ} (k : Kept K) (w : WholeRoot) (m : Standing K) (x : Lineage K) (before after : List (LoggedBatch K)) (new : WholeRoot) : Type 0 where
  pub parted : x.taken ≡ before ++ after
  pub session : new.fields.session ≡ w.fields.session
  pub up_to : Chain w.fields.front before new.fields.front
  pub onward : Chain new.fields.front after m.place
  pub holds : RootHolds k new (past x before after).layout (past x before after).table
  pub may : MayRedoAll k.shape (opened (past x before after).table (past x before after).layout new.fields.front) (updates_in after)
  pub doubt : (d : LoggedBatch K) → k.next ≡ InDoubt d → MayFollow k new (past x before after) m.place d

-- a root begins a session at a standing: it holds the layout and the table there, and each batch on a slot is of an earlier session; none is in doubt
pub record BeginsSession {K : ℕ} (k : Kept K) (m : Standing K) (new : WholeRoot) : Type 0 where
  pub front : new.fields.front ≡ m.place
  pub holds : RootHolds k new m.layout m.table
  pub earlier : (h i : ℕ) (p : PlacedBatch K) → h < 2 → slice_get (on_half k h) i ≡ Some p → p.batch.session < new.fields.session
  pub shut : k.next ≡ Shut

-- a root leads where it did, along the same lineage, once the other header page is closed, where some root, or none, was tried there, and where another root is the kept one; a root ahead of it leads there along the rest of its lineage; and one that begins a session there leads there with no batch taken
pub record RootsLead (K : ℕ) : Type 0 where
  pub closed : (k : Kept K) (m : Standing K) (w : WholeRoot) (x : Lineage K) → LeadsAlong k w m x → LeadsAlong (with_closed k) w m x
  pub tried : (k : Kept K) (m : Standing K) (new : Option WholeRoot) (w : WholeRoot) (x : Lineage K) → LeadsAlong k w m x → LeadsAlong (with_tried k new) w m x
  pub placed : (k : Kept K) (m : Standing K) (new w : WholeRoot) (x : Lineage K) → LeadsAlong k w m x → LeadsAlong (with_root k new) w m x
  pub ahead : (k : Kept K) (m : Standing K) (new w : WholeRoot) (x : Lineage K) (before after : List (LoggedBatch K)) → IsAhead k w m x before after new → LeadsAlong k w m x → LeadsAlong k new m (past x before after)
  pub begins : (k : Kept K) (m : Standing K) (new : WholeRoot) → BeginsSession k m new → LeadsAlong k new m (lineage_at m)

-- all that may be the newest lead where they did: once the other header page is closed; where one that leads there was tried on it; and where one of them is the kept root
pub record AllRootsLead (K : ℕ) : Type 0 where
  pub closed : (k : Kept K) (m : Standing K) → Leads k m → Leads (with_closed k) m
  pub tried : (k : Kept K) (m : Standing K) (new : WholeRoot) → RootLeads k new m → Leads k m → Leads (with_tried k (Some new)) m
  pub placed : (k : Kept K) (m : Standing K) (new : WholeRoot) → MayBeNewest k new → Leads k m → Leads (with_root k new) m

-- each batch on a half that is of a root's session begins at or below its front
abbrev pub IsBehind : {K : ℕ} → Kept K → WholeRoot → ℕ → Type 0
IsBehind {K} k w h = (i : ℕ) (p : PlacedBatch K) → slice_get (on_half k h) i ≡ Some p → p.batch.session ≡ w.fields.session → p.batch.first ≤ w.fields.front

-- no batch on a slot that is of a root's session begins beyond a place, but for one that is barred
abbrev pub NoneBeyond : {K : ℕ} → Kept K → WholeRoot → ℕ → Type 0
NoneBeyond {K} k w place = (h i : ℕ) (p : PlacedBatch K) → h < 2 → slice_get (on_half k h) i ≡ Some p → p.batch.session ≡ w.fields.session → (p.gate ≡ Barred) ⊎ (p.batch.first ≤ place)

-- a root leads where it did, along the same lineage: while a batch is just written on the next slot; where one is in doubt that may follow; where the halves' roles are exchanged; and where a half is cleared of which the root has all batches; and if no batch of its session begins beyond a place, none begins beyond one that counts from there on
pub record JournalLeads (K : ℕ) : Type 0 where
  pub flying : (k : Kept K) (m : Standing K) (w : WholeRoot) (x : Lineage K) → LeadsAlong k w m x → LeadsAlong (with_flying k) w m x
  pub doubted : (k : Kept K) (m : Standing K) (d : LoggedBatch K) (w : WholeRoot) (x : Lineage K) → k.next ≡ Shut → NoneBeyond k w m.place → MayFollow k w x m.place d → LeadsAlong k w m x → LeadsAlong (with_doubt k d) w m x
  pub turned : (k : Kept K) (m : Standing K) (w : WholeRoot) (x : Lineage K) → LeadsAlong k w m x → LeadsAlong (with_turned k) w m x
  pub loosened : (k : Kept K) (h : ℕ) (m : Standing K) (w : WholeRoot) (x : Lineage K) → h < 2 → IsBehind k w h → LeadsAlong k w m x → LeadsAlong (with_loose k h) w m x
  pub shut : (k : Kept K) (h : ℕ) (m : Standing K) (w : WholeRoot) (x : Lineage K) → h < 2 → IsBehind k w h → LeadsAlong k w m x → LeadsAlong (with_shut k h) w m x
  pub none_beyond : (k : Kept K) (place : ℕ) (d : LoggedBatch K) (w : WholeRoot) → k.half < 2 → d.first ≡ place + 1 → 0 < length d.updates → NoneBeyond k w place → NoneBeyond (with_slot k d) w (place + length d.updates)

-- none of these data pages is named by a root
abbrev pub NamesNone : WholeRoot → List ℕ → Type 0
NamesNone w pages = (p : ℕ) → Contains pages p → Contains (w.area.parts ++ pages_named w.area.table) p → ⊥

-- where data pages are written a root leads where it did, along the same lineage, and so it does where pages that it does not name are settled, or not asked for any more; and to ask for fewer is covered
pub record PagesLead (K : ℕ) : Type 0 where
  pub written : (k : Kept K) (m : Standing K) (p : ℕ) (bytes : List ℕ) (w : WholeRoot) (x : Lineage K) → LeadsAlong k w m x → LeadsAlong (with_page k p bytes) w m x
  pub unwritten : (k : Kept K) (m : Standing K) (p : ℕ) (w : WholeRoot) (x : Lineage K) → LeadsAlong k w m x → LeadsAlong (without_page k p) w m x
  pub settled : (k : Kept K) (m : Standing K) (pages : List ℕ) (w : WholeRoot) (x : Lineage K) → NamesNone w pages → LeadsAlong k w m x → LeadsAlong (with_settled k pages) w m x
  pub let_go : (k : Kept K) (m : Standing K) (pages : List ℕ) (w : WholeRoot) (x : Lineage K) → NamesNone w pages → LeadsAlong k w m x → LeadsAlong (without_pages k pages) w m x
  pub covered : (k : Kept K) (pages : List ℕ) → Covers k (without_pages k pages)
