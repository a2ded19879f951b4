-- What is kept on a file leads from its root to one standing: plain facts, with no disk and no image.
use Rattle.std.specs.Prelude.{◌≡◌, ◌⊎◌, ◌<◌, ◌≤◌, ◌+◌, ℕ, List, [], ◌∷◌, ◌++◌, map, flat_map, fold, length, slice_get, Some, Contains}
use Rattle.grid_types.specs.declared.layout_change.LoggedUpdate.{LoggedUpdate}
use Rattle.grid_types.specs.declared.owner.Owner.{Owner}
use Rattle.grid_model.specs.Tables.{Table}
use Rattle.grid_model.specs.Cells.{parts}
use Rattle.grid_model.specs.Layouts.{Layout}
use Rattle.grid_model.specs.LayoutLaws.{StandsOver}
use Rattle.grid_model.specs.Lone.{opened}
use Rattle.grid_model.specs.Spellings.{LoggedBatch}
use Rattle.grid_model.specs.Images.{numbers_of, logged_effect, layout_after, MayRedoAll, Stands, IsShaped}
use Rattle.grid_model.specs.Roots.{WholeRoot}
use Rattle.history_pages.specs.KnownPages.{page_named}
use Rattle.history_pages.specs.OwnerPages.{owner_page}
use Rattle.file_images.specs.Kept.{Barred, Counting, PlacedBatch, NextSlot, Shut, Flying, InDoubt, MayBeNewest, Kept, on_half}

-- the standing of a file: a table at a place of the history, and the layout there
pub record Standing (K : ℕ) : Type 0 where
  pub place : ℕ
  pub table : Table
  pub layout : Layout K

-- an image has a standing: it stands for the table at the place, and has the layout
pub record HasStanding {K : ℕ} (image : List ℕ) (m : Standing K) : Type 0 where
  pub stands : Stands K image m.place m.table
  pub shaped : IsShaped image m.layout

-- the standing behind a batch
abbrev pub behind : {K : ℕ} → Standing K → LoggedBatch K → Standing K
behind m b = record { place = m.place + length b.updates; table = fold logged_effect m.table b.updates; layout = layout_after m.layout b.updates }

-- batches follow one another from a place to another, none empty
abbrev pub Chain : {K : ℕ} → ℕ → List (LoggedBatch K) → ℕ → Type 0
Chain from [] to = from ≡ to
Chain from (b ∷ bs) to = (b.first ≡ from + 1) × (0 < length b.updates) × Chain (from + length b.updates) bs to

-- the updates of batches, in order
abbrev pub updates_in : {K : ℕ} → List (LoggedBatch K) → List (LoggedUpdate K)
updates_in bs = flat_map (λ b. b.updates) bs

-- the pages that a root names always hold the pages of the owners of a layout that stands over a table, and it names pages for all of these owners and no other
pub record RootHolds {K : ℕ} (k : Kept K) (w : WholeRoot) (L : Layout K) (t : Table) : Type 0 where
  pub scales : L.scales ≡ w.area.scales
  pub directory : length w.area.parts ≡ parts L.scales
  pub numbers : map (λ e. e.0) L.boxes ≡ numbers_of w.area.table
  pub stands : StandsOver k.shape L t
  pub records : w.fields.records ≡ length t
  pub pages : (o : Owner) (bytes : List ℕ) → owner_page L t o ≡ Some bytes → slice_get k.always (page_named w.area o) ≡ Some (Some bytes)

-- a batch stands on a slot where it counts
pub record CountsOn {K : ℕ} (k : Kept K) (b : LoggedBatch K) : Type 0 where
  pub half : ℕ
  pub slot : ℕ
  pub two : half < 2
  pub there : slice_get (on_half k half) slot ≡ Some (record { batch = b; gate = Counting })

-- the place behind the batch in doubt, if there is one
abbrev pub reach : {K : ℕ} → NextSlot K → ℕ → ℕ
reach Shut n = n
reach Flying n = n
reach (InDoubt b) n = n + length b.updates

-- a batch counts on a slot before this one, in the order of half and slot
pub record CountsBefore {K : ℕ} (k : Kept K) (b : LoggedBatch K) (h i : ℕ) : Type 0 where
  pub on : CountsOn k b
  pub before : (on.half < h) ⊎ ((on.half ≡ h) × (on.slot < i))

-- a batch on a slot is passed over: it begins at or below a place, and where one of these batches begins at the same place, that one counts on a slot before it
pub record IsPassed {K : ℕ} (k : Kept K) (taken : List (LoggedBatch K)) (place h i : ℕ) (p : PlacedBatch K) : Type 0 where
  pub behind : p.batch.first ≤ place
  pub later : (b : LoggedBatch K) → Contains taken b → b.first ≡ p.batch.first → CountsBefore k b h i

-- a batch on a slot is barred, or the root has its updates, or it is one of these, or it is passed over, or it begins beyond any place that may be reached
abbrev pub IsKnown : {K : ℕ} → Kept K → ℕ → List (LoggedBatch K) → (place far h i : ℕ) → PlacedBatch K → Type 0
IsKnown k from taken place far h i p = (p.gate ≡ Barred) ⊎ ((p.batch.first ≤ from) ⊎ (Contains taken p.batch ⊎ (IsPassed k taken place h i p ⊎ (far + 1 < p.batch.first))))

-- where a root leads from: the layout and the table that its pages hold, and the batches behind it that are taken
pub record Lineage (K : ℕ) : Type 0 where
  pub layout : Layout K
  pub table : Table
  pub taken : List (LoggedBatch K)

-- a lineage, with one more batch that is taken behind the others
abbrev pub and_then : {K : ℕ} → Lineage K → LoggedBatch K → Lineage K
and_then x d = record { layout = x.layout; table = x.table; taken = x.taken ++ d ∷ [] }

-- the lineage of a root that has the first of the batches: the layout and the table behind these, and the batches after them
abbrev pub past : {K : ℕ} → Lineage K → (before after : List (LoggedBatch K)) → Lineage K
past x before after = record { layout = layout_after x.layout (updates_in before); table = fold logged_effect x.table (updates_in before); taken = after }

-- the lineage of a root that stands at a standing itself: no batch is taken
abbrev pub lineage_at : {K : ℕ} → Standing K → Lineage K
lineage_at m = record { layout = m.layout; table = m.table; taken = [] }

-- the batch in doubt may be taken behind a lineage: it is of the root's session, begins at the next place, and each update of the lineage and of the batch may be made
pub record MayFollow {K : ℕ} (k : Kept K) (w : WholeRoot) (x : Lineage K) (place : ℕ) (d : LoggedBatch K) : Type 0 where
  pub session : d.session ≡ w.fields.session
  pub first : d.first ≡ place + 1
  pub may : MayRedoAll k.shape (opened x.table x.layout w.fields.front) (updates_in (x.taken ++ d ∷ []))

-- a root leads to a standing along a lineage: its pages hold the lineage's layout and table, and from its front the batches of its session that count go up to the place without a gap, and make of both the layout and the table there; no other batch joins them, though one may be passed over; each may be taken, and so may the one in doubt behind them
pub record LeadsAlong {K : ℕ} (k : Kept K) (w : WholeRoot) (m : Standing K) (x : Lineage K) : Type 0 where
  pub holds : RootHolds k w x.layout x.table
  pub chain : Chain w.fields.front x.taken m.place
  pub there : (b : LoggedBatch K) → Contains x.taken b → (b.session ≡ w.fields.session) × CountsOn k b
  pub known : (h i : ℕ) (p : PlacedBatch K) → h < 2 → slice_get (on_half k h) i ≡ Some p → p.batch.session ≡ w.fields.session → IsKnown k w.fields.front x.taken m.place (reach k.next m.place) h i p
  pub sessions : (h i : ℕ) (p : PlacedBatch K) → h < 2 → slice_get (on_half k h) i ≡ Some p → p.batch.session ≤ w.fields.session
  pub makes_table : m.table ≡ fold logged_effect x.table (updates_in x.taken)
  pub makes_layout : m.layout ≡ layout_after x.layout (updates_in x.taken)
  pub may : MayRedoAll k.shape (opened x.table x.layout w.fields.front) (updates_in x.taken)
  pub doubt : (d : LoggedBatch K) → k.next ≡ InDoubt d → MayFollow k w x m.place d

-- a root leads to a standing, along some lineage
pub record RootLeads {K : ℕ} (k : Kept K) (w : WholeRoot) (m : Standing K) : Type 0 where
  pub lineage : Lineage K
  pub along : LeadsAlong k w m lineage

-- what is kept leads to a standing: each root that may be the newest leads to it
abbrev pub Leads : {K : ℕ} → Kept K → Standing K → Type 0
Leads k m = (w : WholeRoot) → MayBeNewest k w → RootLeads k w m

-- an image has a standing, or, where a batch is in doubt, the one behind it
abbrev pub HasStandingOrBehind : {K : ℕ} → Kept K → List ℕ → Standing K → Type 0
HasStandingOrBehind {K} k image m = HasStanding image m ⊎ ((d : LoggedBatch K) × (k.next ≡ InDoubt d) × HasStanding image (behind m d))
