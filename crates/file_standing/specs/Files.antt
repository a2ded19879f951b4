-- What the books of a file and what the file keeps say of each other: where the file stands.
use Rattle.std.specs.Prelude.{◌≡◌, ◌<◌, ◌≤◌, ℕ, fold, length, replicate, slice_get, Some, None}
use Rattle.grid_model.specs.LayoutLaws.{StandsOver}
use Rattle.grid_model.specs.Lone.{State, opened}
use Rattle.grid_model.specs.Images.{redo}
use Rattle.grid_model.specs.Roots.{WholeRoot}
use Rattle.file_images.specs.Kept.{PlacedBatch, Shut, MayBeNewest, IsTried, Kept, on_half, used}
use Rattle.file_images.specs.Leads.{Standing, Lineage, updates_in, LeadsAlong}
use Rattle.layout_pages.specs.Holding.{HoldLayout, NamesCurrent}
use Rattle.kept_pages.specs.Counts.{CountsRoot}
use Rattle.file_books.specs.Books.{Books}
use Rattle.file_books.specs.Effects.{used_of, idle_half}

-- a lone caller's state behind a lineage of a root: that of a file that was opened at the root, after each update of the batches
abbrev pub state_along : {K : ℕ} → WholeRoot → Lineage K → State K
state_along w x = fold redo (opened x.table x.layout w.fields.front) (updates_in x.taken)

-- books agree with what is kept on a file: on the shape, the number and the place of the newest root, the current half and how many slots of each are used; and if a root was tried, its place is the one that is tried
pub record AgreeWith {K : ℕ} (b : Books) (k : Kept K) : Type 0 where
  pub shape : k.shape ≡ b.shape
  pub number : k.root.fields.number ≡ b.number
  pub root : k.root.fields.front ≡ b.rooted_at
  pub tried : (w : WholeRoot) → IsTried k.other w → b.trying_at ≡ Some w.fields.front
  pub half : k.half ≡ b.half
  pub two : b.half < 2
  pub first : used k 0 ≡ b.first_used
  pub second : used k 1 ≡ b.second_used

-- each batch on a slot that is of a root's session begins at or below a place
abbrev pub NoneAhead : {K : ℕ} → Kept K → WholeRoot → ℕ → Type 0
NoneAhead {K} k w place = (h i : ℕ) (p : PlacedBatch K) → h < 2 → slice_get (on_half k h) i ≡ Some p → p.batch.session ≡ w.fields.session → p.batch.first ≤ place

-- a root that may be the newest leads to a standing along a lineage that the books know: the pages that it names are current at its front, and it counts as a lone caller's state behind the lineage; its session is that of the books or an earlier one; and if it is of that of the books, no batch of its session begins beyond the place
pub record Follows {K : ℕ} (b : Books) (k : Kept K) (m : Standing K) (w : WholeRoot) (x : Lineage K) : Type 0 where
  pub along : LeadsAlong k w m x
  pub names : NamesCurrent w.fields.front b.pages w.area
  pub counts : CountsRoot b.pages b.front w.fields.front (state_along w x)
  pub before : w.fields.front ≤ b.front
  pub session : w.fields.session ≤ b.session
  pub none : w.fields.session ≡ b.session → NoneAhead k w m.place

-- a root follows along some lineage
pub record FollowsSome {K : ℕ} (b : Books) (k : Kept K) (m : Standing K) (w : WholeRoot) : Type 0 where
  pub lineage : Lineage K
  pub along : Follows b k m w lineage

-- the books of a file hold a standing: at the front its layout and table, with as many records; its pages hold them; and nothing else is known of pages
pub record BooksHold {K : ℕ} (b : Books) (k : Kept K) (m : Standing K) : Type 0 where
  pub place : m.place ≡ b.front
  pub scales : m.layout.scales ≡ b.scales
  pub records : length m.table ≡ b.records
  pub buckets : length m.layout.boxes ≡ b.buckets
  pub stands : StandsOver b.shape m.layout m.table
  pub size : length b.pages ≡ b.shape.pages
  pub holds : HoldLayout b.pages k.always b.front m.layout m.table
  pub fresh : k.fresh ≡ replicate b.shape.pages None

-- a file is at a standing: books and what is kept agree, the books hold the standing, nothing is on the next slot, and each root that may be the newest leads there
pub record IsFile {K : ℕ} (b : Books) (k : Kept K) (m : Standing K) : Type 0 where
  pub agree : AgreeWith b k
  pub hold : BooksHold b k m
  pub shut : k.next ≡ Shut
  pub each : (w : WholeRoot) → MayBeNewest k w → FollowsSome b k m w

-- a file is at a standing as a lone caller's state says, where no root step failed: no root is tried, the half that is not current is clear, and the newest root follows along a lineage behind which stands that state, with the used slots of the current half
pub record IsAlone {K : ℕ} (b : Books) (k : Kept K) (m : Standing K) (s : State K) : Type 0 where
  pub lineage : Lineage K
  pub follows : Follows b k m k.root lineage
  pub state : s ≡ record (state_along k.root lineage) { used = used_of b b.half }
  pub quiet : b.trying_at ≡ None
  pub clear : used_of b (idle_half b) ≡ 0

-- each root that may be the newest is of the session of the books, so that batches may be committed; while a file is opened it is of the one before
abbrev pub InSession : {K : ℕ} → Books → Kept K → Type 0
InSession b k = (w : WholeRoot) → MayBeNewest k w → w.fields.session ≡ b.session
