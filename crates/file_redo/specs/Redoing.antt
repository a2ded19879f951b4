-- A file that is being opened, where some updates of its journal are redone: on the new pages, while the root stands.
use Rattle.std.specs.Prelude.{◌≡◌, ◌+◌, ℕ, List, ◌++◌, map, fold, length, replicate, slice_index_or, Option, Some, None, Contains}
use Rattle.grid_types.specs.declared.layout_change.LoggedUpdate.{LoggedUpdate}
use Rattle.grid_model.specs.Lists.{below}
use Rattle.grid_model.specs.LayoutLaws.{StandsOver}
use Rattle.grid_model.specs.Lone.{State, opened}
use Rattle.grid_model.specs.Images.{logged_effect, layout_after, redo}
use Rattle.file_images.specs.Kept.{LooseHeader, Shut, Kept}
use Rattle.file_images.specs.Leads.{Standing, Lineage, updates_in, LeadsAlong}
use Rattle.layout_pages.specs.Holding.{HoldLayout, NamesCurrent, named_by}
use Rattle.kept_pages.specs.Counts.{CountsRoot}
use Rattle.file_books.specs.Books.{Books}
use Rattle.file_standing.specs.Files.{AgreeWith}

-- what was read last, or else what was known before
abbrev pub newer : (fresh always : Option (List ℕ)) → Option (List ℕ)
newer (Some bytes) always = Some bytes
newer None always = always

-- what each of so many data pages reads as, where it is known: what was written since it was claimed, or else what it always holds
abbrev pub pages_read : ℕ → (fresh always : List (Option (List ℕ))) → List (Option (List ℕ))
pages_read n fresh always = map (λ p. newer (slice_index_or fresh p None) (slice_index_or always p None)) (below n)

-- what each data page of a file reads as, where it is known
abbrev pub as_read : {K : ℕ} → Kept K → List (Option (List ℕ))
as_read k = pages_read k.shape.pages k.fresh k.always

-- where a file stands when some updates behind its root are redone
abbrev pub standing_behind : {K : ℕ} → ℕ → Lineage K → List (LoggedUpdate K) → Standing K
standing_behind front x done = record { place = front + length done; table = fold logged_effect x.table done; layout = layout_after x.layout done }

-- a lone caller's state when some updates behind a root are redone: that of a file that was opened at the root, after each of them
abbrev pub state_behind : {K : ℕ} → ℕ → Lineage K → List (LoggedUpdate K) → State K
state_behind front x done = fold redo (opened x.table x.layout front) done

-- the books of a file hold a standing in the pages as they read: at the front its layout and table, with as many records
pub record ReadAsHeld {K : ℕ} (b : Books) (k : Kept K) (m : Standing K) : Type 0 where
  pub place : m.place ≡ b.front
  pub scales : m.layout.scales ≡ b.scales
  pub records : length m.table ≡ b.records
  pub buckets : length m.layout.boxes ≡ b.buckets
  pub stands : StandsOver b.shape m.layout m.table
  pub size : length b.pages ≡ b.shape.pages
  pub holds : HoldLayout b.pages (as_read k) b.front m.layout m.table
  pub always : length k.always ≡ b.shape.pages
  pub fresh : length k.fresh ≡ b.shape.pages

-- no data page that the root names was written since the file is being opened
abbrev pub RootUnwritten : {K : ℕ} → Kept K → Type 0
RootUnwritten k = (p : ℕ) → Contains (named_by k.root.area) p → slice_index_or k.fresh p None ≡ None

-- a file is being opened that leads to a standing: its root, which alone may be the newest, leads there along a lineage, whose updates are those that are redone and then the rest; the books, of the root's session, hold where these lead in the pages as they read; the pages that the root names are current at its place, and unwritten; and it counts as a lone caller who has redone as much
pub record IsRedoing {K : ℕ} (b : Books) (k : Kept K) (m : Standing K) (x : Lineage K) (done rest : List (LoggedUpdate K)) : Type 0 where
  pub agree : AgreeWith b k
  pub other : k.other ≡ LooseHeader None
  pub shut : k.next ≡ Shut
  pub along : LeadsAlong k k.root m x
  pub parted : updates_in x.taken ≡ done ++ rest
  pub hold : ReadAsHeld b k (standing_behind b.rooted_at x done)
  pub names : NamesCurrent b.rooted_at b.pages k.root.area
  pub unwritten : RootUnwritten k
  pub counts : CountsRoot b.pages b.front b.rooted_at (state_behind b.rooted_at x done)
  pub session : b.session ≡ k.root.fields.session
  pub quiet : b.trying_at ≡ None

-- what is kept once all that the data pages read as is on the disk for good
abbrev pub settled_kept : {K : ℕ} → Kept K → Kept K
settled_kept k = record k { always = as_read k; fresh = replicate k.shape.pages None }
