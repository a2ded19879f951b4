-- What is promised of a file that is being opened, step by step.
use Rattle.std.specs.Prelude.{◌≡◌, ◌≢◌, ◌≤◌, ◌+◌, ◌∷◌, ◌++◌, [], ℕ, List, not, take, map, length, replicate, slice_get, slice_index_or, is_some, Option, Some, None, Contains, IsTrue}
use Rattle.std.specs.List.{count_by}
use Rattle.grid_types.specs.declared.layout_change.LoggedUpdate.{LoggedUpdate}
use Rattle.grid_types.specs.declared.shape.Shape.{Shape}
use Rattle.disk_trait.specs.declared.disk.Disk.{Ghosts}
use Rattle.disk_trait.specs.Calls.{IsSynced}
use Rattle.grid_model.specs.Lists.{below, is_among}
use Rattle.grid_model.specs.Layouts.{BucketBox}
use Rattle.grid_model.specs.Lawful.{IsAreaOf}
use Rattle.grid_model.specs.Lone.{opened, how_many, renewed}
use Rattle.grid_model.specs.Roots.{WholeRoot}
use Rattle.history_pages.specs.PageLaws.{IsChange}
use Rattle.page_states.specs.declared.page_state.PageState.{PageState}
use Rattle.page_states.specs.Effects.{free_pages, claim_all, given_back}
use Rattle.page_states.specs.States.{is_claimed, is_free}
use Rattle.file_images.specs.Kept.{LooseHeader, Shut, Kept, used}
use Rattle.file_images.specs.Leads.{Standing, Lineage, updates_in, LeadsAlong, Leads}
use Rattle.file_images.specs.Meets.{Meets, Covers}
use Rattle.layout_pages.specs.Holding.{is_live, named_by}
use Rattle.file_books.specs.Books.{Books}
use Rattle.file_books.specs.Effects.{Publishing, IsPublishable, opened_books, published_books, session_books, swept_books}
use Rattle.file_standing.specs.Files.{IsFile, IsAlone}
use Rattle.file_standing.specs.Steps.{IsWritten, publishing, swept_kept, with_fresh}
use Rattle.file_redo.specs.Redoing.{standing_behind, IsRedoing, settled_kept}

-- a root is found on a file with what is kept there: it leads along a lineage to a standing, it is the only one, its table area is lawful, and it counts as many buckets as the lineage has; it is known what the pages always hold that it names, and of no other page anything; nothing was written; the first half is current, and so many slots of each are used
pub record IsFoundRoot {K : ℕ} (s : Shape) (w : WholeRoot) (first second : ℕ) (k : Kept K) (m : Standing K) (x : Lineage K) : Type 0 where
  pub shape : k.shape ≡ s
  pub root : k.root ≡ w
  pub other : k.other ≡ LooseHeader None
  pub area : IsAreaOf s w.fields w.area
  pub buckets : w.fields.buckets ≡ length x.layout.boxes
  pub known : map is_some k.always ≡ map (is_among (named_by w.area)) (below s.pages)
  pub fresh : k.fresh ≡ replicate s.pages None
  pub half : k.half ≡ 0
  pub next : k.next ≡ Shut
  pub first_used : used k 0 ≡ first
  pub second_used : used k 1 ≡ second
  pub along : LeadsAlong k w m x

-- the books that are opened at a root have redone nothing yet
abbrev pub RedoBegins : ℕ → Type 0
RedoBegins K = (s : Shape) (w : WholeRoot) (first second : ℕ) (k : Kept K) (m : Standing K) (x : Lineage K) → IsFoundRoot s w first second k m x → IsRedoing (opened_books s w first second) k m x [] (updates_in x.taken)

-- while a file is being opened all leads to its standing, whatever fresh pages read as; and of a page that is free or claimed nothing is always known, so that it may be written
pub record RedoLeads (K : ℕ) : Type 0 where
  pub leads : (b : Books) (k : Kept K) (m : Standing K) (x : Lineage K) (done rest : List (LoggedUpdate K)) → IsRedoing b k m x done rest → Leads k m
  pub written : (b : Books) (k : Kept K) (m : Standing K) (x : Lineage K) (done rest : List (LoggedUpdate K)) (fresh : List (Option (List ℕ))) → IsRedoing b k m x done rest → Leads (with_fresh k fresh) m
  pub unkept : (b : Books) (k : Kept K) (m : Standing K) (x : Lineage K) (done rest : List (LoggedUpdate K)) (p : ℕ) (state : PageState) (bytes : List ℕ) → IsRedoing b k m x done rest
      → slice_get b.pages p ≡ Some state → IsTrue (not (is_live state)) → slice_get k.always p ≢ Some (Some bytes)

-- sweeps, claims and what is given back leave what is redone; and a sweep asks for no more
pub record RedoPageSteps (K : ℕ) : Type 0 where
  pub sweep : (b : Books) (k : Kept K) (m : Standing K) (x : Lineage K) (done rest : List (LoggedUpdate K)) → IsRedoing b k m x done rest → IsRedoing (swept_books b) (swept_kept b k) m x done rest
  pub covered : (b : Books) (k : Kept K) → Covers k (swept_kept b k)
  pub claim : (b : Books) (k : Kept K) (m : Standing K) (x : Lineage K) (done rest : List (LoggedUpdate K)) (seat count : ℕ) → IsRedoing b k m x done rest → IsRedoing (record b { pages = claim_all seat (take count (free_pages b.pages)) b.pages }) k m x done rest
  pub giving_back : (b : Books) (k : Kept K) (m : Standing K) (x : Lineage K) (done rest : List (LoggedUpdate K)) (seat : ℕ) → IsRedoing b k m x done rest → IsRedoing (record b { pages = given_back seat b.pages }) k m x done rest

-- the next update is a change of a box, as its note says, over the layout and the table where the redo stands; and after a sweep, where no page is claimed, there are as many free pages as it makes new ones
pub record IsNextChange {K : ℕ} (b : Books) (x : Lineage K) (done : List (LoggedUpdate K)) (u : LoggedUpdate K) (e : ℕ × BucketBox K) : Type 0 where
  pub change : (let at : Standing K = standing_behind b.rooted_at x done in IsChange b.shape at.layout at.table u.update u.note e)
  pub enough : count_by is_claimed b.pages ≡ 0 → how_many (renewed (standing_behind b.rooted_at x done).layout e u.note) ≤ count_by is_free (swept_books b).pages

-- there is a box of which the next update is a change
abbrev pub RedoMayGoOn : ℕ → Type 0
RedoMayGoOn K = (b : Books) (k : Kept K) (m : Standing K) (x : Lineage K) (done rest : List (LoggedUpdate K)) (u : LoggedUpdate K) → IsRedoing b k m x done (u ∷ rest) → (e : ℕ × BucketBox K) × IsNextChange b x done u e

-- fresh pages differ from others at these pages alone
abbrev pub AreSameBut : List ℕ → (old new : List (Option (List ℕ))) → Type 0
AreSameBut pages old new = (p : ℕ) → (Contains pages p → ⊥) → slice_index_or new p None ≡ slice_index_or old p None

-- the next update is redone when its new pages, which were written to claimed pages, are published: its place is the next one
abbrev pub RedoGoesOn : ℕ → Type 0
RedoGoesOn K = (b : Books) (k : Kept K) (m : Standing K) (x : Lineage K) (done rest : List (LoggedUpdate K)) (u : LoggedUpdate K) (e : ℕ × BucketBox K) (pages : List ℕ) (fresh : List (Option (List ℕ)))
    → IsRedoing b k m x done (u ∷ rest) → IsWritten b (standing_behind b.rooted_at x done) e u.update u.note pages fresh → AreSameBut pages k.fresh fresh → length fresh ≡ length k.fresh
    → IsRedoing (published_books b (publishing (standing_behind b.rooted_at x done) e u.update u.note pages)) (with_fresh k fresh) m x (done ++ u ∷ []) rest

-- no page is claimed where books are opened; a sweep leaves as many claimed pages, a claim of free pages adds as many as it takes, and a change that is published takes those away that it has
pub record ClaimsCount (K : ℕ) : Type 0 where
  pub opened : (s : Shape) (w : WholeRoot) (first second : ℕ) → count_by is_claimed (opened_books s w first second).pages ≡ 0
  pub sweep : (b : Books) → count_by is_claimed (swept_books b).pages ≡ count_by is_claimed b.pages
  pub claim : (b : Books) (seat count : ℕ) → count ≤ count_by is_free b.pages → count_by is_claimed (claim_all seat (take count (free_pages b.pages)) b.pages) ≡ count_by is_claimed b.pages + count
  pub published : (b : Books) (x : Publishing K) → IsPublishable b x → count_by is_claimed (published_books b x).pages + length x.pages ≡ count_by is_claimed b.pages

-- when all is redone and on the disk for good, the file of a new session stands where its root led
abbrev pub RedoEnds : ℕ → Type 0
RedoEnds K = (b : Books) (k : Kept K) (m : Standing K) (x : Lineage K) (done : List (LoggedUpdate K)) → IsRedoing b k m x done [] → IsFile (session_books b) (settled_kept k) m

-- a disk that is synced meets all that its data pages read as, for good
abbrev pub SyncSettles : (K : ℕ) {D : Type 0} → Ghosts D → Type 0
SyncSettles K {D} g = (k : Kept K) (d : D) → IsSynced g d → Meets g k d → Meets g (settled_kept k) d

-- a file whose root stands at its front, where none is tried and no slot is used, is that of a lone caller who has just opened it
abbrev pub RootedIsAlone : ℕ → Type 0
RootedIsAlone K = (b : Books) (k : Kept K) (m : Standing K) → IsFile b k m → b.rooted_at ≡ b.front → b.trying_at ≡ None → b.first_used ≡ 0 → b.second_used ≡ 0 → IsAlone b k m (opened m.table m.layout m.place)
