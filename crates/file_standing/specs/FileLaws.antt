-- What is promised of a file's books and of what is kept on it, step by step.
use Rattle.std.specs.Prelude.{◌≡◌, ◌≢◌, ◌<◌, ℕ, List, take, slice_get, Option, Some, None}
use Rattle.std.specs.List.{count_by}
use Rattle.grid_types.specs.declared.layout_change.LayoutChange.{LayoutChange}
use Rattle.grid_types.specs.declared.update.Update.{Update}
use Rattle.grid_model.specs.Layouts.{BucketBox}
use Rattle.grid_model.specs.Lone.{State, root, published, free}
use Rattle.grid_model.specs.Roots.{WholeRoot}
use Rattle.page_states.specs.declared.page_state.PageState.TheVariants.{Claimed}
use Rattle.page_states.specs.Effects.{free_pages, claim_all, given_back}
use Rattle.page_states.specs.States.{is_claimed, is_free}
use Rattle.file_images.specs.Kept.{Kept, ShutHeader, LooseHeader}
use Rattle.file_images.specs.Leads.{Standing, behind, Leads}
use Rattle.file_images.specs.Meets.{Covers}
use Rattle.file_images.specs.Steps.{with_doubt, with_closed, with_tried, with_root, with_loose}
use Rattle.file_books.specs.Books.{Books}
use Rattle.file_books.specs.Effects.{published_books, committed_books, closed_books, turned_books, rooted_books, cleaned_books, swept_books, idle_half, used_of}
use Rattle.file_standing.specs.Files.{IsFile, IsAlone, InSession}
use Rattle.file_standing.specs.Steps.{swept_kept, publishing, batch_of_one, IsWritten, with_fresh, committed_kept, turned_kept, cleaned_kept, IsNextRoot}

-- each root that may be the newest leads to the standing of a file
abbrev pub FilesLead : ℕ → Type 0
FilesLead K = (b : Books) (k : Kept K) (m : Standing K) → IsFile b k m → Leads k m

-- of a claimed page nothing is known, so that it may be written
abbrev pub ClaimedUnkept : ℕ → Type 0
ClaimedUnkept K = (b : Books) (k : Kept K) (m : Standing K) (p seat : ℕ) (bytes : List ℕ) → IsFile b k m → slice_get b.pages p ≡ Some (Claimed seat) → slice_get k.always p ≢ Some (Some bytes)

-- sweeps, claims and what is given back leave a file where it stands, and a lone caller's state as it is; and after a sweep of a file with no claimed page as many pages are free as a lone caller counts
pub record PageStepsStay (K : ℕ) : Type 0 where
  pub sweep : (b : Books) (k : Kept K) (m : Standing K) → IsFile b k m → IsFile (swept_books b) (swept_kept b k) m
  pub covered : (b : Books) (k : Kept K) → Covers k (swept_kept b k)
  pub sweep_alone : (b : Books) (k : Kept K) (m : Standing K) (s : State K) → IsFile b k m → IsAlone b k m s → IsAlone (swept_books b) (swept_kept b k) m s
  pub claim : (b : Books) (k : Kept K) (m : Standing K) (seat count : ℕ) → IsFile b k m → IsFile (record b { pages = claim_all seat (take count (free_pages b.pages)) b.pages }) k m
  pub claim_alone : (b : Books) (k : Kept K) (m : Standing K) (s : State K) (seat count : ℕ) → IsFile b k m → IsAlone b k m s → IsAlone (record b { pages = claim_all seat (take count (free_pages b.pages)) b.pages }) k m s
  pub giving_back : (b : Books) (k : Kept K) (m : Standing K) (seat : ℕ) → IsFile b k m → IsFile (record b { pages = given_back seat b.pages }) k m
  pub giving_back_alone : (b : Books) (k : Kept K) (m : Standing K) (s : State K) (seat : ℕ) → IsFile b k m → IsAlone b k m s → IsAlone (record b { pages = given_back seat b.pages }) k m s
  pub counted : (b : Books) (k : Kept K) (m : Standing K) (s : State K) → IsFile b k m → IsAlone b k m s → count_by is_claimed b.pages ≡ 0 → count_by is_free (swept_books b).pages ≡ free b.shape s

-- a change whose new pages were written, and whose batch may be committed on the next slot: while it is committed, all leads to the standing before it, or behind it; once it is committed and published, the file stands behind it, and a lone caller's state is the one after the update
pub record CommitStands (K : ℕ) : Type 0 where
  pub during : (b : Books) (k : Kept K) (m : Standing K) (e : ℕ × BucketBox K) (u : Update K) (n : LayoutChange) (pages : List ℕ) (fresh : List (Option (List ℕ)))
      → IsFile b k m → InSession b k → IsWritten b m e u n pages fresh → Leads (with_doubt (with_fresh k fresh) (batch_of_one b u n)) m
  pub after : (b : Books) (k : Kept K) (m : Standing K) (e : ℕ × BucketBox K) (u : Update K) (n : LayoutChange) (pages : List ℕ) (fresh : List (Option (List ℕ)))
      → IsFile b k m → InSession b k → IsWritten b m e u n pages fresh → used_of b b.half < b.shape.slots
      → IsFile (committed_books (published_books b (publishing m e u n pages))) (committed_kept b k pages fresh (batch_of_one b u n)) (behind m (batch_of_one b u n))
  pub after_alone : (b : Books) (k : Kept K) (m : Standing K) (s : State K) (e : ℕ × BucketBox K) (u : Update K) (n : LayoutChange) (pages : List ℕ) (fresh : List (Option (List ℕ)))
      → IsFile b k m → InSession b k → IsAlone b k m s → IsWritten b m e u n pages fresh → used_of b b.half < b.shape.slots
      → IsAlone (committed_books (published_books b (publishing m e u n pages))) (committed_kept b k pages fresh (batch_of_one b u n)) (behind m (batch_of_one b u n)) (published e u n s)

-- a root step leaves a file where it stands at each of its points: once the other header page is closed; once the halves' roles are exchanged, where the other one is clear, and likewise where no root is tried; while the next root is tried; once it stands; while the gates of the half that is not current are cleared, which a root of the session of the books has all behind it; and once they are. A lone caller's state is then the one after a root step
pub record RootStepStands (K : ℕ) : Type 0 where
  pub closed : (b : Books) (k : Kept K) (m : Standing K) → IsFile b k m → IsFile (closed_books b) (with_closed k) m
  pub turned : (b : Books) (k : Kept K) (m : Standing K) → k.other ≡ ShutHeader → IsFile b k m → IsFile (turned_books b) (turned_kept b k) m
  pub exchanged : (b : Books) (k : Kept K) (m : Standing K) → b.trying_at ≡ None → IsFile b k m → IsFile (closed_books (turned_books b)) (turned_kept b k) m
  pub tried : (b : Books) (k : Kept K) (m : Standing K) (w : WholeRoot) → k.other ≡ ShutHeader → b.trying_at ≡ Some b.front → IsNextRoot b w → IsFile b k m → IsFile b (with_tried k (Some w)) m
  pub rooted : (b : Books) (k : Kept K) (m : Standing K) (w : WholeRoot) → k.other ≡ ShutHeader → b.trying_at ≡ Some b.front → IsNextRoot b w → IsFile b k m → IsFile (rooted_books b) (with_root k w) m
  pub loosened : (b : Books) (k : Kept K) (m : Standing K) → k.other ≡ LooseHeader None → k.root.fields.front ≡ b.front → k.root.fields.session ≡ b.session → IsFile b k m → IsFile b (with_loose k (idle_half b)) m
  pub cleaned : (b : Books) (k : Kept K) (m : Standing K) → k.other ≡ LooseHeader None → k.root.fields.front ≡ b.front → IsFile b k m → IsFile (cleaned_books b) (cleaned_kept b k) m
  pub alone : (b : Books) (k : Kept K) (m : Standing K) (s : State K) (w : WholeRoot) → IsFile b k m → IsAlone b k m s → IsNextRoot b w
      → (let c : Books = rooted_books (turned_books (closed_books b)) in IsAlone (cleaned_books c) (cleaned_kept c (with_root (turned_kept b (with_closed k)) w)) m (root s))
