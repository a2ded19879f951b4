-- What the calls keep: at each kept place each owner has one current page, and pages are counted.
use Rattle.std.specs.Prelude.{◌≡◌, ◌&&◌, ◌<◌, ◌≤◌, ◌+◌, ℕ, Bool, true, cond, is_some, List, [], ◌∷◌, Option, Some, None, map, take, replicate, length, slice_get, slice_index, Contains}
use Rattle.std.specs.List.{count_by}
use Rattle.grid_types.specs.declared.owner.Owner.{Owner}
use Rattle.page_states.specs.declared.page_state.PageState.{PageState}
use Rattle.page_states.specs.declared.page_state.PageState.TheVariants.{Free, Claimed, Live}
use Rattle.page_states.specs.Counts.{once}
use Rattle.grid_types.specs.Owners.{same_owner}
use Rattle.page_states.specs.States.{is_free, is_claimed, is_current, is_replaced, is_current_at, shows}
use Rattle.page_states.specs.Effects.{free_pages, claim_all, with_newest, vanished, given_back, swept, freed}

-- at a place each owner that exists has exactly one page current there, which has its content, and no other owner has one
pub record Serves (content : Owner → Option (List ℕ)) (bytes : ℕ → List ℕ) (place : ℕ) (states : List PageState) : Type 0 where
  pub one : (o : Owner) → count_by (shows o place) states ≡ once is_some (content o)
  pub spelled : (p : ℕ) (o : Owner) (x : PageState) → slice_get states p ≡ Some x → shows o place x ≡ true → content o ≡ Some (bytes p)

-- what is served at a place is served there after the change of the states
abbrev pub Keeps : ℕ → List PageState → List PageState → Type 0
Keeps place old new = (content : Owner → Option (List ℕ)) (bytes : ℕ → List ℕ) → Serves content bytes place old → Serves content bytes place new

-- a publication keeps each place before its own
abbrev pub PublicationKeeps : Type 0
PublicationKeeps = (page seat at place : ℕ) (owner : Owner) (states : List PageState) → place < at → slice_get states page ≡ Some (Claimed seat) → Keeps place states (with_newest page owner at states)

-- so does an owner that vanishes
abbrev pub VanishingKeeps : Type 0
VanishingKeeps = (at place : ℕ) (owner : Owner) (states : List PageState) → place < at → Keeps place states (vanished owner at states)

-- a sweep keeps each of its places
abbrev pub SweepKeeps : Type 0
SweepKeeps = (places : List ℕ) (place : ℕ) (states : List PageState) → Contains places place → Keeps place states (swept places states)

-- pages that are given back keep each place
abbrev pub GivingBackKeeps : Type 0
GivingBackKeeps = (seat place : ℕ) (states : List PageState) → Keeps place states (given_back seat states)

-- a claim keeps each place
abbrev pub ClaimKeeps : Type 0
ClaimKeeps = (seat count place : ℕ) (states : List PageState)
    → Keeps place states (claim_all seat (take count (free_pages states)) states)

-- each page that a claim gives is the seat's
abbrev pub ClaimedPagesAreTheSeats : Type 0
ClaimedPagesAreTheSeats = (seat count i : ℕ) (pages : List ℕ) (states : List PageState) → pages ≡ take count (free_pages states) → i < length pages
    → slice_get (claim_all seat pages states) (slice_index pages i) ≡ Some (Claimed seat)

-- each page is free, claimed, current or replaced
abbrev pub PagesAreCounted : Type 0
PagesAreCounted = (states : List PageState) → count_by is_free states + count_by is_current states + count_by is_replaced states + count_by is_claimed states ≡ length states

-- a replaced page that the root's place keeps
abbrev pub is_of_root : ℕ → PageState → Bool
is_of_root root x = is_replaced x && is_current_at root x

-- after a sweep with the root's place alone, each page is free, current, claimed, or only the root's
abbrev pub SweepLeavesTheRoot : Type 0
SweepLeavesTheRoot = (root : ℕ) (states : List PageState)
    → count_by is_free (swept (root ∷ []) states) + count_by is_current states + count_by (is_of_root root) states + count_by is_claimed states ≡ length states

-- no page began or ended beyond the front
pub record Settled (front : ℕ) (states : List PageState) : Type 0 where
  pub began : (p : ℕ) (o : Owner) (from : ℕ) → slice_get states p ≡ Some (Live o from None) → from ≤ front
  pub ended_by : (p : ℕ) (o : Owner) (from to : ℕ) → slice_get states p ≡ Some (Live o from (Some to)) → to ≤ front

-- another content of one owner
abbrev pub with_content : (Owner → Option (List ℕ)) → Owner → Option (List ℕ) → Owner → Option (List ℕ)
with_content content owner c o = cond (same_owner o owner) c (content o)

-- what is served at the front is served at a place beyond it
abbrev pub FrontServes : Type 0
FrontServes = (content : Owner → Option (List ℕ)) (bytes : ℕ → List ℕ) (front at : ℕ) (states : List PageState) → front ≤ at → Settled front states → Serves content bytes front states → Serves content bytes at states

-- a publication serves its owner at its place with what the page has, and each other owner as before
abbrev pub PublicationServes : Type 0
PublicationServes = (content : Owner → Option (List ℕ)) (bytes : ℕ → List ℕ) (page seat at : ℕ) (owner : Owner) (states : List PageState) → slice_get states page ≡ Some (Claimed seat) → Settled at states
    → Serves content bytes at states → Serves (with_content content owner (Some (bytes page))) bytes at (with_newest page owner at states)

-- so does a free page that begins to be an owner's, as one that a root names when its file is opened
abbrev pub BeginningServes : Type 0
BeginningServes = (content : Owner → Option (List ℕ)) (bytes : ℕ → List ℕ) (page at : ℕ) (owner : Owner) (states : List PageState) → slice_get states page ≡ Some Free → Settled at states
    → Serves content bytes at states → Serves (with_content content owner (Some (bytes page))) bytes at (with_newest page owner at states)

-- an owner that vanishes is served no more from its place on, and each other owner as before
abbrev pub VanishingServes : Type 0
VanishingServes = (content : Owner → Option (List ℕ)) (bytes : ℕ → List ℕ) (at : ℕ) (owner : Owner) (states : List PageState) → Settled at states → Serves content bytes at states
    → Serves (with_content content owner None) bytes at (vanished owner at states)

-- where all pages are free, no owner is served at any place
abbrev pub StartServes : Type 0
StartServes = (bytes : ℕ → List ℕ) (pages place : ℕ) → Serves (λ o. None) bytes place (replicate pages Free)

-- where all pages are free, none began or ended beyond any front
abbrev pub StartSettles : Type 0
StartSettles = (pages front : ℕ) → Settled front (replicate pages Free)

-- after a publication at the front or beyond it, that is the front
abbrev pub PublicationSettles : Type 0
PublicationSettles = (page front at : ℕ) (owner : Owner) (states : List PageState) → front ≤ at → Settled front states → Settled at (with_newest page owner at states)

-- so it is after an owner vanishes
abbrev pub VanishingSettles : Type 0
VanishingSettles = (front at : ℕ) (owner : Owner) (states : List PageState) → front ≤ at → Settled front states → Settled at (vanished owner at states)

-- pages that become free, whichever they are, leave the front where it is
abbrev pub FreeingSettles : Type 0
FreeingSettles = (test : PageState → Bool) (front : ℕ) (states : List PageState) → Settled front states → Settled front (map (freed test) states)

-- a claim leaves the front where it is
abbrev pub ClaimSettles : Type 0
ClaimSettles = (seat front : ℕ) (pages : List ℕ) (states : List PageState) → Settled front states → Settled front (claim_all seat pages states)

-- where each owner that exists is listed once, there are as many current pages as owners
abbrev pub CurrentPagesAreOwners : Type 0
CurrentPagesAreOwners = (content : Owner → Option (List ℕ)) (bytes : ℕ → List ℕ) (front : ℕ) (states : List PageState) (owners : List Owner) → Settled front states → Serves content bytes front states
    → ((o : Owner) → count_by (same_owner o) owners ≡ once is_some (content o)) → count_by is_current states ≡ length owners

-- where each owner that exists is listed once, and the root's place alone is kept: the free pages, one for each owner, those that the root alone keeps, and the claimed ones are all pages
abbrev pub FreePagesAreCounted : Type 0
FreePagesAreCounted = (content : Owner → Option (List ℕ)) (bytes : ℕ → List ℕ) (front root : ℕ) (states : List PageState) (owners : List Owner) → Settled front states → Serves content bytes front states
    → ((o : Owner) → count_by (same_owner o) owners ≡ once is_some (content o))
    → count_by is_free (swept (root ∷ []) states) + length owners + count_by (is_of_root root) states + count_by is_claimed states ≡ length states

-- no call changes how many pages there are
pub record PagesStay : Type 0 where
  pub publication : (page at : ℕ) (owner : Owner) (states : List PageState) → length (with_newest page owner at states) ≡ length states
  pub vanishing : (at : ℕ) (owner : Owner) (states : List PageState) → length (vanished owner at states) ≡ length states
  pub claim : (seat : ℕ) (pages : List ℕ) (states : List PageState) → length (claim_all seat pages states) ≡ length states
  pub freeing : (test : PageState → Bool) (states : List PageState) → length (map (freed test) states) ≡ length states
