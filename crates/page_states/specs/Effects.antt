-- What each call makes of the states.
use Rattle.std.specs.Prelude.{◌≡◌, ◌&&◌, ◌<◌, ◌≤◌, ℕ, ◌+◌, Bool, true, false, not, cond, List, [], ◌∷◌, Some, None, fold, map, length, slice_get, slice_set, slice_index}
use Rattle.std.specs.List.{list_any}
use Rattle.grid_types.specs.declared.owner.Owner.{Owner}
use Rattle.page_states.specs.declared.page_state.PageState.{PageState}
use Rattle.page_states.specs.declared.page_state.PageState.TheVariants.{Free, Claimed, Live}
use Rattle.grid_types.specs.Owners.{same_owner}
use Rattle.page_states.specs.States.{is_free, is_claimed_by, is_replaced, is_kept, shows}

-- the numbers of the free pages, ascending, where the first page has this number
abbrev pub free_from : ℕ → List PageState → List ℕ
free_from n [] = []
free_from n (x ∷ xs) = cond (is_free x) (n ∷ free_from (n + 1) xs) (free_from (n + 1) xs)

-- the numbers of the free pages, ascending
abbrev pub free_pages : List PageState → List ℕ
free_pages states = free_from 0 states

-- one page is claimed by the seat
abbrev pub claim_one : ℕ → List PageState → ℕ → List PageState
claim_one seat states p = slice_set states p (Claimed seat)

-- each of these pages is claimed by the seat
abbrev pub claim_all : ℕ → List ℕ → List PageState → List PageState
claim_all seat pages states = fold (claim_one seat) states pages

-- the owner's current page is replaced at a place, and each other page is as it was
abbrev pub with_end : Owner → ℕ → PageState → PageState
with_end owner at Free = Free
with_end owner at (Claimed s) = Claimed s
with_end owner at (Live o from None) = cond (same_owner o owner) (Live o from (Some at)) (Live o from None)
with_end owner at (Live o from (Some to)) = Live o from (Some to)

-- the page is the owner's from the place on
abbrev pub with_current : ℕ → Owner → ℕ → List PageState → List PageState
with_current page owner at states = slice_set states page (Live owner at None)

-- the owner's page of before is replaced, and the page is the owner's from the place on
abbrev pub with_newest : ℕ → Owner → ℕ → List PageState → List PageState
with_newest page owner at states = with_current page owner at (map (with_end owner at) states)

-- a page that passes the test is free, and each other page is as it was
abbrev pub freed : (PageState → Bool) → PageState → PageState
freed test x = cond (test x) Free x

-- a replaced page that is current at none of the places
abbrev pub is_gone : List ℕ → PageState → Bool
is_gone places x = is_replaced x && not (is_kept places x)

-- a replaced page that is current at a root's place and at none of the pins
abbrev pub is_of_roots : List ℕ → List ℕ → PageState → Bool
is_of_roots pins roots x = is_replaced x && (is_kept roots x && not (is_kept pins x))

-- the owner has no page from the place on
abbrev pub vanished : Owner → ℕ → List PageState → List PageState
vanished owner at states = map (with_end owner at) states

-- the pages that the seat has claimed are free
abbrev pub given_back : ℕ → List PageState → List PageState
given_back seat states = map (freed (is_claimed_by seat)) states

-- the replaced pages that are current at none of the places are free
abbrev pub swept : List ℕ → List PageState → List PageState
swept places states = map (freed (is_gone places)) states

-- no page of the list from an index on passes the test
abbrev pub NoneFrom : (PageState → Bool) → List PageState → List ℕ → ℕ → Type 0
NoneFrom test states list at = (j : ℕ) (x : PageState) → at ≤ j → j < length list → slice_get states (slice_index list j) ≡ Some x → test x ≡ false

-- a replaced page is current at a root's place and at none of the pins
abbrev pub HasRootsPage : List ℕ → List ℕ → List PageState → Type 0
HasRootsPage pins roots states = list_any (is_of_roots pins roots) states ≡ true

-- no page of the list is such a page
abbrev pub HasNoneOf : List ℕ → List ℕ → List PageState → List ℕ → Type 0
HasNoneOf pins roots states list = NoneFrom (is_of_roots pins roots) states list 0

-- the page is the owner's at the place
pub record IsPageAt (owner : Owner) (place : ℕ) (states : List PageState) (p : ℕ) : Type 0 where
  pub state : PageState
  pub there : slice_get states p ≡ Some state
  pub shown : shows owner place state ≡ true

-- the page is not the owner's at the place
abbrev pub IsNotShown : Owner → ℕ → List PageState → ℕ → Type 0
IsNotShown owner place states p = (x : PageState) → slice_get states p ≡ Some x → shows owner place x ≡ false

-- no page is the owner's at the place
abbrev pub ShowsNone : Owner → ℕ → List PageState → Type 0
ShowsNone owner place states = (p : ℕ) (x : PageState) → slice_get states p ≡ Some x → shows owner place x ≡ false

-- no replaced page was the owner's at the place
abbrev pub ShowedNone : Owner → ℕ → List PageState → Type 0
ShowedNone owner place states = (p : ℕ) (x : PageState) → slice_get states p ≡ Some x → is_replaced x ≡ true → shows owner place x ≡ false

-- a page is claimed by some seat
abbrev pub IsClaimed : List PageState → ℕ → Type 0
IsClaimed states p = (seat : ℕ) × (slice_get states p ≡ Some (Claimed seat))

-- a page is the owner's current one, since this place
abbrev pub IsCurrentFrom : Owner → List PageState → ℕ → ℕ → Type 0
IsCurrentFrom owner states p from = slice_get states p ≡ Some (Live owner from None)

-- the owner has no current page
abbrev pub HasNoPage : Owner → List PageState → Type 0
HasNoPage owner states = (p from : ℕ) → IsCurrentFrom owner states p from → ⊥

-- the owner's current page, if it has one, began beyond the place
abbrev pub BeganBeyond : Owner → ℕ → List PageState → Type 0
BeganBeyond owner place states = (p from : ℕ) → IsCurrentFrom owner states p from → place < from
