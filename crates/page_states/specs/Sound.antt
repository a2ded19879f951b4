-- What the hidden lists say of the states.
use Rattle.std.specs.Prelude.{◌≡◌, ◌≤◌, ◌<◌, ◌*◌, ◌+◌, ◌/◌, ◌++◌, ℕ, Bool, true, false, List, Option, Some, None, IfSome, Contains, length, slice_get, slice_set, slice_index, min}
use Rattle.std.specs.List.{count_by, swap_remove}
use Rattle.grid_types.specs.declared.owner.Owner.{Owner}
use Rattle.grid_types.specs.declared.sizes.TheConstants.{MOST_PAGES}
use Rattle.page_states.specs.declared.page_state.PageState.{PageState}
use Rattle.page_states.specs.declared.page_state.PageState.TheVariants.{Free, Live}
use Rattle.page_states.specs.Counts.{times, IsListOf}
use Rattle.page_states.specs.States.{is_free, is_claimed, is_replaced, is_current_at, shows, slot}
use Rattle.page_states.specs.Effects.{IsPageAt, NoneFrom}

-- no free page of a block of 256 pages lies before the block's hint
abbrev pub AreHints : List PageState → List ℕ → Type 0
AreHints states hints = (p : ℕ) → slice_get states p ≡ Some Free → slice_index hints (p / 256) ≤ p

-- no page is free from one number up to another one
abbrev pub NoFreeIn : List PageState → ℕ → ℕ → Type 0
NoFreeIn states from end = (q : ℕ) → from ≤ q → q < end → slice_get states q ≡ Some Free → ⊥

-- no page is free
abbrev pub NoFree : List PageState → Type 0
NoFree states = (q : ℕ) → slice_get states q ≡ Some Free → ⊥

-- a page is free, and its number lies from one number up to another one
abbrev pub IsFreeIn : List PageState → ℕ → ℕ → ℕ → Type 0
IsFreeIn states from end p = (slice_get states p ≡ Some Free) × (from ≤ p) × (p < end)

-- the hint of a page's block is lowered to the page
abbrev pub lowered : List ℕ → ℕ → List ℕ
lowered hints page = slice_set hints (page / 256) (min (slice_index hints (page / 256)) page)

-- a list of numbers in no order without the one at an index
abbrev pub without_index : List ℕ → ℕ → List ℕ
without_index list at = swap_remove list at (slice_index list at)

-- there is a page of the number
abbrev pub HasPageAt : List PageState → ℕ → Type 0
HasPageAt states p = (x : PageState) × (slice_get states p ≡ Some x)

-- the free page of the least number
pub record IsLeastFree (states : List PageState) (p : ℕ) : Type 0 where
  pub free : slice_get states p ≡ Some Free
  pub least : (q : ℕ) → q < p → slice_get states q ≡ Some Free → ⊥

-- the newest page of each owner is written down at its slot
abbrev pub AreNewest : List PageState → List (Option ℕ) → Type 0
AreNewest states newest = (p : ℕ) (o : Owner) (from : ℕ) → slice_get states p ≡ Some (Live o from None) → slice_get newest (slot o) ≡ Some (Some p)

-- a page is held by an anchor: it has a place, and the page is current there
abbrev pub is_held : Option ℕ → PageState → Bool
is_held None x = false
is_held (Some place) x = is_current_at place x

-- each page of the list is held by the anchor
abbrev pub AreHeld : Option ℕ → List ℕ → List PageState → Type 0
AreHeld anchor list states = (p : ℕ) (x : PageState) → 0 < times p list → slice_get states p ≡ Some x → is_held anchor x ≡ true

-- each page of the list is written down at its owner's slot
abbrev pub AreAtSlots : List (Option ℕ) → List ℕ → List PageState → Type 0
AreAtSlots by_owner list states = (p : ℕ) (o : Owner) (from : ℕ) (to : Option ℕ) → 0 < times p list → slice_get states p ≡ Some (Live o from to) → slice_get by_owner (slot o) ≡ Some (Some p)

-- there is a slot for the owner, and no page but this one is written down there that is the owner's at the place
pub record HasRoomFor (owner : Owner) (place : ℕ) (states : List PageState) (by_owner : List (Option ℕ)) (p : ℕ) : Type 0 where
  pub within : slot owner < length by_owner
  pub alone : (q : ℕ) → slice_get by_owner (slot owner) ≡ Some (Some q) → IsPageAt owner place states q → q ≡ p

-- the page is the owner's at the place, and can be written down at its slot
pub record CanHold (owner : Owner) (place : ℕ) (states : List PageState) (by_owner : List (Option ℕ)) (p : ℕ) : Type 0 where
  pub shown : IsPageAt owner place states p
  pub room : HasRoomFor owner place states by_owner p

-- no page of the list is the owner's at the place
abbrev pub ShowedNoneOf : Owner → ℕ → List PageState → List ℕ → Type 0
ShowedNoneOf owner place states list = NoneFrom (shows owner place) states list 0

-- where the anchor has a place, it is one of these
abbrev pub IsAnchorAmong : List ℕ → Option ℕ → Type 0
IsAnchorAmong places anchor = IfSome anchor (λ place. Contains places place)

-- each page of the list is replaced
abbrev pub AreListedReplaced : List PageState → List ℕ → Type 0
AreListedReplaced states list = (j : ℕ) (x : PageState) → j < length list → slice_get states (slice_index list j) ≡ Some x → is_replaced x ≡ true

-- no block of 256 pages before this one has a free page
abbrev pub IsLowest : List PageState → ℕ → Type 0
IsLowest states low = (p : ℕ) → slice_get states p ≡ Some Free → low ≤ p / 256

-- the hidden lists are those of the states: the replaced pages are the anchored ones and the loose ones, each once
pub record Sound (states : List PageState) (newest : List (Option ℕ)) (claimed anchored loose hints : List ℕ) (low free : ℕ) : Type 0 where
  pub few : length states ≤ MOST_PAGES
  pub slots : length newest ≡ 2 * length states
  pub blocks : length hints ≡ length states / 256 + 1
  pub current : AreNewest states newest
  pub claims : IsListOf is_claimed claimed states
  pub olds : IsListOf is_replaced (anchored ++ loose) states
  pub counted : free ≡ count_by is_free states
  pub hinted : AreHints states hints
  pub lowest : IsLowest states low
