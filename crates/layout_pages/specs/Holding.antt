-- Which data pages hold a layout and its table: those that are current at the front.
use Rattle.std.specs.Prelude.{◌≡◌, ℕ, Bool, true, false, List, [], ◌++◌, map, slice_get, slice_index_or, Option, Some, None, is_some, Contains}
use Rattle.std.specs.Option.{unwrap_or}
use Rattle.grid_model.specs.Tables.{Table}
use Rattle.grid_model.specs.Layouts.{Layout}
use Rattle.grid_model.specs.Lawful.{Area, pages_named}
use Rattle.history_pages.specs.OwnerPages.{owner_page}
use Rattle.page_states.specs.declared.page_state.PageState.{PageState}
use Rattle.page_states.specs.declared.page_state.PageState.TheVariants.{Free, Claimed, Live}
use Rattle.page_states.specs.States.{is_current_at}
use Rattle.page_states.specs.Laws.{Serves, Settled}

-- a page is some owner's, now or at an earlier place
abbrev pub is_live : PageState → Bool
is_live Free = false
is_live (Claimed s) = false
is_live (Live o from to) = true

-- the bytes that a data page always holds, where they are known
abbrev pub bytes_in : List (Option (List ℕ)) → ℕ → List ℕ
bytes_in always p = unwrap_or (slice_index_or always p None) []

-- data pages hold a layout over a table at the front: it is known of the live ones, and of no others, what they always hold; none began or ended beyond the front; and each owner has one page there, which holds its bytes
pub record HoldLayout {K : ℕ} (states : List PageState) (always : List (Option (List ℕ))) (front : ℕ) (L : Layout K) (t : Table) : Type 0 where
  pub known : map is_some always ≡ map is_live states
  pub settled : Settled front states
  pub served : Serves (owner_page L t) (bytes_in always) front states

-- the data pages that a table area names
abbrev pub named_by : Area → List ℕ
named_by a = a.parts ++ pages_named a.table

-- a page is current at a place
pub record IsCurrentAt (place : ℕ) (states : List PageState) (p : ℕ) : Type 0 where
  pub state : PageState
  pub there : slice_get states p ≡ Some state
  pub current : is_current_at place state ≡ true

-- each data page that a table area names is current at a place
abbrev pub NamesCurrent : ℕ → List PageState → Area → Type 0
NamesCurrent place states a = (p : ℕ) → Contains (named_by a) p → IsCurrentAt place states p
