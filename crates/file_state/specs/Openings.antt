-- What the opening of a file asks of the pages that a root names.
use Rattle.std.specs.Prelude.{◌≡◌, ◌≢◌, ◌<◌, ◌==◌, ℕ, Bool, not, List, Some, length, slice_get, slice_index, IsTrue}
use Rattle.grid_model.specs.Lawful.{nowhere}
use Rattle.page_states.specs.declared.page_state.PageState.{PageState}
use Rattle.page_states.specs.declared.page_state.PageState.TheVariants.{Free}

-- a table has a page for this number
abbrev pub is_named : List ℕ → ℕ → Bool
is_named table n = not (slice_index table n == nowhere)

-- where a table has a page for this number and not nowhere, it is free, and no later number has the same one
pub record AreBeginnable (pages : List ℕ) (states : List PageState) : Type 0 where
  pub free : (i : ℕ) → i < length pages → IsTrue (is_named pages i) → slice_get states (slice_index pages i) ≡ Some Free
  pub distinct : (i j : ℕ) → i < j → j < length pages → IsTrue (is_named pages j) → slice_index pages j ≢ slice_index pages i

-- a page is none of these
abbrev pub IsNoneOf : List ℕ → ℕ → Type 0
IsNoneOf pages q = (i : ℕ) → i < length pages → slice_index pages i ≢ q

-- pages that are free, and none of these, are free still
abbrev pub OthersStayFree : List ℕ → (old new : List PageState) → Type 0
OthersStayFree pages old new = (q : ℕ) → IsNoneOf pages q → slice_get old q ≡ Some Free → slice_get new q ≡ Some Free
