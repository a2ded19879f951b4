-- What a table of current pages tells, as the one of a root.
use Rattle.std.specs.Prelude.{◌≡◌, ◌<◌, ℕ, List, Some, None, slice_get, slice_index}
use Rattle.grid_types.specs.declared.owner.Owner.{Owner}
use Rattle.page_states.specs.declared.page_state.PageState.{PageState}
use Rattle.page_states.specs.declared.page_state.PageState.TheVariants.{Live}

-- the table tells of each of the first numbers the current page of the owner of that number, or this number where it has none
pub record TellsPages (owner_of : ℕ → Owner) (nowhere : ℕ) (states : List PageState) (table : List ℕ) (count : ℕ) : Type 0 where
  pub pages : (n p from : ℕ) → n < count → slice_get states p ≡ Some (Live (owner_of n) from None) → slice_index table n ≡ p
  pub others : (n : ℕ) → n < count → ((p from : ℕ) → slice_get states p ≡ Some (Live (owner_of n) from None) → ⊥) → slice_index table n ≡ nowhere
