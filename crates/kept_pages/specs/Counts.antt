-- How many pages a root keeps that are no longer current, and whose page is still the root's: a lone caller's count, over the states of data pages.
use Rattle.std.specs.Prelude.{◌≡◌, ◌&&◌, ℕ, Bool, List}
use Rattle.std.specs.List.{count_by, list_any}
use Rattle.grid_types.specs.declared.owner.Owner.{Owner}
use Rattle.grid_model.specs.Lists.{AreDistinct}
use Rattle.grid_model.specs.Lone.{State}
use Rattle.history_pages.specs.OwnerPages.{has_owner}
use Rattle.page_states.specs.declared.page_state.PageState.{PageState}
use Rattle.page_states.specs.States.{is_current_at, shows}
use Rattle.page_states.specs.Laws.{is_of_root}

-- a page is the owner's at the front, and was current at a root's place
abbrev pub is_still : Owner → ℕ → ℕ → PageState → Bool
is_still o front root x = shows o front x && is_current_at root x

-- a lone caller's state counts the pages of a root: rooted are the owners whose page was current at the root's place, each once; and as many pages are kept as were current there and were replaced
pub record CountsRoot {K : ℕ} (states : List PageState) (front root : ℕ) (s : State K) : Type 0 where
  pub rooted : (o : Owner) → has_owner s.rooted o ≡ list_any (is_still o front root) states
  pub buckets : AreDistinct s.rooted.buckets
  pub parts : AreDistinct s.rooted.parts
  pub kept : s.kept ≡ count_by (is_of_root root) states
