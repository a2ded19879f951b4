-- A whole change: pages that are published, and owners that vanish, at one place.
use Rattle.std.specs.Prelude.{◌≢◌, ◌<◌, ◌≤◌, ℕ, List, [], ◌∷◌, Option, Some, None, length, slice_index}
use Rattle.grid_types.specs.declared.owner.Owner.{Owner}
use Rattle.page_states.specs.declared.page_state.PageState.{PageState}
use Rattle.page_states.specs.Effects.{with_newest, vanished, IsClaimed}
use Rattle.page_states.specs.Laws.{Serves, Settled, Keeps, with_content}

-- a page that is published for an owner
pub record Publication : Type 0 where
  pub page : ℕ
  pub owner : Owner

-- the pages of publications
abbrev pub pages_of : List Publication → List ℕ
pages_of [] = []
pages_of (x ∷ xs) = x.page ∷ pages_of xs

-- one publication after the other, at one place
abbrev pub all_published : ℕ → List Publication → List PageState → List PageState
all_published at [] states = states
all_published at (x ∷ xs) states = all_published at xs (with_newest x.page x.owner at states)

-- one owner after the other vanishes, at one place
abbrev pub all_vanished : ℕ → List Owner → List PageState → List PageState
all_vanished at [] states = states
all_vanished at (o ∷ os) states = all_vanished at os (vanished o at states)

-- the states after a change
abbrev pub changed : ℕ → List Publication → List Owner → List PageState → List PageState
changed at xs os states = all_vanished at os (all_published at xs states)

-- a content in which each owner of a publication has what its page has
abbrev pub with_pages : (Owner → Option (List ℕ)) → (ℕ → List ℕ) → List Publication → Owner → Option (List ℕ)
with_pages content bytes [] = content
with_pages content bytes (x ∷ xs) = with_pages (with_content content x.owner (Some (bytes x.page))) bytes xs

-- a content in which these owners have nothing
abbrev pub without_owners : (Owner → Option (List ℕ)) → List Owner → Owner → Option (List ℕ)
without_owners content [] = content
without_owners content (o ∷ os) = without_owners (with_content content o None) os

-- each of these pages is claimed, and none is there twice
pub record ArePublishable (pages : List ℕ) (states : List PageState) : Type 0 where
  pub claimed : (i : ℕ) → i < length pages → IsClaimed states (slice_index pages i)
  pub distinct : (i j : ℕ) → i < j → j < length pages → slice_index pages j ≢ slice_index pages i

-- a change keeps each place before its own
abbrev pub ChangeKeeps : Type 0
ChangeKeeps = (place at : ℕ) (xs : List Publication) (os : List Owner) (states : List PageState) → place < at → ArePublishable (pages_of xs) states → Keeps place states (changed at xs os states)

-- at its own place a change serves each owner of a publication with what its page has, those that vanish with nothing, and each other owner as at the front before
abbrev pub ChangeServes : Type 0
ChangeServes = (content : Owner → Option (List ℕ)) (bytes : ℕ → List ℕ) (front at : ℕ) (xs : List Publication) (os : List Owner) (states : List PageState) → front ≤ at → ArePublishable (pages_of xs) states
    → Settled front states → Serves content bytes front states → Serves (without_owners (with_pages content bytes xs) os) bytes at (changed at xs os states)

-- after a change at the front or beyond it, that is the front
abbrev pub ChangeSettles : Type 0
ChangeSettles = (front at : ℕ) (xs : List Publication) (os : List Owner) (states : List PageState) → front ≤ at → Settled front states → Settled at (changed at xs os states)
