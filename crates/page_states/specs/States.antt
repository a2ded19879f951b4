-- What the state of a page says.
use Rattle.std.specs.Prelude.{◌==◌, ◌&&◌, ℕ, ◌+◌, ◌*◌, Bool, true, false, nat_le, nat_lt, List, Some, None}
use Rattle.std.specs.List.{list_any}
use Rattle.grid_types.specs.declared.owner.Owner.{Owner}
use Rattle.grid_types.specs.declared.owner.Owner.TheVariants.{Bucket, Part}
use Rattle.grid_types.specs.Owners.{same_owner}
use Rattle.page_states.specs.declared.page_state.PageState.{PageState}
use Rattle.page_states.specs.declared.page_state.PageState.TheVariants.{Free, Claimed, Live}

-- the number of a bucket or of a part
abbrev pub number_of : Owner → ℕ
number_of (Bucket n) = n
number_of (Part n) = n

-- each owner has a slot of its own
abbrev pub slot : Owner → ℕ
slot (Bucket n) = 2 * n
slot (Part n) = 2 * n + 1

-- a page that has nothing
abbrev pub is_free : PageState → Bool
is_free Free = true
is_free (Claimed s) = false
is_free (Live o from to) = false

-- a page that a seat has claimed
abbrev pub is_claimed : PageState → Bool
is_claimed Free = false
is_claimed (Claimed s) = true
is_claimed (Live o from to) = false

-- a page that this seat has claimed
abbrev pub is_claimed_by : ℕ → PageState → Bool
is_claimed_by seat Free = false
is_claimed_by seat (Claimed s) = s == seat
is_claimed_by seat (Live o from to) = false

-- a page that is its owner's page now
abbrev pub is_current : PageState → Bool
is_current Free = false
is_current (Claimed s) = false
is_current (Live o from None) = true
is_current (Live o from (Some to)) = false

-- a page that was its owner's, and was replaced
abbrev pub is_replaced : PageState → Bool
is_replaced Free = false
is_replaced (Claimed s) = false
is_replaced (Live o from None) = false
is_replaced (Live o from (Some to)) = true

-- a page is current at a place from where it began on, and before the one where it was replaced
abbrev pub is_current_at : ℕ → PageState → Bool
is_current_at place Free = false
is_current_at place (Claimed s) = false
is_current_at place (Live o from None) = nat_le from place
is_current_at place (Live o from (Some to)) = nat_le from place && nat_lt place to

-- a page is the owner's at a place
abbrev pub shows : Owner → ℕ → PageState → Bool
shows owner place Free = false
shows owner place (Claimed s) = false
shows owner place (Live o from to) = same_owner o owner && is_current_at place (Live o from to)

-- a page is kept by places where it is current at one of them
abbrev pub is_kept : List ℕ → PageState → Bool
is_kept places x = list_any (λ place. is_current_at place x) places
