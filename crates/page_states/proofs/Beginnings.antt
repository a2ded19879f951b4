-- A free page that becomes an owner's, as a root says it of a file that is opened.
use Rattle.std.proofs.Common.{◌≡◌, ℕ, zero, suc, List, [], ◌∷◌, Some, None, refl, ◌∙◌, ap, subst, map}
use Rattle.std.specs.Prelude.{slice_get, slice_set}
use Rattle.std.proofs.lemmas.List.{map-set}
use Rattle.std.proofs.lemmas.Option.{slice_get_within}
use Rattle.grid_types.specs.declared.owner.Owner.{Owner}
use Rattle.page_states.specs.declared.page_state.PageState.{PageState}
use Rattle.page_states.specs.declared.page_state.PageState.TheVariants.{Free, Claimed, Live}
use Rattle.page_states.specs.Effects.{claim_one, with_end, with_newest}
use Rattle.page_states.specs.Laws.{Serves, BeginningServes}
use Rattle.page_states.proofs.ClaimedPages.{free_claim_keeps}
use Rattle.page_states.proofs.Lists.{get_set_same}
use Rattle.page_states.proofs.ServedPlaces.{publication_serves}
use Rattle.page_states.proofs.SettledPlaces.{claim_settles}

set_twice : {X : Type 0} (xs : List X) (p : ℕ) (x y : X) → slice_set (slice_set xs p x) p y ≡ slice_set xs p y
set_twice [] p x y = refl
set_twice (z ∷ xs) zero x y = refl
set_twice (z ∷ xs) (suc p) x y = ap (λ ys. z ∷ ys) (set_twice xs p x y)

-- a page that was claimed first is published all the same
pub claimed_first : (page seat at : ℕ) (owner : Owner) (states : List PageState) → with_newest page owner at (claim_one seat states page) ≡ with_newest page owner at states
claimed_first page seat at owner states =
    ap (λ xs. slice_set xs page (Live owner at None)) (map-set (with_end owner at) states page (Claimed seat))
    ∙ set_twice (map (with_end owner at) states) page (Claimed seat) (Live owner at None)

pub beginning_serves : BeginningServes
beginning_serves content bytes page at owner states free settled served =
    let claimed : slice_get (claim_one 0 states page) page ≡ Some (Claimed 0) = get_set_same states page (Claimed 0) (slice_get_within states page Free free) in
    subst (Serves _ bytes at) (claimed_first page 0 at owner states)
    (publication_serves content bytes page 0 at owner (claim_one 0 states page) claimed (claim_settles 0 at (page ∷ []) states settled) (free_claim_keeps 0 page at states free content bytes served))
