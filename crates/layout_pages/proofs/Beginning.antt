-- Free pages begin to be owners', one after the other.
use Rattle.std.proofs.Common.{◌≡◌, ◌<◌, ℕ, zero, suc, true, List, [], ◌∷◌, map, replicate, Option, Some, None, refl, sym, ap, subst, ◌∙◌, arith, true≢false}
use Rattle.std.specs.Prelude.{slice_get, slice_set}
use Rattle.std.specs.Option.{option_map}
use Rattle.std.proofs.lemmas.List.{map-set, set-set}
use Rattle.std.proofs.lemmas.Option.{slice_get-map, slice_get_within}
use Rattle.grid_types.specs.declared.owner.Owner.{Owner}
use Rattle.grid_model.specs.Lists.{is_among, AreDistinct}
use Rattle.page_states.specs.declared.page_state.PageState.{PageState}
use Rattle.page_states.specs.declared.page_state.PageState.TheVariants.{Free, Claimed, Live}
use Rattle.page_states.specs.Changes.{Publication, pages_of, all_published, with_pages}
use Rattle.page_states.specs.Effects.{claim_one, with_end, with_newest}
use Rattle.page_states.specs.Laws.{Serves, Settled, with_content, BeginningServes}
use Rattle.page_states.proofs.ClaimedPages.{free_claim_keeps}
use Rattle.page_states.proofs.Lists.{get_set_same, get_set_other}
use Rattle.page_states.proofs.ServedPlaces.{publication_serves}
use Rattle.page_states.proofs.SettledPlaces.{claim_settles, publication_settles}
use Rattle.layout_pages.proofs.Among.{one-among, later-among}
use Rattle.layout_pages.proofs.Distinct.{first-once, rest-once}

-- each of these pages is free, and none is there twice
pub record AreFree (pages : List ℕ) (states : List PageState) : Type 0 where
  pub free : (q : ℕ) → is_among pages q ≡ true → slice_get states q ≡ Some Free
  pub distinct : AreDistinct pages

-- a page that is claimed first is published all the same
claimed-first : (page at : ℕ) (owner : Owner) (states : List PageState) → with_newest page owner at (claim_one 0 states page) ≡ with_newest page owner at states
claimed-first page at owner states =
    ap (λ (xs : List PageState). slice_set xs page (Live owner at None)) (map-set (with_end owner at) states page (Claimed 0)) ∙ set-set (map (with_end owner at) states) page (Claimed 0) (Live owner at None)

-- so a free page serves its owner as a claimed one does
begin-serves : BeginningServes
begin-serves content bytes page at owner states free settled served =
    let claimed : slice_get (claim_one 0 states page) page ≡ Some (Claimed 0) = get_set_same states page (Claimed 0) (slice_get_within states page Free free) in
    subst (Serves (with_content content owner (Some (bytes page))) bytes at) (claimed-first page at owner states)
    (publication_serves content bytes page 0 at owner (claim_one 0 states page) claimed (claim_settles 0 at (page ∷ []) states settled) (free_claim_keeps 0 page at states free content bytes served))

-- so many free pages have each a free page
pub free-there : (n p : ℕ) → p < n → slice_get (replicate n Free) p ≡ Some Free
free-there zero p low = absurd (omega (arith, low))
free-there (suc n) zero low = refl
free-there (suc n) (suc p) low = free-there n p (omega (arith, low))

-- the pages that are left are free still
others : (p at : ℕ) (owner : Owner) (ps : List ℕ) (states : List PageState) → AreFree (p ∷ ps) states → AreFree ps (with_newest p owner at states)
others p at owner ps states ok = record {
  free = λ q a.
      get_set_other (map (with_end owner at) states) p q (Live owner at None) (λ e. true≢false (sym a ∙ ap (is_among ps) e ∙ first-once p ps ok.distinct))
      ∙ slice_get-map (with_end owner at) states q ∙ ap (option_map (with_end owner at)) (ok.free q (later-among p q ps a));
  distinct = rest-once p ps ok.distinct;
}

-- each owner of a publication is served with what its page has, and each other one as before
pub beginnings-serve : (content : Owner → Option (List ℕ)) (bytes : ℕ → List ℕ) (at : ℕ) (xs : List Publication) (states : List PageState) → AreFree (pages_of xs) states → Settled at states → Serves content bytes at states
    → Serves (with_pages content bytes xs) bytes at (all_published at xs states)
beginnings-serve content bytes at [] states ok settled served = served
beginnings-serve content bytes at (x ∷ xs) states ok settled served =
    beginnings-serve (with_content content x.owner (Some (bytes x.page))) bytes at xs (with_newest x.page x.owner at states) (others x.page at x.owner (pages_of xs) states ok)
    (publication_settles x.page at at x.owner states (omega arith) settled)
    (begin-serves content bytes x.page at x.owner states (ok.free x.page (one-among x.page (pages_of xs))) settled served)
