-- Which pages are live, and what is known of them.
use Rattle.std.proofs.Common.{◌≡◌, ℕ, Bool, true, false, cond, List, [], ◌∷◌, map, Option, Some, None, is_some, refl, sym, ap, ◌∙◌, true≢false}
use Rattle.std.specs.Prelude.{slice_get, slice_set, option_map}
use Rattle.std.specs.Option.{unwrap_or}
use Rattle.std.proofs.lemmas.List.{map-set}
use Rattle.std.proofs.lemmas.Option.{slice_get-map, get_or_from_slice_get, unwrap_or-slice_get, same_Some}
use Rattle.grid_types.specs.declared.owner.Owner.{Owner}
use Rattle.grid_types.specs.Owners.{same_owner}
use Rattle.grid_model.specs.Lists.{is_among}
use Rattle.grid_model.proofs.Boundaries.{absent}
use Rattle.page_states.specs.declared.page_state.PageState.{PageState}
use Rattle.page_states.specs.declared.page_state.PageState.TheVariants.{Free, Claimed, Live}
use Rattle.page_states.specs.Effects.{with_end, with_newest, vanished}
use Rattle.page_states.specs.States.{is_current_at, shows}
use Rattle.page_states.specs.Changes.{Publication, pages_of, all_published, all_vanished, ArePublishable}
use Rattle.layout_pages.specs.Holding.{is_live, bytes_in}
use Rattle.layout_pages.proofs.Writes.{written}

-- what is current at a place is live
pub current-live : (place : ℕ) (x : PageState) → is_current_at place x ≡ true → is_live x ≡ true
current-live place Free is = absurd (true≢false (sym is))
current-live place (Claimed s) is = absurd (true≢false (sym is))
current-live place (Live o from to) is = refl

-- what shows an owner is live
pub shown-live : (o : Owner) (place : ℕ) (x : PageState) → shows o place x ≡ true → is_live x ≡ true
shown-live o place Free is = absurd (true≢false (sym is))
shown-live o place (Claimed s) is = absurd (true≢false (sym is))
shown-live o place (Live w from to) is = refl

-- a page that ends is live as before
ended-live : (owner : Owner) (at : ℕ) (x : PageState) → is_live (with_end owner at x) ≡ is_live x
ended-live owner at Free = refl
ended-live owner at (Claimed s) = refl
ended-live owner at (Live o from (Some to)) = refl
ended-live owner at (Live o from None) = by (same_owner o owner)
  where
    by : (b : Bool) → is_live (cond b (Live o from (Some at)) (Live o from None)) ≡ true
    by true = refl
    by false = refl

-- where an owner vanishes the same pages are live
pub vanished-live : (owner : Owner) (at : ℕ) (states : List PageState) → map is_live (vanished owner at states) ≡ map is_live states
vanished-live owner at [] = refl
vanished-live owner at (x ∷ xs) = λ i. ended-live owner at x i ∷ vanished-live owner at xs i

-- so they are where several do
pub vanishings-live : (at : ℕ) (os : List Owner) (states : List PageState) → map is_live (all_vanished at os states) ≡ map is_live states
vanishings-live at [] states = refl
vanishings-live at (o ∷ os) states = vanishings-live at os (vanished o at states) ∙ vanished-live o at states

-- published pages are live, and the others as before
pub published-live : (at : ℕ) (xs : List Publication) (states : List PageState) → map is_live (all_published at xs states) ≡ written (λ p. true) (map is_live states) (pages_of xs)
published-live at [] states = refl
published-live at (x ∷ xs) states =
    published-live at xs (with_newest x.page x.owner at states)
    ∙ ap (λ bs. written (λ p. true) bs (pages_of xs)) (map-set is_live (vanished x.owner at states) x.page (Live x.owner at None) ∙ ap (λ (bs : List Bool). slice_set bs x.page true) (vanished-live x.owner at states))

-- a live page is none that may be published
pub publishable-apart : (pages : List ℕ) (states : List PageState) (p : ℕ) (x : PageState) → ArePublishable pages states → slice_get states p ≡ Some x → is_live x ≡ true → is_among pages p ≡ false
publishable-apart pages states p x ok has live = absent pages p (λ k low e.
    let claimed = ok.claimed k low in
    let same : Some (Claimed claimed.0) ≡ Some x = sym claimed.1 ∙ ap (slice_get states) e ∙ has in
    true≢false (sym live ∙ ap is_live (sym (same_Some (Claimed claimed.0) x same))))

-- a page of which the same is known holds the same bytes
pub same-bytes : (new old : List (Option (List ℕ))) (p : ℕ) → slice_get new p ≡ slice_get old p → bytes_in new p ≡ bytes_in old p
same-bytes new old p same =
    ap (λ (o : Option (List ℕ)). unwrap_or o []) (sym (unwrap_or-slice_get new p None) ∙ ap (λ (o : Option (Option (List ℕ))). unwrap_or o None) same ∙ unwrap_or-slice_get old p None)

-- a page that is known to hold bytes holds them
pub known-bytes : (always : List (Option (List ℕ))) (p : ℕ) (bytes : List ℕ) → slice_get always p ≡ Some (Some bytes) → bytes_in always p ≡ bytes
known-bytes always p bytes has = ap (λ (o : Option (List ℕ)). unwrap_or o []) (get_or_from_slice_get always p (Some bytes) None has)

-- what a live page holds is known
pub live-known : (always : List (Option (List ℕ))) (states : List PageState) (p : ℕ) (x : PageState) → map is_some always ≡ map is_live states → slice_get states p ≡ Some x → is_live x ≡ true → slice_get always p ≡ Some (Some (bytes_in always p))
live-known always states p x known has live = by (slice_get always p) refl
  where
    there : option_map is_some (slice_get always p) ≡ Some true
    there = sym (slice_get-map is_some always p) ∙ ap (λ (bs : List Bool). slice_get bs p) known ∙ slice_get-map is_live states p ∙ ap (option_map is_live) has ∙ ap (λ (b : Bool). Some b) live

    by : (o : Option (Option (List ℕ))) → slice_get always p ≡ o → slice_get always p ≡ Some (Some (bytes_in always p))
    by None e = let no : None ≡ Some true = sym (ap (option_map is_some) e) ∙ there in absurd (cc)
    by (Some None) e =
        let no : Some false ≡ Some true = sym (ap (option_map is_some) e) ∙ there in
        absurd (true≢false (sym (same_Some false true no)))
    by (Some (Some bytes)) e = e ∙ ap (λ (b : List ℕ). Some (Some b)) (sym (known-bytes always p bytes e))
