-- Pages that a table area names stay current at a kept place.
use Rattle.std.proofs.Common.{◌≡◌, ◌<◌, ◌==◌, ℕ, Bool, true, false, cond, ◌&&◌, List, [], ◌∷◌, take, Option, Some, None, refl, sym, ap, ◌∙◌, true≢false}
use Rattle.std.specs.Prelude.{slice_get, nat_le, Contains, not, IsTrue}
use Rattle.std.specs.Option.{option_map, option_map_or}
use Rattle.std.proofs.lemmas.Bool.{lt-ltb}
use Rattle.std.proofs.lemmas.Option.{slice_get-map, same_Some}
use Rattle.grid_types.specs.declared.layout_change.LayoutChange.{LayoutChange}
use Rattle.grid_types.specs.declared.owner.Owner.{Owner}
use Rattle.grid_types.specs.Owners.{same_owner}
use Rattle.grid_model.specs.Lawful.{Area}
use Rattle.grid_model.specs.Lists.{is_among}
use Rattle.grid_model.proofs.Members.{among-from-contains}
use Rattle.grid_model.proofs.Truths.{not-true}
use Rattle.history_pages.proofs.Numbers.{not-first}
use Rattle.page_states.specs.declared.page_state.PageState.{PageState}
use Rattle.page_states.specs.declared.page_state.PageState.TheVariants.{Free, Claimed, Live}
use Rattle.page_states.specs.States.{is_current_at, is_claimed_by}
use Rattle.page_states.specs.Effects.{with_end, with_newest, vanished, freed, is_gone, swept, claim_all, free_pages, given_back}
use Rattle.page_states.specs.Changes.{Publication, pages_of, all_published, all_vanished, ArePublishable}
use Rattle.page_states.proofs.Frees.{gone_no}
use Rattle.page_states.proofs.KeptPlaces.{kept_at}
use Rattle.page_states.proofs.Lists.{get_set_other}
use Rattle.page_states.proofs.Shown.{and_true}
use Rattle.layout_pages.specs.Holding.{is_live, IsCurrentAt, NamesCurrent, named_by}
use Rattle.layout_pages.specs.HoldingLaws.{NamedStay, NamedApart}
use Rattle.layout_pages.specs.Steps.{publications, owners_renewed, owners_vanishing, published_states, gone_pages}
use Rattle.layout_pages.proofs.Claiming.{live-unclaimed}
use Rattle.layout_pages.proofs.Live.{current-live, publishable-apart}
use Rattle.layout_pages.proofs.Publishing.{less-publishable}
use Rattle.layout_pages.proofs.Sweeps.{gone-among, swept-at}
use Rattle.layout_pages.proofs.Writes.{beside, not-rest}

-- a page that ends at a place is current before it as it was
ended-current : (owner : Owner) (at place : ℕ) (x : PageState) → place < at → is_current_at place x ≡ true → is_current_at place (with_end owner at x) ≡ true
ended-current owner at place Free low is = is
ended-current owner at place (Claimed s) low is = is
ended-current owner at place (Live o from (Some to)) low is = is
ended-current owner at place (Live o from None) low is = by (same_owner o owner)
  where
    by : (b : Bool) → is_current_at place (cond b (Live o from (Some at)) (Live o from None)) ≡ true
    by true = ap (λ (b : Bool). nat_le from place && b) (lt-ltb place at low) ∙ and_true (nat_le from place) ∙ is
    by false = is

-- a page is current at an earlier place where an owner's page ends
vanished-current : (owner : Owner) (at place p : ℕ) (states : List PageState) → place < at → IsCurrentAt place states p → IsCurrentAt place (vanished owner at states) p
vanished-current owner at place p states low c = record {
  state = with_end owner at c.state;
  there = slice_get-map (with_end owner at) states p ∙ ap (option_map (with_end owner at)) c.there;
  current = ended-current owner at place c.state low c.current;
}

vanishings-current : (at place p : ℕ) (os : List Owner) (states : List PageState) → place < at → IsCurrentAt place states p → IsCurrentAt place (all_vanished at os states) p
vanishings-current at place p [] states low c = c
vanishings-current at place p (o ∷ os) states low c = vanishings-current at place p os (vanished o at states) low (vanished-current o at place p states low c)

-- and where other pages are published
published-current : (at place p : ℕ) (xs : List Publication) (states : List PageState) → place < at → is_among (pages_of xs) p ≡ false → IsCurrentAt place states p → IsCurrentAt place (all_published at xs states) p
published-current at place p [] states low out c = c
published-current at place p (x ∷ xs) states low out c =
    let ended = vanished-current x.owner at place p states low c in
    published-current at place p xs (with_newest x.page x.owner at states) low (not-rest (x.page == p) (is_among (pages_of xs) p) out) (record {
      state = ended.state;
      there = get_set_other (vanished x.owner at states) x.page p (Live x.owner at None) (not-first x.page p (is_among (pages_of xs) p) out) ∙ ended.there;
      current = ended.current;
    })

module _ (states : List PageState) (a : Area) (place : ℕ) (named : NamesCurrent place states a) where
  change-stays : (at b : ℕ) (n : LayoutChange) (parts pages : List ℕ) → place < at → ArePublishable pages states → NamesCurrent place (published_states at b n parts pages states) a
  unfolding published_states
  change-stays at b n parts pages low ok p has =
      let c = named p has in
      let out = publishable-apart (pages_of (publications (owners_renewed b n parts) pages)) states p c.state (less-publishable (owners_renewed b n parts) pages states ok) c.there (current-live place c.state c.current) in
      vanishings-current at place p (owners_vanishing b n) (all_published at (publications (owners_renewed b n parts) pages) states) low
      (published-current at place p (publications (owners_renewed b n parts) pages) states low out c)

  -- a page that is current at a kept place is not gone
  kept-stays : (places : List ℕ) → Contains places place → (p : ℕ) (c : IsCurrentAt place states p) → is_gone places c.state ≡ false
  kept-stays places within p c = gone_no places c.state (kept_at places place within.0 c.state within.1 within.2 c.current)

  sweep-stays : (places : List ℕ) → Contains places place → NamesCurrent place (swept places states) a
  sweep-stays places within p has =
      let c = named p has in
      record {
        state = c.state;
        there = swept-at places states p c.state c.there ∙ ap (λ (b : Bool). Some (cond b Free c.state)) (kept-stays places within p c);
        current = c.current;
      }

  claim-stays : (seat count : ℕ) → NamesCurrent place (claim_all seat (take count (free_pages states)) states) a
  claim-stays seat count p has =
      let c = named p has in
      record {
        state = c.state;
        there = beside (λ q. Claimed seat) states (take count (free_pages states)) p (live-unclaimed count p states c.state c.there (current-live place c.state c.current)) ∙ c.there;
        current = c.current;
      }

  -- a current page is not one that is given back
  given-same : (seat : ℕ) (x : PageState) → is_current_at place x ≡ true → freed (is_claimed_by seat) x ≡ x
  given-same seat Free is = refl
  given-same seat (Claimed s) is = absurd (true≢false (sym is))
  given-same seat (Live o from to) is = refl

  given-stays : (seat : ℕ) → NamesCurrent place (given_back seat states) a
  given-stays seat p has =
      let c = named p has in
      record {
        state = c.state;
        there = slice_get-map (freed (is_claimed_by seat)) states p ∙ ap (option_map (freed (is_claimed_by seat))) c.there ∙ ap (λ (x : PageState). Some x) (given-same seat c.state c.current);
        current = c.current;
      }

  gone-apart : (p : ℕ) (places : List ℕ) → Contains places place → Contains (gone_pages places states) p → Contains (named_by a) p → ⊥
  gone-apart p places within gone has =
      let c = named p has in
      let is : is_gone places c.state ≡ true = ap (λ (o : Option PageState). option_map_or (is_gone places) o false) (sym c.there) ∙ gone-among places states p (among-from-contains (gone_pages places states) p gone) in
      true≢false (sym is ∙ kept-stays places within p c)

  spare-apart : (p : ℕ) (x : PageState) → slice_get states p ≡ Some x → IsTrue (not (is_live x)) → Contains (named_by a) p → ⊥
  spare-apart p x there spare has =
      let c = named p has in
      let same : Some c.state ≡ Some x = sym c.there ∙ there in
      true≢false (sym (current-live place c.state c.current) ∙ ap is_live (same_Some c.state x same) ∙ not-true (is_live x) spare)

pub named-stay : NamedStay
named-stay = record {
  change = λ states a place at b n parts pages low ok named. change-stays states a place named at b n parts pages low ok;
  sweep = λ states a place places within named. sweep-stays states a place named places within;
  claim = λ states a place seat count named. claim-stays states a place named seat count;
  giving_back = λ states a place seat named. given-stays states a place named seat;
}

pub named-apart : NamedApart
named-apart = record {
  gone = λ states a place p places within named gone has. gone-apart states a place named p places within gone has;
  spare = λ states a place p x named there spare has. spare-apart states a place named p x there spare has;
}
