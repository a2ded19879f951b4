-- Each call keeps what is served at a kept place.
use Rattle.std.proofs.Common.{◌≡◌, ℕ, zero, suc, ◌<◌, List, [], ◌∷◌, Bool, true, false, ◌||◌, cond, Some, None, refl, sym, ◌∙◌, ap, map, length, arith}
use Rattle.std.specs.Prelude.{slice_get, slice_index_or, Contains}
use Rattle.std.specs.Option.{option_map}
use Rattle.std.proofs.lemmas.Option.{slice_get-map}
use Rattle.grid_types.specs.declared.owner.Owner.{Owner}
use Rattle.page_states.specs.declared.page_state.PageState.{PageState}
use Rattle.page_states.specs.declared.page_state.PageState.TheVariants.{Free, Claimed, Live}
use Rattle.grid_types.specs.Owners.{same_owner}
use Rattle.page_states.specs.States.{is_claimed_by, is_current_at, is_kept, shows}
use Rattle.page_states.specs.Effects.{with_end, with_newest, freed, is_gone}
use Rattle.page_states.specs.Laws.{PublicationKeeps, VanishingKeeps, SweepKeeps, GivingBackKeeps}
use Rattle.page_states.proofs.Frees.{gone_no}
use Rattle.page_states.proofs.Shown.{second_holds, same_keeps, map_same, set_same, ended_before, later_unseen}

-- a claimed page is claimed still where an owner's page ends
pub claimed_still : (owner : Owner) (at page seat : ℕ) (states : List PageState) → slice_get states page ≡ Some (Claimed seat) → slice_get (map (with_end owner at) states) page ≡ Some (Claimed seat)
claimed_still owner at page seat states has = slice_get-map (with_end owner at) states page ∙ ap (option_map (with_end owner at)) has

pub publication_keeps : PublicationKeeps
publication_keeps page seat at place owner states low has = same_keeps place states (with_newest page owner at states) (λ o q.
    set_same (shows o place) (map (with_end owner at) states) page (Claimed seat) (Live owner at None) q (claimed_still owner at page seat states has) (later_unseen o owner at place low)
    ∙ map_same (shows o place) (with_end owner at) states q (ended_before o owner at place low))

pub vanishing_keeps : VanishingKeeps
vanishing_keeps at place owner states low = same_keeps place states (map (with_end owner at) states) (λ o q. map_same (shows o place) (with_end owner at) states q (ended_before o owner at place low))

given_unseen : (o : Owner) (seat place : ℕ) (x : PageState) → shows o place (freed (is_claimed_by seat) x) ≡ shows o place x
given_unseen o seat place Free = refl
given_unseen o seat place (Live w from to) = refl
given_unseen o seat place (Claimed s) = by (is_claimed_by seat (Claimed s))
  where
    by : (b : Bool) → shows o place (cond b Free (Claimed s)) ≡ false
    by true = refl
    by false = refl

pub giving_back_keeps : GivingBackKeeps
giving_back_keeps seat place states = same_keeps place states (map (freed (is_claimed_by seat)) states) (λ o q. map_same (shows o place) (freed (is_claimed_by seat)) states q (given_unseen o seat place))

-- a page that is current at one of the places is kept
pub kept_at : (places : List ℕ) (place k : ℕ) (x : PageState) → k < length places → slice_index_or places k place ≡ place → is_current_at place x ≡ true → is_kept places x ≡ true
kept_at [] place k x low there shown = absurd (omega arith)
kept_at (p ∷ places) place zero x low there shown = ap (λ (b : Bool). b || is_kept places x) (ap (λ (n : ℕ). is_current_at n x) there ∙ shown)
kept_at (p ∷ places) place (suc k) x low there shown = by (is_current_at p x) (kept_at places place k x (omega arith) there shown)
  where
    by : (b : Bool) → is_kept places x ≡ true → (b || is_kept places x) ≡ true
    by true e = refl
    by false e = e

pub shown_is_current : (o : Owner) (place : ℕ) (x : PageState) → shows o place x ≡ true → is_current_at place x ≡ true
shown_is_current o place Free e = absurd cc
shown_is_current o place (Claimed s) e = absurd cc
shown_is_current o place (Live w from to) e = second_holds (same_owner w o) (is_current_at place (Live w from to)) e

swept_unseen : (places : List ℕ) (place : ℕ) → Contains places place → (o : Owner) (x : PageState) → shows o place (freed (is_gone places) x) ≡ shows o place x
swept_unseen places place within o x = by (is_gone places x) refl (shows o place x) refl
  where
    by : (g : Bool) → is_gone places x ≡ g → (s : Bool) → shows o place x ≡ s → shows o place (freed (is_gone places) x) ≡ shows o place x
    by false e s is = ap (λ (b : Bool). shows o place (cond b Free x)) e
    by true e false is = ap (λ (b : Bool). shows o place (cond b Free x)) e ∙ sym is
    by true e true is =
        let kept : is_gone places x ≡ false = gone_no places x (kept_at places place within.0 x within.1 within.2 (shown_is_current o place x is)) in
        let no : true ≡ false = sym e ∙ kept in
        absurd cc

pub sweep_keeps_places : SweepKeeps
sweep_keeps_places places place states within = same_keeps place states (map (freed (is_gone places)) states) (λ o q. map_same (shows o place) (freed (is_gone places)) states q (swept_unseen places place within o))
