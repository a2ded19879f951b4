-- Claims write pages that are free, and what is given back was claimed: live pages stay.
use Rattle.std.proofs.Common.{◌≡◌, inl, inr, ◌+◌, ◌==◌, ℕ, zero, suc, Bool, true, false, cond, List, [], ◌∷◌, map, take, Option, Some, is_some, refl, sym, ap, ◌∙◌, arith, true≢false, eqb-true}
use Rattle.std.specs.Prelude.{slice_get}
use Rattle.std.specs.Option.{option_map}
use Rattle.std.proofs.lemmas.Bool.{or_cases, or_left, or_right}
use Rattle.std.proofs.lemmas.List.{length-map}
use Rattle.std.proofs.lemmas.Option.{slice_get-map, slice_get_within, same_Some}
use Rattle.grid_model.specs.Lists.{is_among}
use Rattle.grid_model.specs.Tables.{Table}
use Rattle.grid_model.specs.Layouts.{Layout}
use Rattle.history_pages.specs.OwnerPages.{owner_page}
use Rattle.page_states.specs.declared.page_state.PageState.{PageState}
use Rattle.page_states.specs.declared.page_state.PageState.TheVariants.{Free, Claimed, Live}
use Rattle.page_states.specs.States.{is_claimed_by}
use Rattle.page_states.specs.Effects.{free_from, free_pages, claim_all, given_back, freed}
use Rattle.page_states.proofs.ClaimedPages.{claim_keeps_places}
use Rattle.page_states.proofs.KeptPlaces.{giving_back_keeps}
use Rattle.page_states.proofs.Lists.{same_by_get}
use Rattle.page_states.proofs.SettledPlaces.{claim_settles, freeing_settles}
use Rattle.layout_pages.specs.Holding.{HoldLayout, is_live, bytes_in}
use Rattle.layout_pages.proofs.Writes.{written, beside, within, map-written}

-- a number among those that are taken is among all
among-taken : (count : ℕ) (ps : List ℕ) (q : ℕ) → is_among (take count ps) q ≡ true → is_among ps q ≡ true
among-taken zero ps q h = absurd (true≢false (sym h))
among-taken (suc n) [] q h = absurd (true≢false (sym h))
among-taken (suc n) (p ∷ ps) q h = elim (or_cases (p == q) (is_among (take n ps) q) h) [
  | inl e ↦ or_left (p == q) (is_among ps q) e
  | inr e ↦ or_right (p == q) (is_among ps q) (among-taken n ps q e)
]

-- a page among the free ones is free
free-among : (n q : ℕ) (states : List PageState) → is_among (free_from n states) q ≡ true → (k : ℕ) × (n + k ≡ q) × (slice_get states k ≡ Some Free)
free-among n q [] h = absurd (true≢false (sym h))
free-among n q (Free ∷ xs) h = elim (or_cases (n == q) (is_among (free_from (n + 1) xs) q) h) [
  | inl e ↦ (0, omega (arith, eqb-true n q e), refl)
  | inr e ↦ let rest = free-among (n + 1) q xs e in (suc rest.0, omega (arith, rest.1), rest.2)
]
free-among n q (Claimed s ∷ xs) h = let rest = free-among (n + 1) q xs h in (suc rest.0, omega (arith, rest.1), rest.2)
free-among n q (Live o from to ∷ xs) h = let rest = free-among (n + 1) q xs h in (suc rest.0, omega (arith, rest.1), rest.2)

-- so is one among those of them that are claimed
pub claimed-free : (count q : ℕ) (states : List PageState) → is_among (take count (free_pages states)) q ≡ true → slice_get states q ≡ Some Free
claimed-free count q states h =
    let at = free-among 0 q states (among-taken count (free_pages states) q h) in
    let same : at.0 ≡ q = omega (arith, at.1) in
    ap (slice_get states) (sym same) ∙ at.2

-- a live page is none that is claimed
pub live-unclaimed : (count q : ℕ) (states : List PageState) (x : PageState) → slice_get states q ≡ Some x → is_live x ≡ true → is_among (take count (free_pages states)) q ≡ false
live-unclaimed count q states x has live = by (is_among (take count (free_pages states)) q) refl
  where
    by : (b : Bool) → is_among (take count (free_pages states)) q ≡ b → b ≡ false
    by false e = refl
    by true e =
        let same : Some Free ≡ Some x = sym (claimed-free count q states e) ∙ has in
        absurd (true≢false (sym live ∙ ap is_live (sym (same_Some Free x same))))

-- what is given back is not live, and each other page is as it was
pub given-live : (seat : ℕ) (x : PageState) → is_live (freed (is_claimed_by seat) x) ≡ is_live x
given-live seat Free = refl
given-live seat (Live o from to) = refl
given-live seat (Claimed s) = by (is_claimed_by seat (Claimed s))
  where
    by : (b : Bool) → is_live (cond b Free (Claimed s)) ≡ false
    by true = refl
    by false = refl

module _ (states : List PageState) (always : List (Option (List ℕ))) (known : map is_some always ≡ map is_live states) where
  -- a claim leaves what is known
  pub claim-known : (seat count : ℕ) → map is_some always ≡ map is_live (claim_all seat (take count (free_pages states)) states)
  claim-known seat count =
      known
      ∙ same_by_get (map is_live states) (written (λ p. false) (map is_live states) (take count (free_pages states))) (λ q. each q (is_among (take count (free_pages states)) q) refl)
      ∙ sym (map-written (λ p. Claimed seat) is_live states (take count (free_pages states)))
    where
      each : (q : ℕ) (b : Bool) → is_among (take count (free_pages states)) q ≡ b → slice_get (map is_live states) q ≡ slice_get (written (λ p. false) (map is_live states) (take count (free_pages states))) q
      each q false e = sym (beside (λ p. false) (map is_live states) (take count (free_pages states)) q e)
      each q true e =
          let free : slice_get states q ≡ Some Free = claimed-free count q states e in
          slice_get-map is_live states q ∙ ap (option_map is_live) free
          ∙ sym (within (λ p. false) (map is_live states) (take count (free_pages states)) q e (omega (arith, slice_get_within states q Free free, length-map states is_live)))

  -- and so does what is given back
  pub given-known : (seat : ℕ) → map is_some always ≡ map is_live (given_back seat states)
  given-known seat = known ∙ sym (same states)
    where
      same : (xs : List PageState) → map is_live (given_back seat xs) ≡ map is_live xs
      same [] = refl
      same (x ∷ xs) = λ i. given-live seat x i ∷ same xs i

module _ {K : ℕ} (states : List PageState) (always : List (Option (List ℕ))) (front : ℕ) (L : Layout K) (t : Table) where
  pub claim-holds : (seat count : ℕ) → HoldLayout states always front L t → HoldLayout (claim_all seat (take count (free_pages states)) states) always front L t
  claim-holds seat count h = record {
    known = claim-known states always h.known seat count;
    settled = claim_settles seat front (take count (free_pages states)) states h.settled;
    served = claim_keeps_places seat count front states (owner_page L t) (bytes_in always) h.served;
  }

  pub given-holds : (seat : ℕ) → HoldLayout states always front L t → HoldLayout (given_back seat states) always front L t
  given-holds seat h = record {
    known = given-known states always h.known seat;
    settled = freeing_settles (is_claimed_by seat) front states h.settled;
    served = giving_back_keeps seat front states (owner_page L t) (bytes_in always) h.served;
  }
