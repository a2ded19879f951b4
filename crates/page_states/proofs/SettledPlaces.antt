-- How far pages began and ended.
use Rattle.std.proofs.Common.{◌≡◌, ◌⊎◌, inl, inr, ℕ, ◌≤◌, List, [], ◌∷◌, Bool, true, false, cond, Option, Some, None, refl, sym, ◌∙◌, ap, map, arith}
use Rattle.std.specs.Prelude.{slice_get, slice_set}
use Rattle.std.specs.Option.{option_map}
use Rattle.std.proofs.lemmas.Option.{slice_get-map, same_Some}
use Rattle.grid_types.specs.declared.owner.Owner.{Owner}
use Rattle.grid_types.specs.Owners.{same_owner}
use Rattle.page_states.specs.declared.page_state.PageState.{PageState}
use Rattle.page_states.specs.declared.page_state.PageState.TheVariants.{Free, Claimed, Live}
use Rattle.page_states.specs.Effects.{with_end, freed}
use Rattle.page_states.specs.Laws.{StartSettles, PublicationSettles, VanishingSettles, FreeingSettles, ClaimSettles}
use Rattle.page_states.proofs.Lists.{get_set}
use Rattle.page_states.proofs.Starts.{all_free}

-- a page of a mapped list was made of one
mapped : (f : PageState → PageState) (xs : List PageState) (p : ℕ) (y : PageState) → slice_get (map f xs) p ≡ Some y → (x : PageState) × (slice_get xs p ≡ Some x) × (f x ≡ y)
mapped f xs p y has = by (slice_get xs p) refl
  where
    by : (m : Option PageState) → slice_get xs p ≡ m → (x : PageState) × (slice_get xs p ≡ Some x) × (f x ≡ y)
    by None e =
        let no : None ≡ Some y = sym (slice_get-map f xs p ∙ ap (option_map f) e) ∙ has in
        absurd cc
    by (Some x) e =
        let is : Some (f x) ≡ Some y = sym (slice_get-map f xs p ∙ ap (option_map f) e) ∙ has in
        (x, e, same_Some (f x) y is)

-- a live page after an end was so before, or was current and ended there
ended_from : (owner : Owner) (at : ℕ) (x : PageState) (o : Owner) (from : ℕ) (to : Option ℕ) → with_end owner at x ≡ Live o from to → (x ≡ Live o from to) ⊎ ((x ≡ Live o from None) × (to ≡ Some at))
ended_from owner at Free o from to e = absurd cc
ended_from owner at (Claimed s) o from to e = absurd cc
ended_from owner at (Live w f (Some t)) o from to e = inl e
ended_from owner at (Live w f None) o from to e = by (same_owner w owner) refl
  where
    by : (b : Bool) → same_owner w owner ≡ b → (Live w f None ≡ Live o from to) ⊎ ((Live w f None ≡ Live o from None) × (to ≡ Some at))
    by false is = inl (sym (ap (λ (b : Bool). cond b (Live w f (Some at)) (Live w f None)) is) ∙ e)
    by true is =
        let same : Live w f (Some at) ≡ Live o from to = sym (ap (λ (b : Bool). cond b (Live w f (Some at)) (Live w f None)) is) ∙ e in
        let owners : w ≡ o = cc in
        let begins : f ≡ from = cc in
        let ends : to ≡ Some at = cc in
        inr ((λ i. Live (owners i) (begins i) None), ends)

pub vanishing_settles : VanishingSettles
vanishing_settles front at owner states later settled = record {
  began = λ p o from has. elim (before p o from None has) [
    | inl e ↦ let low : from ≤ front = settled.began p o from e in omega (arith, low, later)
    | inr w ↦ let low : from ≤ front = settled.began p o from w.0 in omega (arith, low, later)
  ];
  ended_by = λ p o from to has. elim (before p o from (Some to) has) [
    | inl e ↦ let low : to ≤ front = settled.ended_by p o from to e in omega (arith, low, later)
    | inr w ↦ let is : to ≡ at = same_Some to at w.1 in omega (arith, is)
  ];
}
  where
    before : (p : ℕ) (o : Owner) (from : ℕ) (to : Option ℕ) → slice_get (map (with_end owner at) states) p ≡ Some (Live o from to) → (slice_get states p ≡ Some (Live o from to)) ⊎ ((slice_get states p ≡ Some (Live o from None)) × (to ≡ Some at))
    before p o from to has =
        let x = mapped (with_end owner at) states p (Live o from to) has in
        elim (ended_from owner at x.0 o from to x.2) [
          | inl e ↦ inl (x.1 ∙ ap (λ (z : PageState). Some z) e)
          | inr w ↦ inr (x.1 ∙ ap (λ (z : PageState). Some z) w.0, w.1)
        ]

pub publication_settles : PublicationSettles
publication_settles page front at owner states later settled =
    let middle = vanishing_settles front at owner states later settled in
    record {
      began = λ p o from has. elim (get_set (map (with_end owner at) states) page p (Live owner at None) (Live o from None) has) [
        | inl w ↦ let is : from ≡ at = cc in omega (arith, is)
        | inr w ↦ middle.began p o from w.1
      ];
      ended_by = λ p o from to has. elim (get_set (map (with_end owner at) states) page p (Live owner at None) (Live o from (Some to)) has) [
        | inl w ↦ absurd cc
        | inr w ↦ middle.ended_by p o from to w.1
      ];
    }

-- a live page after others became free was live before
freed_from : (test : PageState → Bool) (x : PageState) (o : Owner) (from : ℕ) (to : Option ℕ) → freed test x ≡ Live o from to → x ≡ Live o from to
freed_from test x o from to e = by (test x) refl
  where
    by : (b : Bool) → test x ≡ b → x ≡ Live o from to
    by false is = sym (ap (λ (b : Bool). cond b Free x) is) ∙ e
    by true is = let no : Free ≡ Live o from to = sym (ap (λ (b : Bool). cond b Free x) is) ∙ e in absurd cc

pub freeing_settles : FreeingSettles
freeing_settles test front states settled = record {
  began = λ p o from has. settled.began p o from (before p o from None has);
  ended_by = λ p o from to has. settled.ended_by p o from to (before p o from (Some to) has);
}
  where
    before : (p : ℕ) (o : Owner) (from : ℕ) (to : Option ℕ) → slice_get (map (freed test) states) p ≡ Some (Live o from to) → slice_get states p ≡ Some (Live o from to)
    before p o from to has =
        let x = mapped (freed test) states p (Live o from to) has in
        x.1 ∙ ap (λ (z : PageState). Some z) (freed_from test x.0 o from to x.2)

pub claim_settles : ClaimSettles
claim_settles seat front [] states settled = settled
claim_settles seat front (q ∷ pages) states settled = claim_settles seat front pages (slice_set states q (Claimed seat)) (record {
  began = λ p o from has. elim (get_set states q p (Claimed seat) (Live o from None) has) [ inl w ↦ absurd cc | inr w ↦ settled.began p o from w.1 ];
  ended_by = λ p o from to has. elim (get_set states q p (Claimed seat) (Live o from (Some to)) has) [ inl w ↦ absurd cc | inr w ↦ settled.ended_by p o from to w.1 ];
})

pub start_settles : StartSettles
start_settles pages front = record {
  began = λ p o from has. let no : Live o from None ≡ Free = all_free pages p (Live o from None) has in absurd cc;
  ended_by = λ p o from to has. let no : Live o from (Some to) ≡ Free = all_free pages p (Live o from (Some to)) has in absurd cc;
}
