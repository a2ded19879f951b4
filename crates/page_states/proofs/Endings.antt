-- The current page of an owner ends.
use Rattle.std.proofs.Common.{◌≡◌, ◌⊎◌, inl, inr, ℕ, suc, List, [], ◌∷◌, Bool, true, false, cond, Option, Some, None, refl, sym, ◌∙◌, ap, subst, map}
use Rattle.std.specs.Prelude.{◌≢◌, slice_get, slice_set}
use Rattle.std.specs.Option.{option_map}
use Rattle.std.proofs.lemmas.Option.{slice_get-map, slice_get_within, same_Some}
use Rattle.std.proofs.lemmas.Bool.{cases_eq, eqb-true, eq-eqb}
use Rattle.grid_types.specs.declared.owner.Owner.{Owner}
use Rattle.grid_types.specs.declared.owner.Owner.TheVariants.{Bucket, Part}
use Rattle.page_states.specs.declared.page_state.PageState.{PageState}
use Rattle.page_states.specs.declared.page_state.PageState.TheVariants.{Free, Claimed, Live}
use Rattle.grid_types.specs.Owners.{same_owner}
use Rattle.page_states.specs.Effects.{with_end}
use Rattle.page_states.specs.Sound.{AreNewest}
use Rattle.page_states.proofs.Lists.{get_set_same, get_set_other, same_by_get}

pub same_owner_refl : (o : Owner) → same_owner o o ≡ true
same_owner_refl (Bucket n) = eq-eqb n n refl
same_owner_refl (Part n) = eq-eqb n n refl

pub same_owner_is : (a b : Owner) → same_owner a b ≡ true → a ≡ b
same_owner_is (Bucket a) (Bucket b) e = ap Bucket (eqb-true a b e)
same_owner_is (Part a) (Part b) e = ap Part (eqb-true a b e)
same_owner_is (Bucket a) (Part b) e = absurd cc
same_owner_is (Part a) (Bucket b) e = absurd cc

-- a page that is not the owner's current one stays as it was
pub ended_other : (owner : Owner) (at : ℕ) (x : PageState) → ((from : ℕ) → x ≡ Live owner from None → ⊥) → with_end owner at x ≡ x
ended_other owner at Free apart = refl
ended_other owner at (Claimed s) apart = refl
ended_other owner at (Live o from (Some to)) apart = refl
ended_other owner at (Live o from None) apart = by (same_owner o owner) refl
  where
    by : (b : Bool) → same_owner o owner ≡ b → cond (same_owner o owner) (Live o from (Some at)) (Live o from None) ≡ Live o from None
    by false e = ap (λ (b : Bool). cond b (Live o from (Some at)) (Live o from None)) e
    by true e = absurd (apart from (ap (λ (z : Owner). Live z from None) (same_owner_is o owner e)))

-- the owner's current page is replaced
pub ended_own : (owner : Owner) (at from : ℕ) → with_end owner at (Live owner from None) ≡ Live owner from (Some at)
ended_own owner at from = ap (λ (b : Bool). cond b (Live owner from (Some at)) (Live owner from None)) (same_owner_refl owner)

-- where the owner has no current page, nothing ends
pub ended_none : (owner : Owner) (at : ℕ) (states : List PageState) → ((p from : ℕ) → slice_get states p ≡ Some (Live owner from None) → ⊥) → map (with_end owner at) states ≡ states
ended_none owner at [] none = refl
ended_none owner at (x ∷ xs) none =
    let first : with_end owner at x ≡ x = ended_other owner at x (λ from e. none 0 from (ap (λ (z : PageState). Some z) e)) in
    let rest : map (with_end owner at) xs ≡ xs = ended_none owner at xs (λ p from e. none (suc p) from e) in
    λ i. first i ∷ rest i

-- where it has one, that one ends and nothing else
pub ended_one : (owner : Owner) (at p from : ℕ) (states : List PageState) (newest : List (Option ℕ)) → AreNewest states newest → slice_get states p ≡ Some (Live owner from None)
    → map (with_end owner at) states ≡ slice_set states p (Live owner from (Some at))
ended_one owner at p from states newest current has = same_by_get (map (with_end owner at) states) (slice_set states p (Live owner from (Some at))) (λ i. slice_get-map (with_end owner at) states i ∙ by i (cases_eq i p))
  where
    other : (i : ℕ) → i ≢ p → (o : Option PageState) → slice_get states i ≡ o → option_map (with_end owner at) o ≡ o
    other i apart None e = refl
    other i apart (Some x) e = ap (λ (z : PageState). Some z) (ended_other owner at x (λ f is.
        let here : Some (Some i) ≡ Some (Some p) = sym (current i owner f (e ∙ ap (λ (z : PageState). Some z) is)) ∙ current p owner from has in
        apart cc))

    by : (i : ℕ) → (i ≡ p) ⊎ (i ≢ p) → option_map (with_end owner at) (slice_get states i) ≡ slice_get (slice_set states p (Live owner from (Some at))) i
    by i (inl e) =
        let here : option_map (with_end owner at) (slice_get states p) ≡ slice_get (slice_set states p (Live owner from (Some at))) p =
        ap (option_map (with_end owner at)) has ∙ ap (λ (z : PageState). Some z) (ended_own owner at from) ∙ sym (get_set_same states p (Live owner from (Some at)) (slice_get_within states p (Live owner from None) has)) in
        subst (λ (k : ℕ). option_map (with_end owner at) (slice_get states k) ≡ slice_get (slice_set states p (Live owner from (Some at))) k) (sym e) here
    by i (inr n) = other i n (slice_get states i) refl ∙ sym (get_set_other states p i (Live owner from (Some at)) n)

-- no page is the owner's current one any more
not_own : (owner : Owner) (at from : ℕ) (x : PageState) → with_end owner at x ≡ Live owner from None → ⊥
not_own owner at from Free e = cc
not_own owner at from (Claimed s) e = cc
not_own owner at from (Live o f (Some to)) e = cc
not_own owner at from (Live o f None) e = by (same_owner o owner) refl
  where
    by : (b : Bool) → same_owner o owner ≡ b → ⊥
    by true is =
        let no : Live o f (Some at) ≡ Live owner from None = sym (ap (λ (b : Bool). cond b (Live o f (Some at)) (Live o f None)) is) ∙ e in
        cc
    by false is =
        let same : Live o f None ≡ Live owner from None = sym (ap (λ (b : Bool). cond b (Live o f (Some at)) (Live o f None)) is) ∙ e in
        let one : o ≡ owner = cc in
        let no : false ≡ true = sym is ∙ ap (λ (z : Owner). same_owner z owner) one ∙ same_owner_refl owner in
        cc

pub after_ended : (owner : Owner) (at : ℕ) (states : List PageState) (p from : ℕ) → slice_get (map (with_end owner at) states) p ≡ Some (Live owner from None) → ⊥
after_ended owner at states p from has = by (slice_get states p) refl
  where
    by : (o : Option PageState) → slice_get states p ≡ o → ⊥
    by None e = let no : None ≡ Some (Live owner from None) = sym (slice_get-map (with_end owner at) states p ∙ ap (option_map (with_end owner at)) e) ∙ has in cc
    by (Some x) e =
        let is : Some (with_end owner at x) ≡ Some (Live owner from None) = sym (slice_get-map (with_end owner at) states p ∙ ap (option_map (with_end owner at)) e) ∙ has in
        not_own owner at from x (same_Some (with_end owner at x) (Live owner from None) is)
