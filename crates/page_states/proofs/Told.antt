-- A table of current pages, told number by number.
use Rattle.std.proofs.Common.{◌≡◌, inl, inr, ℕ, ◌+◌, ◌<◌, List, Option, Some, None, refl, sym, ◌∙◌, ap, length, arith}
use Rattle.std.specs.Prelude.{◌≢◌, slice_get, slice_set, slice_index}
use Rattle.std.proofs.lemmas.Bool.{cases_eq}
use Rattle.std.proofs.lemmas.List.{get_or-set_same, get_or-set_other}
use Rattle.grid_types.specs.declared.owner.Owner.{Owner}
use Rattle.page_states.specs.declared.page_state.PageState.{PageState}
use Rattle.page_states.specs.declared.page_state.PageState.TheVariants.{Live}
use Rattle.page_states.specs.Current.{TellsPages}
use Rattle.page_states.specs.Sound.{AreNewest}

-- an owner has at most one current page
pub one_current : (states : List PageState) (newest : List (Option ℕ)) (p q from with_current : ℕ) (owner : Owner) → AreNewest states newest → slice_get states p ≡ Some (Live owner from None) → slice_get states q ≡ Some (Live owner with_current None) → p ≡ q
one_current states newest p q from with_current owner current has other =
    let same : Some (Some p) ≡ Some (Some q) = sym (current p owner from has) ∙ current q owner with_current other in
    cc

-- one more number is told
pub tell_more : (owner_of : ℕ → Owner) (nowhere : ℕ) (states : List PageState) (table : List ℕ) (i page : ℕ) → i < length table → TellsPages owner_of nowhere states table i
    → ((p from : ℕ) → slice_get states p ≡ Some (Live (owner_of i) from None) → page ≡ p) → (((p from : ℕ) → slice_get states p ≡ Some (Live (owner_of i) from None) → ⊥) → page ≡ nowhere)
    → TellsPages owner_of nowhere states (slice_set table i page) (i + 1)
tell_more owner_of nowhere states table i page inside so own none = record {
  pages = λ n p from low has. elim (cases_eq n i) [
    | inl e ↦ here n e ∙ own p from (ap (slice_get states) refl ∙ has ∙ ap (λ (k : ℕ). Some (Live (owner_of k) from None)) e)
    | inr apart ↦ there n apart ∙ so.pages n p from (omega (arith, low, apart)) has
  ];
  others = λ n low no. elim (cases_eq n i) [
    | inl e ↦ here n e ∙ none (λ p from has. no p from (has ∙ ap (λ (k : ℕ). Some (Live (owner_of k) from None)) (sym e)))
    | inr apart ↦ there n apart ∙ so.others n (omega (arith, low, apart)) no
  ];
}
  where
    here : (n : ℕ) → n ≡ i → slice_index (slice_set table i page) n ≡ page
    here n e = ap (slice_index (slice_set table i page)) e ∙ get_or-set_same table i page 0 inside

    there : (n : ℕ) → n ≢ i → slice_index (slice_set table i page) n ≡ slice_index table n
    there n apart = get_or-set_other table i n page 0 apart
