-- One page changes, and the hidden lists with it.
use Rattle.std.proofs.Common.{◌≡◌, inl, inr, ℕ, ◌+◌, ◌-◌, ◌/◌, ◌<◌, ◌≤◌, List, [], ◌∷◌, ◌++◌, Option, Some, None, refl, sym, ◌∙◌, ap, subst, length, get_or, arith}
use Rattle.std.specs.Prelude.{◌≢◌, slice_get, slice_set, slice_index}
use Rattle.std.specs.List.{count_by, swap_remove}
use Rattle.std.proofs.lemmas.Option.{slice_get_within}
use Rattle.std.proofs.lemmas.List.{length-set}
use Rattle.grid_types.specs.declared.owner.Owner.{Owner}
use Rattle.grid_types.specs.declared.owner.Owner.TheVariants.{Bucket, Part}
use Rattle.page_states.specs.declared.page_state.PageState.{PageState}
use Rattle.page_states.specs.declared.page_state.PageState.TheVariants.{Free, Claimed, Live}
use Rattle.page_states.specs.Counts.{IsListOf}
use Rattle.page_states.specs.States.{is_free, is_claimed, is_replaced, slot}
use Rattle.page_states.specs.Sound.{Sound, AreHints, AreNewest, IsLowest}
use Rattle.page_states.proofs.Lists.{get_set, get_set_same, get_set_other}
use Rattle.page_states.proofs.Counting.{count_set, list_add, list_out, list_same}
use Rattle.page_states.proofs.Hints.{free_hint, free_lowest}
use Rattle.page_states.proofs.Olds.{olds_more, olds_less}

-- two owners have two slots
pub slot_tells : (a b : Owner) → slot a ≡ slot b → a ≡ b
slot_tells (Bucket a) (Bucket b) e = let same : a ≡ b = omega arith in ap Bucket same
slot_tells (Bucket a) (Part b) e = absurd (omega arith)
slot_tells (Part a) (Bucket b) e = absurd (omega arith)
slot_tells (Part a) (Part b) e = let same : a ≡ b = omega arith in ap Part same

-- a page that is not current changes no newest page
newest_stays : (states : List PageState) (newest : List (Option ℕ)) (p : ℕ) (y : PageState) → ((o : Owner) (from : ℕ) → y ≡ Live o from None → ⊥) → AreNewest states newest → AreNewest (slice_set states p y) newest
newest_stays states newest p y other old q o from has = elim (get_set states p q y (Live o from None) has) [ inl w ↦ absurd (other o from (sym w.1)) | inr w ↦ old q o from w.1 ]

-- a page that is not free keeps the hints
hints_stay : (states : List PageState) (hints : List ℕ) (p : ℕ) (y : PageState) → (y ≡ Free → ⊥) → AreHints states hints → AreHints (slice_set states p y) hints
hints_stay states hints p y other old q has = elim (get_set states p q y Free has) [ inl w ↦ absurd (other (sym w.1)) | inr w ↦ old q w.1 ]

-- a page that is not free keeps the first block
lowest_stays : (states : List PageState) (low p : ℕ) (y : PageState) → (y ≡ Free → ⊥) → IsLowest states low → IsLowest (slice_set states p y) low
lowest_stays states low p y other old q has = elim (get_set states p q y Free has) [ inl w ↦ absurd (other (sym w.1)) | inr w ↦ old q w.1 ]

-- equal fields are as sound
pub sound_same : (s t : List PageState) (m n : List (Option ℕ)) (c d a b l k h i : List ℕ) (w x e f : ℕ) → Sound s m c a l h w e
    → t ≡ s → n ≡ m → d ≡ c → b ≡ a → k ≡ l → i ≡ h → x ≡ w → f ≡ e → Sound t n d b k i x f
sound_same s t m n c d a b l k h i w x e f sound st nm dc ba kl ih xw fe =
    subst (λ (z : List PageState). Sound z n d b k i x f) (sym st) (subst (λ (z : List (Option ℕ)). Sound s z d b k i x f) (sym nm) (subst (λ (z : List ℕ). Sound s m z b k i x f) (sym dc)
    (subst (λ (z : List ℕ). Sound s m c z k i x f) (sym ba) (subst (λ (z : List ℕ). Sound s m c a z i x f) (sym kl) (subst (λ (z : List ℕ). Sound s m c a l z x f) (sym ih)
    (subst (λ (z : ℕ). Sound s m c a l h z f) (sym xw) (subst (λ (z : ℕ). Sound s m c a l h w z) (sym fe) sound)))))))

-- the replaced pages may stand otherwise in the two lists
pub sound_olds : (s : List PageState) (m : List (Option ℕ)) (c a b l k h : List ℕ) (w e : ℕ) → Sound s m c a l h w e → IsListOf is_replaced (b ++ k) s → Sound s m c b k h w e
sound_olds s m c a b l k h w e sound olds = record { few = sound.few; slots = sound.slots; blocks = sound.blocks; current = sound.current; claims = sound.claims; olds = olds; counted = sound.counted; hinted = sound.hinted; lowest = sound.lowest }

module _ (states : List PageState) (newest : List (Option ℕ)) (claimed anchored loose hints : List ℕ) (low free : ℕ)
    (sound : Sound states newest claimed anchored loose hints low free) (p : ℕ) where
  same_length : (y : PageState) → length (slice_set states p y) ≡ length states
  same_length y = length-set states p y

  -- a free page is claimed
  pub claim_keeps : (seat : ℕ) → slice_get states p ≡ Some Free → Sound (slice_set states p (Claimed seat)) newest (claimed ++ p ∷ []) anchored loose hints low (free - 1)
  claim_keeps seat has = record {
    few = omega (arith, same_length (Claimed seat), sound.few);
    slots = omega (arith, same_length (Claimed seat), sound.slots);
    blocks = sound.blocks ∙ ap (λ (n : ℕ). n / 256 + 1) (sym (same_length (Claimed seat)));
    current = newest_stays states newest p (Claimed seat) (λ o from e. cc) sound.current;
    claims = list_add is_claimed claimed states p Free (Claimed seat) has refl refl sound.claims;
    olds = list_same is_replaced (anchored ++ loose) states p Free (Claimed seat) has refl sound.olds;
    counted =
        let less : count_by is_free (slice_set states p (Claimed seat)) + 1 ≡ count_by is_free states + 0 = count_set is_free states p Free (Claimed seat) has in
        omega (arith, less, sound.counted);
    hinted = hints_stay states hints p (Claimed seat) (λ e. cc) sound.hinted;
    lowest = lowest_stays states low p (Claimed seat) (λ e. cc) sound.lowest;
  }

  -- the current page of an owner is replaced
  pub end_keeps : (owner : Owner) (from at : ℕ) → slice_get states p ≡ Some (Live owner from None) → Sound (slice_set states p (Live owner from (Some at))) newest claimed anchored (loose ++ p ∷ []) hints low free
  end_keeps owner from at has = record {
    few = omega (arith, same_length (Live owner from (Some at)), sound.few);
    slots = omega (arith, same_length (Live owner from (Some at)), sound.slots);
    blocks = sound.blocks ∙ ap (λ (n : ℕ). n / 256 + 1) (sym (same_length (Live owner from (Some at))));
    current = newest_stays states newest p (Live owner from (Some at)) (λ o f e. cc) sound.current;
    claims = list_same is_claimed claimed states p (Live owner from None) (Live owner from (Some at)) has refl sound.claims;
    olds = olds_more anchored loose states sound.olds p (Live owner from None) (Live owner from (Some at)) has refl refl;
    counted =
        let same : count_by is_free (slice_set states p (Live owner from (Some at))) + 0 ≡ count_by is_free states + 0 = count_set is_free states p (Live owner from None) (Live owner from (Some at)) has in
        omega (arith, same, sound.counted);
    hinted = hints_stay states hints p (Live owner from (Some at)) (λ e. cc) sound.hinted;
    lowest = lowest_stays states low p (Live owner from (Some at)) (λ e. cc) sound.lowest;
  }

  -- a claimed page becomes the current page of an owner who has none
  pub begin_keeps : (seat : ℕ) (owner : Owner) (at i d : ℕ) → slice_get states p ≡ Some (Claimed seat) → ((q from : ℕ) → slice_get states q ≡ Some (Live owner from None) → ⊥) → i < length claimed → get_or claimed i d ≡ p
      → slot owner < length newest → Sound (slice_set states p (Live owner at None)) (slice_set newest (slot owner) (Some p)) (swap_remove claimed i d) anchored loose hints low free
  begin_keeps seat owner at i d has alone inside there within = record {
    few = omega (arith, same_length (Live owner at None), sound.few);
    slots = omega (arith, same_length (Live owner at None), sound.slots, length-set newest (slot owner) (Some p));
    blocks = sound.blocks ∙ ap (λ (n : ℕ). n / 256 + 1) (sym (same_length (Live owner at None)));
    current = λ q o from is. elim (get_set states p q (Live owner at None) (Live o from None) is) [
      | inl w ↦
          let one : o ≡ owner = cc in
          let written : slice_get (slice_set newest (slot owner) (Some p)) (slot owner) ≡ Some (Some p) = get_set_same newest (slot owner) (Some p) within in
          ap (λ (z : Owner). slice_get (slice_set newest (slot owner) (Some p)) (slot z)) one ∙ written ∙ ap (λ (k : ℕ). Some (Some k)) (sym w.0)
      | inr w ↦
          let apart : slot o ≢ slot owner = λ e. alone q from (w.1 ∙ ap (λ (z : Owner). Some (Live z from None)) (slot_tells o owner e)) in
          get_set_other newest (slot owner) (slot o) (Some p) apart ∙ sound.current q o from w.1
    ];
    claims = list_out is_claimed claimed states p (Claimed seat) (Live owner at None) i d has inside there refl sound.claims;
    olds = list_same is_replaced (anchored ++ loose) states p (Claimed seat) (Live owner at None) has refl sound.olds;
    counted =
        let same : count_by is_free (slice_set states p (Live owner at None)) + 0 ≡ count_by is_free states + 0 = count_set is_free states p (Claimed seat) (Live owner at None) has in
        omega (arith, same, sound.counted);
    hinted = hints_stay states hints p (Live owner at None) (λ e. cc) sound.hinted;
    lowest = lowest_stays states low p (Live owner at None) (λ e. cc) sound.lowest;
  }

  in_blocks : (x : PageState) → slice_get states p ≡ Some x → p / 256 < length hints
  in_blocks x has =
      let within : p < length states = slice_get_within states p x has in
      omega (arith, within, sound.blocks)

  -- a claimed page is given back
  pub back_keeps : (seat v w i d : ℕ) → slice_get states p ≡ Some (Claimed seat) → i < length claimed → get_or claimed i d ≡ p → v ≤ p → v ≤ slice_index hints (p / 256) → w ≤ low → w ≤ p / 256
      → Sound (slice_set states p Free) newest (swap_remove claimed i d) anchored loose (slice_set hints (p / 256) v) w (free + 1)
  back_keeps seat v w i d has inside there under lower first here = record {
    few = omega (arith, same_length Free, sound.few);
    slots = omega (arith, same_length Free, sound.slots);
    blocks = length-set hints (p / 256) v ∙ sound.blocks ∙ ap (λ (n : ℕ). n / 256 + 1) (sym (same_length Free));
    current = newest_stays states newest p Free (λ o from e. cc) sound.current;
    claims = list_out is_claimed claimed states p (Claimed seat) Free i d has inside there refl sound.claims;
    olds = list_same is_replaced (anchored ++ loose) states p (Claimed seat) Free has refl sound.olds;
    counted =
        let more : count_by is_free (slice_set states p Free) + 0 ≡ count_by is_free states + 1 = count_set is_free states p (Claimed seat) Free has in
        omega (arith, more, sound.counted);
    hinted = free_hint states hints p v (in_blocks (Claimed seat) has) sound.hinted under lower;
    lowest = free_lowest states low p w first here sound.lowest;
  }

  -- a loose page is freed
  pub sweep_keeps : (owner : Owner) (from to v w i d : ℕ) → slice_get states p ≡ Some (Live owner from (Some to)) → i < length loose → get_or loose i d ≡ p → v ≤ p → v ≤ slice_index hints (p / 256) → w ≤ low → w ≤ p / 256
      → Sound (slice_set states p Free) newest claimed anchored (swap_remove loose i d) (slice_set hints (p / 256) v) w (free + 1)
  sweep_keeps owner from to v w i d has inside there under lower first here = record {
    few = omega (arith, same_length Free, sound.few);
    slots = omega (arith, same_length Free, sound.slots);
    blocks = length-set hints (p / 256) v ∙ sound.blocks ∙ ap (λ (n : ℕ). n / 256 + 1) (sym (same_length Free));
    current = newest_stays states newest p Free (λ o f e. cc) sound.current;
    claims = list_same is_claimed claimed states p (Live owner from (Some to)) Free has refl sound.claims;
    olds = olds_less anchored loose states sound.olds p (Live owner from (Some to)) Free i d has inside there refl;
    counted =
        let more : count_by is_free (slice_set states p Free) + 0 ≡ count_by is_free states + 1 = count_set is_free states p (Live owner from (Some to)) Free has in
        omega (arith, more, sound.counted);
    hinted = free_hint states hints p v (in_blocks (Live owner from (Some to)) has) sound.hinted under lower;
    lowest = free_lowest states low p w first here sound.lowest;
  }
