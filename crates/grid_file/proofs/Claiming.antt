-- Pages that are claimed behind others are claimed beside these, and none is there twice.
use Rattle.std.proofs.Common.{◌≡◌, ◌≢◌, ◌<◌, ◌≤◌, ◌+◌, ◌-◌, ◌⊎◌, inl, inr, ℕ, zero, suc, List, [], ◌∷◌, ◌++◌, Some, refl, sym, ap, ◌∙◌, subst, length, take, length-append, arith}
use Rattle.std.specs.Prelude.{slice_get, slice_set, slice_index, min}
use Rattle.std.specs.List.{count_by}
use Rattle.std.proofs.lemmas.Bool.{cases_eq, cases_lt}
use Rattle.std.proofs.lemmas.List.{length-take, length-take-le, get_or-take, get_or_append_left, get_or-append_right}
use Rattle.std.proofs.lemmas.Option.{slice_get_within, same_Some}
use Rattle.page_states.specs.declared.page_state.PageState.{PageState}
use Rattle.page_states.specs.declared.page_state.PageState.TheVariants.{Free, Claimed, Live}
use Rattle.page_states.specs.Changes.{ArePublishable}
use Rattle.page_states.specs.Effects.{free_from, free_pages, claim_all}
use Rattle.page_states.specs.States.{is_free}
use Rattle.page_states.proofs.Claims.{free_length}
use Rattle.page_states.proofs.ClaimedPages.{claimed_pages_are_the_seats}
use Rattle.page_states.proofs.Lists.{get_set_same, get_set_other}
use Rattle.grid_file.specs.Files.{AreClaimedBy}

-- the free pages ascend
free_high : (n j : ℕ) (xs : List PageState) → j < length (free_from n xs) → n ≤ slice_index (free_from n xs) j
free_high n j [] low = absurd (omega (arith, low))
free_high n zero (Free ∷ xs) low = omega arith
free_high n (suc j) (Free ∷ xs) low = let rest : n + 1 ≤ slice_index (free_from (n + 1) xs) j = free_high (n + 1) j xs (omega (arith, low)) in omega (arith, rest)
free_high n j (Claimed s ∷ xs) low = let rest : n + 1 ≤ slice_index (free_from (n + 1) xs) j = free_high (n + 1) j xs low in omega (arith, rest)
free_high n j (Live o from to ∷ xs) low = let rest : n + 1 ≤ slice_index (free_from (n + 1) xs) j = free_high (n + 1) j xs low in omega (arith, rest)

free_ascend : (n i j : ℕ) (xs : List PageState) → i < j → j < length (free_from n xs) → slice_index (free_from n xs) i < slice_index (free_from n xs) j
free_ascend n i j [] less low = absurd (omega (arith, low))
free_ascend n i zero (Free ∷ xs) less low = absurd (omega (arith, less))
free_ascend n zero (suc j) (Free ∷ xs) less low = let rest : n + 1 ≤ slice_index (free_from (n + 1) xs) j = free_high (n + 1) j xs (omega (arith, low)) in omega (arith, rest)
free_ascend n (suc i) (suc j) (Free ∷ xs) less low = free_ascend (n + 1) i j xs (omega (arith, less)) (omega (arith, low))
free_ascend n i j (Claimed s ∷ xs) less low = free_ascend (n + 1) i j xs less low
free_ascend n i j (Live o from to ∷ xs) less low = free_ascend (n + 1) i j xs less low

-- each is free
free_is : (n i : ℕ) (xs : List PageState) → i < length (free_from n xs) → (k : ℕ) × (slice_index (free_from n xs) i ≡ n + k) × (slice_get xs k ≡ Some Free)
free_is n i [] low = absurd (omega (arith, low))
free_is n zero (Free ∷ xs) low = (0, omega arith, refl)
free_is n (suc i) (Free ∷ xs) low = let rest = free_is (n + 1) i xs (omega (arith, low)) in (suc rest.0, omega (arith, rest.1), rest.2)
free_is n i (Claimed s ∷ xs) low = let rest = free_is (n + 1) i xs low in (suc rest.0, omega (arith, rest.1), rest.2)
free_is n i (Live o from to ∷ xs) low = let rest = free_is (n + 1) i xs low in (suc rest.0, omega (arith, rest.1), rest.2)

-- a page of the seat stays so while others are claimed
stays_claimed : (seat p : ℕ) (pages : List ℕ) (states : List PageState) → slice_get states p ≡ Some (Claimed seat) → slice_get (claim_all seat pages states) p ≡ Some (Claimed seat)
stays_claimed seat p [] states has = has
stays_claimed seat p (q ∷ pages) states has = stays_claimed seat p pages (slice_set states q (Claimed seat)) (elim (cases_eq p q) [
  | inl e ↦ subst (λ (n : ℕ). slice_get (slice_set states n (Claimed seat)) p ≡ Some (Claimed seat)) e (get_set_same states p (Claimed seat) (slice_get_within states p (Claimed seat) has))
  | inr apart ↦ get_set_other states q p (Claimed seat) apart ∙ has
])

-- as many free pages as are counted
pub many_free : (count : ℕ) (states : List PageState) → count ≤ count_by is_free states → length (take count (free_pages states)) ≡ count
many_free count states few = let many : length (free_pages states) ≡ count_by is_free states = free_length 0 states in length-take-le count (free_pages states) (omega (arith, few, many))

module _ (seat count : ℕ) (states : List PageState) (old : List ℕ) (were : AreClaimedBy seat states old) where
  abbrev new : List ℕ
  new = take count (free_pages states)

  bounds : (i : ℕ) → i < length new → (i < count) × (i < length (free_pages states))
  bounds i low = let long : length new ≡ min count (length (free_pages states)) = length-take count (free_pages states) in (omega (arith, long, low), omega (arith, long, low))

  at : (i : ℕ) → i < length new → slice_index new i ≡ slice_index (free_pages states) i
  at i low = get_or-take count (free_pages states) i 0 (bounds i low).0

  new_free : (i : ℕ) → i < length new → slice_get states (slice_index new i) ≡ Some Free
  new_free i low =
      let is = free_is 0 i states (bounds i low).1 in
      let same : slice_index new i ≡ is.0 = omega (arith, at i low, is.1) in
      ap (slice_get states) same ∙ is.2

  left : (i : ℕ) → i < length old → slice_index (old ++ new) i ≡ slice_index old i
  left i low = get_or_append_left old new 0 i low

  right : (i : ℕ) → length old ≤ i → slice_index (old ++ new) i ≡ slice_index new (i - length old)
  right i high = get_or-append_right old new (length old) i 0 refl high

  long : length (old ++ new) ≡ length old + length new
  long = length-append old new

  each_claimed : (i : ℕ) → i < length (old ++ new) → slice_get (claim_all seat new states) (slice_index (old ++ new) i) ≡ Some (Claimed seat)
  each_claimed i low = elim (cases_lt i (length old)) [
    | inl less ↦ ap (slice_get (claim_all seat new states)) (left i less) ∙ stays_claimed seat (slice_index old i) new states (were.each i less)
    | inr high ↦ ap (slice_get (claim_all seat new states)) (right i high) ∙ claimed_pages_are_the_seats seat count (i - length old) new states refl (omega (arith, low, high, long))
  ]

  new_apart : (i j : ℕ) → i < j → j < length new → slice_index new j ≢ slice_index new i
  new_apart i j less low e =
      let ascends : slice_index (free_pages states) i < slice_index (free_pages states) j = free_ascend 0 i j states less (bounds j low).1 in
      absurd (omega (arith, e, ascends, at i (omega (arith, less, low)), at j low))

  -- a page that was claimed is none that was free
  both_apart : (i j : ℕ) → i < length old → j < length new → slice_index new j ≢ slice_index old i
  both_apart i j less low e =
      let same : Some Free ≡ Some (Claimed seat) = sym (new_free j low) ∙ ap (slice_get states) e ∙ were.each i less in
      free_unclaimed (same_Some Free (Claimed seat) same)
    where
      free_unclaimed : {A : Type 0} → Free ≡ Claimed seat → A
      free_unclaimed f = absurd (cc)

  all_apart : (i j : ℕ) → i < j → j < length (old ++ new) → slice_index (old ++ new) j ≢ slice_index (old ++ new) i
  all_apart i j less low = by (cases_lt i (length old)) (cases_lt j (length old))
    where
      by : (i < length old) ⊎ (length old ≤ i) → (j < length old) ⊎ (length old ≤ j) → slice_index (old ++ new) j ≢ slice_index (old ++ new) i
      by (inl a) (inl b) e = were.distinct i j less b (sym (left j b) ∙ e ∙ left i a)
      by (inl a) (inr b) e = both_apart i (j - length old) a (omega (arith, low, b, long)) (sym (right j b) ∙ e ∙ left i a)
      by (inr a) (inl b) e = absurd (omega (arith, less, a, b))
      by (inr a) (inr b) e = new_apart (i - length old) (j - length old) (omega (arith, less, a)) (omega (arith, low, b, long)) (sym (right j b) ∙ e ∙ right i a)

  pub claimed_beside : AreClaimedBy seat (claim_all seat new states) (old ++ new)
  claimed_beside = record { each = each_claimed; distinct = all_apart }

-- no pages are claimed
pub none_claimed : (seat : ℕ) (states : List PageState) → AreClaimedBy seat states []
none_claimed seat states = record { each = λ i low. absurd (omega (arith, low)); distinct = λ i j less low. absurd (omega (arith, low)) }

-- what is claimed may be published
pub publishable : (seat : ℕ) (states : List PageState) (pages : List ℕ) → AreClaimedBy seat states pages → ArePublishable pages states
publishable seat states pages are = record { claimed = λ i low. (seat, are.each i low); distinct = are.distinct }
