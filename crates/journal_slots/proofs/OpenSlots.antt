-- What a scan has found up to a slot.
use Rattle.std.proofs.Common.{◌≡◌, ◌≢◌, ◌<◌, ◌≤◌, ◌⊎◌, inl, inr, ◌+◌, ◌==◌, ℕ, zero, suc, false, List, [], ◌∷◌, ◌++◌, length, get_or, slice_index, map, refl, sym, ap, subst, ◌∙◌, arith}
use Rattle.std.specs.Prelude.{Some, slice_get, filter, Bool}
use Rattle.std.specs.List.{range_with_len}
use Rattle.std.proofs.lemmas.Bool.{ne_eqb}
use Rattle.std.proofs.lemmas.List.{map-append, append-nil, length-map, get_or_append_left, get_or_at, length_push}
use Rattle.std.proofs.lemmas.List.Elements.{filter-append}
use Rattle.std.proofs.lemmas.List.FromFn.{length-range_with_len}
use Rattle.std.proofs.lemmas.List.Sums.{length-filter, count_by-le-length}
use Rattle.std.proofs.lemmas.Option.{slice_get_within, get_or_from_slice_get, slice_get-get_or}
use Rattle.grid_types.specs.declared.shape.Shape.{Shape}
use Rattle.grid_types.specs.Pages.{page_of}
use Rattle.grid_types.specs.Shapes as places
use Rattle.page_fields.proofs.Steps.{below_or_at}
use Rattle.grid_model.specs.Lists.{below}
use Rattle.grid_model.specs.Spellings.{LoggedBatch}
use Rattle.grid_model.specs.Images.{SpellsBatch, of_session}
use Rattle.journal_slots.specs.Scans.{AreBatchesOn, SpellsSome, IsMore}

-- the element of a list and one more at a place is one of the list, or the last
last_or_within : {X : Type 0} (xs : List X) (x y : X) (i : ℕ) → slice_get (xs ++ x ∷ []) i ≡ Some y → (slice_get xs i ≡ Some y) ⊎ ((i ≡ length xs) × (x ≡ y))
last_or_within xs x y i e =
    let lt = slice_get_within (xs ++ x ∷ []) i y e in
    let is : get_or (xs ++ x ∷ []) i x ≡ y = get_or_from_slice_get (xs ++ x ∷ []) i y x e in
    elim (below_or_at i (length xs) (omega (arith, lt, length_push xs x))) [
      | inl low ↦ inl (slice_get-get_or xs i x low ∙ ap Some (sym (get_or_append_left xs (x ∷ []) x i low) ∙ is))
      | inr at ↦ inr (at, sym (get_or_at xs x [] x i (sym at)) ∙ is)
    ]

-- the open ones of the first n slots of a half
abbrev pub open_below : List ℕ → ℕ → ℕ → List (ℕ × ℕ)
open_below gates half n = map (λ i. (half, i)) (filter (λ i. slice_index gates i == 1) (below n))

range_more : (a n : ℕ) → range_with_len a (n + 1) ≡ range_with_len a n ++ (a + n) ∷ []
range_more a zero = ap (λ (k : ℕ). k ∷ []) (omega arith)
range_more a (suc n) =
    let next : a + 1 + n ≡ a + suc n = omega arith in
    let step : suc n + 1 ≡ suc (n + 1) = omega arith in
    ap (range_with_len a) step ∙ ap (λ (r : List ℕ). a ∷ r) (range_more (a + 1) n ∙ ap (λ (k : ℕ). range_with_len (a + 1) n ++ k ∷ []) next)

below_more : (n : ℕ) → below (n + 1) ≡ below n ++ n ∷ []
below_more n = range_more 0 n ∙ ap (λ (k : ℕ). range_with_len 0 n ++ k ∷ []) (omega arith)

-- one slot more, open or closed
pub open_split : (gates : List ℕ) (half n : ℕ) → open_below gates half (n + 1) ≡ open_below gates half n ++ map (λ i. (half, i)) (filter (λ i. slice_index gates i == 1) (n ∷ []))
open_split gates half n =
    let test : ℕ → Bool = λ i. slice_index gates i == 1 in
    let pair : ℕ → ℕ × ℕ = λ i. (half, i) in
    ap (λ (ns : List ℕ). map pair (filter test ns)) (below_more n) ∙ ap (map pair) (filter-append test (below n) (n ∷ [])) ∙ map-append pair (filter test (below n)) (filter test (n ∷ []))

-- an open slot more
pub open_more : (gates : List ℕ) (half n : ℕ) → slice_index gates n ≡ 1 → open_below gates half (n + 1) ≡ open_below gates half n ++ (half, n) ∷ []
open_more gates half n e = open_split gates half n ∙ rw e refl

pub open_count : (gates : List ℕ) (half n : ℕ) → slice_index gates n ≡ 1 → length (open_below gates half (n + 1)) ≡ length (open_below gates half n) + 1
open_count gates half n e = ap length (open_more gates half n e) ∙ length_push (open_below gates half n) (half, n)

-- a closed slot changes nothing
pub open_same : (gates : List ℕ) (half n : ℕ) → slice_index gates n ≢ 1 → open_below gates half (n + 1) ≡ open_below gates half n
open_same gates half n ne = let f : (slice_index gates n == 1) ≡ false = ne_eqb (slice_index gates n) 1 ne in open_split gates half n ∙ rw f (append-nil (open_below gates half n))

-- there are at most as many open slots as slots
pub open_few : (gates : List ℕ) (half n : ℕ) → length (open_below gates half n) ≤ n
open_few gates half n =
    let test : ℕ → Bool = λ i. slice_index gates i == 1 in
    let pair : ℕ → ℕ × ℕ = λ i. (half, i) in
    omega (arith, length-map (filter test (below n)) pair, length-filter test (below n), count_by-le-length test (below n), length-range_with_len 0 n)

module _ {K : ℕ} (s : Shape) (image : List ℕ) (session : ℕ) where
  -- a slot more, and the batch that its page spells
  pub one_more : (slots : List (ℕ × ℕ)) (half slot : ℕ) (batches more : List (LoggedBatch K)) (b : LoggedBatch K) → AreBatchesOn s image slots session batches → SpellsBatch (page_of (places.slot_page s half slot) image) b → more ≡ batches ++ of_session session (b ∷ [])
      → AreBatchesOn s image (slots ++ (half, slot) ∷ []) session more
  one_more slots half slot batches more b had spelled e = record {
    all = had.all ++ b ∷ [];
    each = record {
      count = omega (arith, length_push had.all b, length_push slots (half, slot), had.each.count);
      each = λ i t c e f. elim (last_or_within slots (half, slot) t i e) [
        | inl old ↦ elim (last_or_within had.all b c i f) [
          | inl was ↦ had.each.each i t c old was
          | inr at ↦ absurd (omega (arith, slice_get_within slots i t old, at.0, had.each.count))
        ]
        | inr new ↦ elim (last_or_within had.all b c i f) [
          | inl was ↦ absurd (omega (arith, slice_get_within had.all i c was, new.0, had.each.count))
          | inr at ↦ subst (λ (d : LoggedBatch K). SpellsBatch (page_of (places.slot_page s t.0 t.1) image) d) at.1 (subst (λ (u : ℕ × ℕ). SpellsBatch (page_of (places.slot_page s u.0 u.1) image) b) new.1 spelled)
        ]
      ];
    };
    are = e ∙ ap (λ (bs : List (LoggedBatch K)). bs ++ of_session session (b ∷ [])) had.are ∙ sym (filter-append (λ (x : LoggedBatch K). x.session == session) had.all (b ∷ []));
  }

  -- what a scan has found, once it has passed an open slot
  pub found_more : (gates : List ℕ) (half slot page : ℕ) (seen : List ℕ) (batches more : List (LoggedBatch K)) → seen ≡ image → page ≡ places.slot_page s half slot → slice_index gates slot ≡ 1 → IsMore (page_of page seen) session batches more
      → AreBatchesOn s image (open_below gates half slot) session batches → AreBatchesOn s image (open_below gates half (slot + 1)) session more
  found_more gates half slot page seen batches more same is one m had =
      let bytes : page_of page seen ≡ page_of (places.slot_page s half slot) image = λ i. page_of (is i) (same i) in
      subst (λ (slots : List (ℕ × ℕ)). AreBatchesOn s image slots session more) (sym (open_more gates half slot one))
      (one_more (open_below gates half slot) half slot batches more m.batch had (subst (λ (b : List ℕ). SpellsBatch b m.batch) bytes m.spelled) m.are)

  pub before_more : (gates : List ℕ) (half slot page : ℕ) (seen : List ℕ) (batches more : List (LoggedBatch K)) → seen ≡ image → page ≡ places.slot_page s half slot → IsMore (page_of page seen) session batches more
      → ((i : ℕ) → i < slot → slice_index gates i ≡ 1 → SpellsSome K (page_of (places.slot_page s half i) image)) → (i : ℕ) → i < slot + 1 → slice_index gates i ≡ 1 → SpellsSome K (page_of (places.slot_page s half i) image)
  before_more gates half slot page seen batches more same is m before i lt one = elim (below_or_at i slot lt) [
    | inl low ↦ before i low one
    | inr at ↦
        let bytes : page_of page seen ≡ page_of (places.slot_page s half i) image = λ j. page_of ((is ∙ ap (places.slot_page s half) (sym at)) j) (same j) in
        record { batch = m.batch; spelled = subst (λ (b : List ℕ). SpellsBatch b m.batch) bytes m.spelled }
  ]

  -- a closed slot is passed
  pub before_same : (gates : List ℕ) (half slot : ℕ) → slice_index gates slot ≢ 1
      → ((i : ℕ) → i < slot → slice_index gates i ≡ 1 → SpellsSome K (page_of (places.slot_page s half i) image)) → (i : ℕ) → i < slot + 1 → slice_index gates i ≡ 1 → SpellsSome K (page_of (places.slot_page s half i) image)
  before_same gates half slot ne before i lt one = elim (below_or_at i slot lt) [
    | inl low ↦ before i low one
    | inr at ↦ absurd (ne (ap (λ (k : ℕ). slice_index gates k) (sym at) ∙ one))
  ]
