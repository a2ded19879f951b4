-- The pages that a scan has passed are good.
use Rattle.std.proofs.Common.{◌≡◌, ◌<◌, ◌+◌, ◌-◌, ℕ, zero, suc, List, [], ◌∷◌, ◌++◌, length, get_or, slice_index, sym, ap, subst, ◌∙◌, arith, refl, append_assoc, length-append}
use Rattle.std.specs.Prelude.{Some, slice_get, map, filter, ◌==◌}
use Rattle.std.proofs.lemmas.List.{append-nil}
use Rattle.std.proofs.lemmas.Option.{slice_get-get_or}
use Rattle.grid_types.specs.declared.shape.Shape.{Shape}
use Rattle.grid_types.specs.Pages.{page_of}
use Rattle.grid_types.specs.Shapes as places
use Rattle.grid_model.specs.Spellings.{LoggedBatch}
use Rattle.grid_model.specs.Images.{HasGatesOf, open_slots_of, HasBatches}
use Rattle.journal_slots.specs.Scans.{AreBatchesOn, SpellsSome, AreFirstGood, IsGoodUpTo}
use Rattle.journal_slots.proofs.OpenSlots.{open_below, open_split, open_more}

-- no page comes before the gate page
pub none_before : (K : ℕ) (s : Shape) (image : List ℕ) (half n : ℕ) → n ≡ 0 → IsGoodUpTo K s image half n
none_before K s image half n e = subst (λ (m : ℕ). IsGoodUpTo K s image half m) (sym e) tt

-- behind the gate page come the open slots
pub good_up_to : (K : ℕ) (s : Shape) (image : List ℕ) (half : ℕ) (gates : List ℕ) (n : ℕ) → HasGatesOf s image half gates → ((m : ℕ) → n ≡ suc m → AreFirstGood K s image half gates m) → IsGoodUpTo K s image half n
good_up_to K s image half gates zero spelled first = tt
good_up_to K s image half gates (suc m) spelled first = record { gates = gates; spelled = spelled; first = first m refl }

-- the open ones of the first slots stand at the front of the open ones of more slots
open_front : (gates : List ℕ) (half n m : ℕ) → (rest : List (ℕ × ℕ)) × (open_below gates half (n + m) ≡ open_below gates half n ++ rest)
open_front gates half n zero = ([], ap (open_below gates half) (omega arith) ∙ sym (append-nil (open_below gates half n)))
open_front gates half n (suc m) =
    let had = open_front gates half n m in
    let one : List (ℕ × ℕ) = map (λ i. (half, i)) (filter (λ i. slice_index gates i == 1) ((n + m) ∷ [])) in
    let next : n + suc m ≡ n + m + 1 = omega arith in
    (had.0 ++ one, ap (open_below gates half) next ∙ open_split gates half (n + m) ∙ ap (λ (xs : List (ℕ × ℕ)). xs ++ one) had.1 ∙ append_assoc (open_below gates half n) had.0 one)

pub front_get : {X : Type 0} (xs ys : List X) (i : ℕ) → i < length xs → slice_get (xs ++ ys) i ≡ slice_get xs i
front_get [] ys i lt = absurd (omega (arith, lt))
front_get (x ∷ xs) ys zero lt = refl
front_get (x ∷ xs) ys (suc i) lt = front_get xs ys i (omega (arith, lt))

-- where an open slot is the next one, those before it are the first ones
pub passed_good : {K : ℕ} (s : Shape) (image : List ℕ) (session half slot n : ℕ) (gates : List ℕ) (batches : List (LoggedBatch K)) → slot < length gates → slice_index gates slot ≡ 1 → n ≡ length (open_below gates half slot)
    → AreBatchesOn s image (open_below gates half slot) session batches → AreFirstGood K s image half gates n
passed_good {K = K} s image session half slot n gates batches lt one count found =
    let k = length gates - (slot + 1) in
    let end : slot + 1 + k ≡ length gates = omega (arith, lt) in
    let behind = open_front gates half (slot + 1) k in
    let all : open_slots_of gates half ≡ open_below gates half slot ++ ((half, slot) ∷ behind.0) =
    ap (open_below gates half) (sym end) ∙ behind.1 ∙ ap (λ (xs : List (ℕ × ℕ)). xs ++ behind.0) (open_more gates half slot one) ∙ append_assoc (open_below gates half slot) ((half, slot) ∷ []) behind.0 in
    record {
      more = omega (arith, count, ap length all, length-append (open_below gates half slot) ((half, slot) ∷ behind.0));
      each = λ i at low is.
          let lt : i < length (open_below gates half slot) = omega (arith, low, count) in
          let here : slice_get (open_below gates half slot) i ≡ Some at = sym (front_get (open_below gates half slot) ((half, slot) ∷ behind.0) i lt) ∙ ap (λ (xs : List (ℕ × ℕ)). slice_get xs i) (sym all) ∙ is in
          spells_at (open_below gates half slot) found.all i at (omega (arith, lt, found.each.count)) here found.each;
    }
  where
    spells_at : (slots : List (ℕ × ℕ)) (bs : List (LoggedBatch K)) (i : ℕ) (at : ℕ × ℕ) → i < length bs → slice_get slots i ≡ Some at → HasBatches s image slots bs → SpellsSome K (page_of (places.slot_page s at.0 at.1) image)
    spells_at slots [] i at lt is has = absurd (omega (arith, lt))
    spells_at slots (b ∷ bs) i at lt is has = record { batch = get_or (b ∷ bs) i b; spelled = has.each i at (get_or (b ∷ bs) i b) is (slice_get-get_or (b ∷ bs) i b lt) }
