-- The slots that gates name are slots of the file.
use Rattle.std.proofs.Common.{◌≡◌, ◌<◌, ◌≤◌, ◌+◌, ◌==◌, ℕ, zero, suc, not, drop, List, map, filter, length, Some, slice_get, slice_index, All, subst, arith}
use Rattle.std.proofs.lemmas.List.Elements.{All-append, All-map, All-filter, All-nil, All-cons}
use Rattle.std.proofs.lemmas.List.FromFn.{length-range_with_len}
use Rattle.std.specs.List.{list_any, range_with_len}
use Rattle.std.proofs.lemmas.Option.{slice_get_within, get_or_from_slice_get}
use Rattle.grid_types.specs.declared.shape.Shape.{Shape}
use Rattle.grid_model.specs.Lists.{below}
use Rattle.grid_model.proofs.Counts.{length-part}
use Rattle.grid_model.specs.Images.{HasGates, Gates, open_slots, open_slots_of, written_slots, last_gate}

-- a slot of the file: its half is one of two, and it is one of the half's
abbrev pub IsSlot : Shape → ℕ × ℕ → Type 0
IsSlot s slot = (slot.0 < 2) × (slot.1 < s.slots)

-- each number of a range is below its end
range-below : (a n m : ℕ) → a + n ≤ m → All (λ i. i < m) (range_with_len a n)
range-below a zero m le = All-nil (λ i. i < m)
range-below a (suc n) m le = All-cons (λ i. i < m) a (range_with_len (a + 1) n) (omega (arith, le)) (range-below (a + 1) n m (omega (arith, le)))

-- slots of a half by numbers below those that it has
slots-of : (s : Shape) (half : ℕ) (is : List ℕ) → half < 2 → All (λ i. i < s.slots) is → All (IsSlot s) (map (λ i. (half, i)) is)
slots-of s half is two each = All-map (IsSlot s) (λ i. (half, i)) is (λ k d lt. (two, each k d lt))

length-below : (n : ℕ) → length (below n) ≡ n
length-below n = length-range_with_len 0 n

module _ (s : Shape) (image : List ℕ) (g : Gates) (has : HasGates s image g) where
  opened : (half : ℕ) (gates : List ℕ) → half < 2 → length gates ≡ s.slots → All (IsSlot s) (open_slots_of gates half)
  opened half gates two count = slots-of s half (filter (λ i. slice_index gates i == 1) (below (length gates))) two
      (All-filter (λ i. slice_index gates i == 1) (λ i. i < s.slots) (below (length gates)) (range-below 0 (length gates) s.slots (omega (arith, count))))

  -- the open slots are slots of the file
  pub open-are-slots : All (IsSlot s) (open_slots g)
  open-are-slots = All-append (IsSlot s) (open_slots_of g.first 0) (open_slots_of g.second 1) (opened 0 g.first (omega arith) has.first.count) (opened 1 g.second (omega arith) has.second.count)

  up_to_last : (half : ℕ) (gates : List ℕ) → half < 2 → length gates ≡ s.slots → All (IsSlot s) (map (λ i. (half, i)) (below (last_gate gates)))
  up_to_last half gates two count =
      let few = length-part (λ i. list_any (λ g. not (g == 0)) (drop i gates)) (below (length gates)) in
      slots-of s half (below (last_gate gates)) two (range-below 0 (last_gate gates) s.slots (omega (arith, few, length-below (length gates), count)))

  -- so are those up to the last gate
  pub written-are-slots : All (IsSlot s) (written_slots g)
  written-are-slots = All-append (IsSlot s) (map (λ i. (0, i)) (below (last_gate g.first))) (map (λ i. (1, i)) (below (last_gate g.second))) (up_to_last 0 g.first (omega arith) has.first.count) (up_to_last 1 g.second (omega arith) has.second.count)

-- an item that is there has what each item has
pub item-has : {X : Type 0} (P : X → Type 0) (xs : List X) (i : ℕ) (x : X) → All P xs → slice_get xs i ≡ Some x → P x
item-has P xs i x each at = subst P (get_or_from_slice_get xs i x x at) (each i x (slice_get_within xs i x at))
