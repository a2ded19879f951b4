-- A batch in doubt either left no trace that counts, or stands on its slot.
use Rattle.std.proofs.Common.{◌≡◌, ◌≢◌, ◌<◌, ◌≤◌, ◌⊎◌, inl, inr, ℕ, List, refl, subst, arith}
use Rattle.std.proofs.lemmas.Bool.{cases_eq}
use Rattle.disk_trait.proofs.Ranges.{outside_same}
use Rattle.grid_types.specs.Ranges.{slot_ranges}
use Rattle.grid_model.specs.Spellings.{LoggedBatch}
use Rattle.grid_model.specs.Slots.{HasBatch}
use Rattle.file_images.specs.Kept.{Counting, Barred, NextSlot, Shut, Flying, InDoubt, Kept, used}
use Rattle.file_images.specs.Shows.{gate_in, ShowsNext, Shows}
use Rattle.file_images.specs.Steps.{ruled, with_slot, with_barred, with_next_shut}
use Rattle.file_images.proofs.Committing.{placed}

-- the batch in doubt stands on its slot, and is barred or counts
pub record IsPlaced {K : ℕ} (k : Kept K) (image : List ℕ) (d : LoggedBatch K) : Type 0 where
  pub is : k.next ≡ InDoubt d
  pub spelled : HasBatch k.shape k.half (used k k.half) d image
  pub how : Shows (with_barred k d) image ⊎ Shows (with_slot k d) image

-- the image shows what is kept with nothing on the next slot; or the batch in doubt stands there
abbrev pub IsResolved : {K : ℕ} → Kept K → List ℕ → Type 0
IsResolved {K} k image = Shows (with_next_shut k) image ⊎ ((d : LoggedBatch K) × IsPlaced k image d)

module _ {K : ℕ} (k : Kept K) (image : List ℕ) (was : Shows k image) where
  emptied : (used k k.half < k.shape.slots → gate_in k.shape k.half (used k k.half) image ≡ 0) → Shows (with_next_shut k) image
  emptied zero_there = record {
    sizes = record { two = was.sizes.two; first = was.sizes.first; second = was.sizes.second };
    shape = was.shape;
    roots = was.roots;
    pages = was.pages;
    formed = was.formed;
    slots = was.slots;
    unused = λ h i is. was.unused h i (record { two = is.two; inside = is.inside; behind = is.behind; apart = is.apart });
    next = zero_there;
  }

  settled_by_gate : (d : LoggedBatch K) → used k k.half < k.shape.slots → HasBatch k.shape k.half (used k k.half) d image → Shows (with_barred k d) image ⊎ Shows (with_slot k d) image
  settled_by_gate d lt spelled = elim (cases_eq (gate_in k.shape k.half (used k k.half) image) 1) [
    | inl one ↦ inr (placed k image image was lt (outside_same (slot_ranges k.shape k.half (used k k.half)) image) (ruled d Counting) (record { spelled = spelled; gate = one }))
    | inr other ↦ inl (placed k image image was lt (outside_same (slot_ranges k.shape k.half (used k k.half)) image) (ruled d Barred) (record { spelled = spelled; gate = other }))
  ]

  pub resolved_by : (n : NextSlot K) → k.next ≡ n → n ≢ Flying → IsResolved k image
  resolved_by Shut is still = inl (emptied (λ lt. subst (λ (n : NextSlot K). ShowsNext k.shape k.half (used k k.half) n image) is (was.next lt)))
  resolved_by Flying is still = absurd (still refl)
  resolved_by (InDoubt d) is still = elim (split (used k k.half) k.shape.slots) [
    | inr full ↦ inl (emptied (λ lt. absurd (omega (arith, lt, full))))
    | inl lt ↦ elim (subst (λ (n : NextSlot K). ShowsNext k.shape k.half (used k k.half) n image) is (was.next lt)) [
      | inl zero_there ↦ inl (emptied (λ less. zero_there))
      | inr spelled ↦ inr (d, record { is = is; spelled = spelled; how = settled_by_gate d lt spelled })
    ]
  ]
    where
      split : (i n : ℕ) → (i < n) ⊎ (n ≤ i)
      split i n = grind arith
