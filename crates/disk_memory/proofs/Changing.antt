-- An image in which each byte that is not on the disk becomes another one, range by range.
use Rattle.std.proofs.Common.{◌≡◌, ◌≢◌, ◌<◌, ◌≤◌, ◌+◌, ◌⊎◌, inl, inr, ℕ, List, [], ◌∷◌, length, map, take, get_or, slice_index, sym, ap, subst, ◌∙◌}
use Rattle.std.proofs.lemmas.List.{take_all}
use Rattle.disk_trait.specs.Moments.{IsOutside, AgreesOutside}
use Rattle.disk_memory.specs.declared.history.Event.{Event}
use Rattle.disk_memory.specs.Events.{change_of}
use Rattle.disk_memory.specs.Past.{Change, turned, contents_after}
use Rattle.disk_memory.specs.OnDisk.{IsInside, IsOther}
use Rattle.disk_memory.proofs.Ranges.{by_range}
use Rattle.disk_memory.proofs.Walks.{contents_next}

-- the ranges that are dirty after the first events
abbrev pub dirty_after : List ℕ → List Event → ℕ → List (ℕ × ℕ)
dirty_after first events n = (contents_after first (map change_of (take n events))).dirty

-- an image of which some bytes are other ones already, and those in the ranges that are left are not yet
pub record IsChanging (all left : List (ℕ × ℕ)) (bytes synced first image : List ℕ) : Type 0 where
  pub outside : AgreesOutside all first image
  pub still : (i : ℕ) → IsOutside all i → IsOutside left i
  pub inside : (i : ℕ) → IsInside all i → IsInside left i ⊎ IsOther bytes synced image i

-- the bytes of one range more are other ones
pub changing_next : (all left : List (ℕ × ℕ)) (at n : ℕ) (bytes synced first image new : List ℕ) → IsChanging all ((at, n) ∷ left) bytes synced first image → length new ≡ length image
    → ((i : ℕ) → at ≤ i → i < at + n → IsOther bytes synced new i) → ((i : ℕ) → (i < at) ⊎ (at + n ≤ i) → slice_index new i ≡ slice_index image i) → IsChanging all left bytes synced first new
changing_next all left at n bytes synced first image new c long inner outer = record {
  outside = record { same_length = long ∙ c.outside.same_length; each = λ i o. outer i (c.still i o).0 ∙ c.outside.each i o };
  still = λ i o. (c.still i o).1;
  inside = λ i h. elim (c.inside i h) [
    | inl (inl here) ↦ inr (inner i here.0 here.1)
    | inl (inr there) ↦ inl there
    | inr other ↦ elim (by_range i at n) [
      | inl lt ↦ inr (subst (λ (x : ℕ). (x ≢ slice_index bytes i) × (x ≢ slice_index synced i)) (sym (outer i (inl lt))) other)
      | inr (inl here) ↦ inr (inner i here.0 here.1)
      | inr (inr gt) ↦ inr (subst (λ (x : ℕ). (x ≢ slice_index bytes i) × (x ≢ slice_index synced i)) (sym (outer i (inr gt))) other)
    ]
  ];
}

-- the same, where the range is that of an event
pub changing_event : (first : List ℕ) (events : List Event) (k : ℕ) (all left : List (ℕ × ℕ)) (at size : ℕ) (bytes synced start image new : List ℕ) → left ≡ (at, size) ∷ dirty_after first events k → IsChanging all left bytes synced start image → length new ≡ length image
    → ((i : ℕ) → at ≤ i → i < at + size → IsOther bytes synced new i) → ((i : ℕ) → (i < at) ⊎ (at + size ≤ i) → slice_index new i ≡ slice_index image i) → IsChanging all (dirty_after first events k) bytes synced start new
changing_event first events k all left at size bytes synced start image new e c long inner outer =
    changing_next all (dirty_after first events k) at size bytes synced start image new (subst (λ rs. IsChanging all rs bytes synced start image) e c) long inner outer

-- no range is left
pub changing_done : (all left : List (ℕ × ℕ)) (bytes synced first image : List ℕ) → IsChanging all left bytes synced first image → left ≡ [] → (i : ℕ) → IsInside all i → IsOther bytes synced image i
changing_done all left bytes synced first image c none i h = elim (c.inside i h) [
  | inl there ↦ absurd (subst (λ rs. IsInside rs i) none there)
  | inr other ↦ other
]

-- what one event adds to them
pub dirty_next : (first : List ℕ) (events : List Event) (k n : ℕ) (d : Event) (e : Change) → k < length events → n ≡ k + 1 → change_of (get_or events k d) ≡ e → dirty_after first events n ≡ (turned (contents_after first (map change_of (take k events))) e).dirty
dirty_next first events k n d e lt is same = ap (λ h. h.dirty) (contents_next first events k n d lt is ∙ ap (turned (contents_after first (map change_of (take k events)))) same)

pub dirty_all : (first : List ℕ) (events : List Event) (n : ℕ) → length events ≤ n → dirty_after first events n ≡ (contents_after first (map change_of events)).dirty
dirty_all first events n le = ap (λ es. (contents_after first (map change_of es)).dirty) (take_all n events le)
