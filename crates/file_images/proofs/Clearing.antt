-- What an image shows while the gates of the half that is not current are closed, and afterwards.
use Rattle.std.proofs.Common.{◌≡◌, ◌≢◌, ◌<◌, ◌≤◌, ◌⊎◌, inl, inr, ◌+◌, ℕ, zero, suc, List, [], ◌∷◌, length, map, refl, sym, ap, subst, ◌∙◌, arith}
use Rattle.std.specs.Prelude.{slice_get, Option, Some}
use Rattle.std.proofs.lemmas.Bool.{cases_eq}
use Rattle.std.proofs.lemmas.List.{length-map}
use Rattle.std.proofs.lemmas.Option.{same_Some}
use Rattle.grid_types.specs.declared.shape.Shape.{Shape}
use Rattle.grid_types.specs.Pages.{page_of}
use Rattle.grid_types.specs.Ranges.{own_page}
use Rattle.grid_types.specs.Shapes.{area_pages, header_page, slot_page, data_page, slot_gate_at}
use Rattle.grid_types.specs.Shapes as places
use Rattle.disk_trait.specs.Disk.{Agrees}
use Rattle.disk_trait.proofs.Pages.{byte_apart}
use Rattle.grid_model.specs.Images.{HasGatesOf}
use Rattle.grid_model.specs.Roots.{WholeRoot}
use Rattle.grid_model.proofs.Boxes.{some-not-none}
use Rattle.journal_slots.specs.Gates.{IsGatePage, gates_in}
use Rattle.journal_slots.proofs.DifferentPages.{gate_pages_differ, slot_page_is_no_gate_page}
use Rattle.journal_slots.proofs.Frames.{gate_at_is, gate_byte_stays_by_page, page_stays_in_clearing, gates_in_clearing}
use Rattle.file_roots.proofs.Headers.{header_two}
use Rattle.file_images.specs.Kept.{PlacedBatch, OtherHeader, Kept, of_half, on_half, used}
use Rattle.file_images.specs.Shows.{HoldsPages, gate_in, ShowsPlaced, ShowsNext, Shows}
use Rattle.file_images.specs.Meets.{IsLooseUnder}
use Rattle.file_images.specs.Steps.{loosened, first_by, second_by, none_used, with_loose, with_shut}
use Rattle.file_images.proofs.PagesApart.{few, table_below, gate_high, gate_below}
use Rattle.file_images.proofs.Frames.{used_few, used_slot, shape_stays, roots_stay, loose_stays, placed_stays, next_stays, gate_page_stays}

module _ {X : Type 0} (f : X → X) (x y : X) where
  pub by_here : (h : ℕ) → of_half (first_by h f x) (second_by h f y) h ≡ f (of_half x y h)
  by_here zero = refl
  by_here (suc h) = refl

  pub by_other : (h j : ℕ) → h < 2 → j < 2 → j ≢ h → of_half (first_by h f x) (second_by h f y) j ≡ of_half x y j
  by_other zero zero two too apart = absurd (apart refl)
  by_other zero (suc j) two too apart = refl
  by_other (suc h) zero two too apart = refl
  by_other (suc h) (suc j) two too apart = absurd (apart (omega (arith, two, too)))

-- an element of a list whose elements were made looser
pub from_loose : {K : ℕ} (xs : List (PlacedBatch K)) (i : ℕ) (p : PlacedBatch K) → slice_get (map loosened xs) i ≡ Some p → (q : PlacedBatch K) × (slice_get xs i ≡ Some q) × (p ≡ loosened q)
from_loose [] i p is = absurd (some-not-none p (sym is))
from_loose (x ∷ xs) zero p is = (x, refl, sym (same_Some (loosened x) p is))
from_loose (x ∷ xs) (suc i) p is = from_loose xs i p is

module _ {K : ℕ} (k : Kept K) (c d : List ℕ) (was : Shows k c) (h : ℕ) (two : h < 2) (apart : h ≢ k.half) (a : Agrees (slot_gate_at k.shape h 0) (used k h) c d) where
  abbrev s : Shape
  s = k.shape

  abbrev gp : ℕ
  gp = places.gate_page k.shape h

  fits : 0 + used k h ≤ s.slots
  fits = omega (arith, used_few k h two was.sizes)

  same : (p : ℕ) → p ≢ gp → page_of p d ≡ page_of p c
  same p off = page_stays_in_clearing s h 0 (used k h) was.shape.lawful two fits c d a p off

  formed_here : IsGatePage h s.slots (page_of gp d)
  formed_here =
      let old = was.formed h two in
      let there : HasGatesOf s c h old.gates = record { count = old.count; page = old.spelled } in
      let now = gates_in_clearing s h 0 (used k h) was.shape.lawful two fits c d a old.gates there in
      record { gates = gates_in s.slots (page_of gp d); count = now.count; spelled = now.page }

  formed_all : (j : ℕ) → j < 2 → IsGatePage j s.slots (page_of (places.gate_page s j) d)
  formed_all j too = elim (cases_eq j h) [
    | inl e ↦ subst (λ (n : ℕ). IsGatePage n s.slots (page_of (places.gate_page s n) d)) (sym e) formed_here
    | inr off ↦ gate_page_stays j s.slots _ _ (same (places.gate_page s j) (gate_pages_differ s j h too two off)) (was.formed j too)
  ]

  headers_same : (j : ℕ) → j < 2 → page_of j d ≡ page_of j c
  headers_same j too = same j (λ e. absurd (omega (arith, e, too, gate_high s was.shape.lawful h two)))

  area_same : (w : WholeRoot) (i : ℕ) → i < area_pages s → page_of (own_page s w.fields.number i) d ≡ page_of (own_page s w.fields.number i) c
  area_same w i lt = same (own_page s w.fields.number i) (λ e. absurd (omega (arith, e, table_below s was.shape.lawful (header_page w.fields.number) i h (header_two w.fields.number) two lt)))

  data_same : (p : ℕ) → page_of (data_page s p) d ≡ page_of (data_page s p) c
  data_same p = same (data_page s p) (λ e. absurd (omega (arith, e, gate_below s was.shape.lawful h p two)))

  slot_same : (j i : ℕ) → j < 2 → i < s.slots → page_of (slot_page s j i) d ≡ page_of (slot_page s j i) c
  slot_same j i too lt = same (slot_page s j i) (slot_page_is_no_gate_page s j i h too two lt)

  -- what stands under the gate of the other header page stays
  pub loose_in_clearing : (other : OtherHeader) → IsLooseUnder k other c → IsLooseUnder k other d
  loose_in_clearing other = loose_stays k other c d headers_same (λ w m. area_same w)

  -- header pages and data pages stay
  pub header_in_clearing : (n : ℕ) → page_of (header_page n) d ≡ page_of (header_page n) c
  header_in_clearing n = headers_same (header_page n) (header_two n)

  pub holds_in_clearing : (pages : List (Option (List ℕ))) → HoldsPages s pages c → HoldsPages s pages d
  holds_in_clearing pages old p bytes is = data_same p ∙ old p bytes is

  -- a gate of the other half stays, and so does each gate behind the used slots
  gate_same : (j i : ℕ) → j < 2 → i < s.slots → (j ≢ h) ⊎ (used k h ≤ i) → gate_in s j i d ≡ gate_in s j i c
  gate_same j i too lt off = elim (cases_eq j h) [
    | inr other ↦ gate_byte_stays_by_page s j (few s was.shape.lawful) i c d lt (same (places.gate_page s j) (gate_pages_differ s j h too two other))
    | inl e ↦
        let behind : used k h ≤ i = elim off [ inl other ↦ absurd (other e) | inr le ↦ le ] in
        let at : slot_gate_at s j i ≡ slot_gate_at s h i = ap (λ (n : ℕ). slot_gate_at s n i) e in
        byte_apart (slot_gate_at s h 0) (used k h) (slot_gate_at s j i) c d (inr (omega (arith, at, gate_at_is s h 0, gate_at_is s h i, behind))) a
  ]

  half_off : k.half ≢ h
  half_off e = apart (sym e)

  behind_same : (j i : ℕ) → j < 2 → i < s.slots → used k j ≤ i → gate_in s j i d ≡ gate_in s j i c
  behind_same j i too lt le = gate_same j i too lt (elim (cases_eq j h) [ inl e ↦ inr (omega (arith, le, ap (λ (n : ℕ). used k n) e)) | inr other ↦ inl other ])

  next_same : used k k.half < s.slots → ShowsNext s k.half (used k k.half) k.next d
  next_same lt = next_stays s k.half (used k k.half) k.next c d (λ b is. slot_same k.half (used k k.half) was.sizes.two lt) (gate_same k.half (used k k.half) was.sizes.two lt (inl half_off)) (was.next lt)

  -- the lists of the halves, changed in this half by a change that makes none longer
  module _ (f : List (PlacedBatch K) → List (PlacedBatch K)) (shorter : (xs : List (PlacedBatch K)) → length (f xs) ≤ length xs) where
    abbrev k2 : Kept K
    k2 = record k { first = first_by h f k.first; second = second_by h f k.second }

    here_is : (j : ℕ) → j ≡ h → on_half k2 j ≡ f (on_half k j)
    here_is j e = subst (λ (n : ℕ). on_half k2 n ≡ f (on_half k n)) (sym e) (by_here f k.first k.second h)

    other_is : (j : ℕ) → j < 2 → j ≢ h → on_half k2 j ≡ on_half k j
    other_is j too off = by_other f k.first k.second h j two too off

    used_less : (j : ℕ) → j < 2 → used k2 j ≤ used k j
    used_less j too = elim (cases_eq j h) [
      | inl e ↦ omega (arith, ap length (here_is j e), shorter (on_half k j))
      | inr off ↦ omega (arith, ap length (other_is j too off))
    ]

    used_half : used k2 k.half ≡ used k k.half
    used_half = ap length (other_is k.half was.sizes.two half_off)

    few_used : (j : ℕ) → j < 2 → used k2 j ≤ s.slots
    few_used j too = omega (arith, used_less j too, used_few k j too was.sizes)

    changed_shows : ((i : ℕ) (p : PlacedBatch K) → slice_get (f (on_half k h)) i ≡ Some p → ShowsPlaced s h i p d) → ((i : ℕ) → i < s.slots → length (f (on_half k h)) ≤ i → gate_in s h i d ≡ 0) → Shows k2 d
    changed_shows placed_there zero_there = record {
      sizes = record { two = was.sizes.two; first = few_used 0 (omega arith); second = few_used 1 (omega arith) };
      shape = shape_stays s c d a.same_length headers_same was.shape;
      roots = roots_stay s c d headers_same k.root k.other (area_same k.root) (λ w m. area_same w) was.roots;
      pages = λ p bytes is. data_same p ∙ was.pages p bytes is;
      formed = formed_all;
      slots = λ j i p too is. elim (cases_eq j h) [
        | inl e ↦ subst (λ (n : ℕ). ShowsPlaced s n i p d) (sym e) (placed_there i p (subst (λ (xs : List (PlacedBatch K)). slice_get xs i ≡ Some p) (ap (λ (n : ℕ). f (on_half k n)) e) (subst (λ (xs : List (PlacedBatch K)). slice_get xs i ≡ Some p) (here_is j e) is)))
        | inr off ↦
            let old = subst (λ (xs : List (PlacedBatch K)). slice_get xs i ≡ Some p) (other_is j too off) is in
            let lt = used_slot k j i p too was.sizes old in
            placed_stays s j i p c d (slot_same j i too lt) (gate_same j i too lt (inl off)) (was.slots j i p too old)
      ];
      unused = λ j i is. elim (cases_eq j h) [
        | inl e ↦ subst (λ (n : ℕ). gate_in s n i d ≡ 0) (sym e) (zero_there i is.inside (omega (arith, is.behind, ap length (here_is j e), ap (λ (n : ℕ). length (f (on_half k n))) e)))
        | inr off ↦
            let le : used k j ≤ i = omega (arith, is.behind, ap length (other_is j is.two off)) in
            behind_same j i is.two is.inside le ∙ was.unused j i (record { two = is.two; inside = is.inside; behind = le; apart = elim is.apart [ inl other ↦ inl other | inr more ↦ inr (λ e. more (e ∙ sym used_half)) ] })
      ];
      next = λ lt. subst (λ (n : ℕ). ShowsNext s k.half n k.next d) (sym used_half) (next_same (omega (arith, lt, used_half)));
    }

  zero_behind : (i : ℕ) → i < s.slots → used k h ≤ i → gate_in s h i d ≡ 0
  zero_behind i lt le = gate_same h i two lt (inr le) ∙ was.unused h i (record { two = two; inside = lt; behind = le; apart = inl apart })

  -- while they are closed, they may be anything
  pub clearing_shows : Shows (with_loose k h) d
  clearing_shows = changed_shows (map loosened) (λ xs. omega (arith, length-map xs loosened)) (λ i p is.
      let q = from_loose (on_half k h) i p is in
      let lt = used_slot k h i q.0 two was.sizes q.1 in
      let old = was.slots h i q.0 two q.1 in
      subst (λ (x : PlacedBatch K). ShowsPlaced s h i x d) (sym q.2) (placed_stays_loose i q.0 lt old))
      (λ i lt le. zero_behind i lt (omega (arith, le, length-map (on_half k h) loosened)))
    where
      placed_stays_loose : (i : ℕ) (q : PlacedBatch K) → i < s.slots → ShowsPlaced s h i q c → ShowsPlaced s h i (loosened q) d
      placed_stays_loose i q lt old = record { spelled = record { lawful = old.spelled.lawful; spelled = slot_same h i two lt ∙ old.spelled.spelled }; gate = tt }

  -- when they are closed, no slot of the half is used
  pub cleared_shows : ((i : ℕ) → i < used k h → gate_in s h i d ≡ 0) → Shows (with_shut k h) d
  cleared_shows zeros = changed_shows none_used (λ xs. omega arith) (λ i p is. absurd (some-not-none p (sym is))) (λ i lt le. elim (split i (used k h)) [ inl less ↦ zeros i less | inr more ↦ zero_behind i lt more ])
    where
      split : (i n : ℕ) → (i < n) ⊎ (n ≤ i)
      split i n = grind arith
