-- What an image shows while a batch is committed on the next slot, and afterwards.
use Rattle.std.proofs.Common.{◌≡◌, ◌≢◌, ◌<◌, ◌≤◌, ◌⊎◌, inl, inr, ◌+◌, ◌++◌, ℕ, List, [], ◌∷◌, length, slice_index, sym, ap, subst, ◌∙◌, arith}
use Rattle.std.specs.Prelude.{slice_get, slice_set, Option, Some}
use Rattle.std.proofs.lemmas.Bool.{cases_eq}
use Rattle.std.proofs.lemmas.Option.{slice_get_within}
use Rattle.grid_types.specs.declared.shape.Shape.{Shape}
use Rattle.grid_types.specs.Pages.{page_of}
use Rattle.grid_types.specs.Ranges.{own_page, slot_ranges}
use Rattle.grid_types.specs.Shapes.{area_pages, header_page, slot_page, data_page, slot_gate_at}
use Rattle.grid_types.specs.Shapes as places
use Rattle.disk_trait.specs.Moments.{AgreesOutside}
use Rattle.grid_model.specs.Spellings.{LoggedBatch}
use Rattle.grid_model.specs.Images.{HasGatesOf, header_gate}
use Rattle.grid_model.specs.Roots.{WholeRoot}
use Rattle.grid_model.specs.Slots.{HasBatch, IsCommitted}
use Rattle.journal_slots.specs.Committing.{BatchStep}
use Rattle.journal_slots.specs.Gates.{IsGatePage}
use Rattle.journal_slots.proofs.DifferentPages.{gate_pages_differ, slot_page_is_no_gate_page, slot_pages_differ}
use Rattle.journal_slots.proofs.Frames.{page_stays_in_commit, gates_in_commit}
use Rattle.file_roots.proofs.Headers.{header_two}
use Rattle.file_images.specs.Kept.{Counting, PlacedBatch, NextSlot, Shut, Kept, OtherHeader, on_half, used}
use Rattle.file_images.specs.Shows.{HoldsPages, gate_in, ShowsPlaced, ShowsNext, Shows}
use Rattle.file_images.specs.Meets.{IsLooseUnder}
use Rattle.file_images.specs.Steps.{IsNextSlot, ruled, with_doubt, with_placed, with_slot}
use Rattle.file_images.proofs.PagesApart.{table_below, gate_high, gate_below, slot_below, slot_high, gate_off_ranges}
use Rattle.file_images.proofs.Frames.{used_few, used_slot, shape_stays, roots_stay, loose_stays, placed_stays, gate_page_stays}
use Rattle.file_images.proofs.Halves.{half_added, half_kept, get_added, length_added}

-- a used slot is not the next one
pub used_apart : {K : ℕ} (k : Kept K) (h i : ℕ) (p : PlacedBatch K) → slice_get (on_half k h) i ≡ Some p → (h ≢ k.half) ⊎ (i ≢ used k k.half)
used_apart k h i p is = elim (cases_eq h k.half) [
  | inl same ↦ inr (λ e. absurd (omega (arith, e, slice_get_within (on_half k h) i p is, ap (λ (j : ℕ). used k j) same)))
  | inr other ↦ inl other
]

module _ {K : ℕ} (k : Kept K) (c d : List ℕ) (was : Shows k c) (lt : used k k.half < k.shape.slots) (a : AgreesOutside (slot_ranges k.shape k.half (used k k.half)) c d) where
  abbrev s : Shape
  s = k.shape

  abbrev q : ℕ
  q = slot_page k.shape k.half (used k k.half)

  abbrev gp : ℕ
  gp = places.gate_page k.shape k.half

  -- each other page stays
  page_same : (p : ℕ) → p ≢ q → p ≢ gp → page_of p d ≡ page_of p c
  page_same p off_slot off_gate = page_stays_in_commit s k.half (used k k.half) was.shape.lawful was.sizes.two lt c d a p off_slot off_gate

  headers_same : (h : ℕ) → h < 2 → page_of h d ≡ page_of h c
  headers_same h two =
      let high = gate_high s was.shape.lawful k.half was.sizes.two in
      let up = slot_high s was.shape.lawful k.half (used k k.half) was.sizes.two lt in
      page_same h (λ e. absurd (omega (arith, e, two, high, up))) (λ e. absurd (omega (arith, e, two, high)))

  area_same : (w : WholeRoot) (i : ℕ) → i < area_pages s → page_of (own_page s w.fields.number i) d ≡ page_of (own_page s w.fields.number i) c
  area_same w i less =
      let below = table_below s was.shape.lawful (header_page w.fields.number) i k.half (header_two w.fields.number) was.sizes.two less in
      let up = slot_high s was.shape.lawful k.half (used k k.half) was.sizes.two lt in
      page_same (own_page s w.fields.number i) (λ e. absurd (omega (arith, e, below, up))) (λ e. absurd (omega (arith, e, below)))

  pages_same : (p : ℕ) → page_of (data_page s p) d ≡ page_of (data_page s p) c
  pages_same p =
      let low = slot_below s was.shape.lawful k.half (used k k.half) p was.sizes.two lt in
      let under = gate_below s was.shape.lawful k.half p was.sizes.two in
      page_same (data_page s p) (λ e. absurd (omega (arith, e, low))) (λ e. absurd (omega (arith, e, under)))

  slot_same : (h i : ℕ) → h < 2 → i < s.slots → (h ≢ k.half) ⊎ (i ≢ used k k.half) → page_of (slot_page s h i) d ≡ page_of (slot_page s h i) c
  slot_same h i two less apart = page_same (slot_page s h i) (slot_pages_differ s h i k.half (used k k.half) two was.sizes.two less lt apart) (slot_page_is_no_gate_page s h i k.half two was.sizes.two less)

  -- each other gate stays
  gate_same : (h i : ℕ) → h < 2 → i < s.slots → (h ≢ k.half) ⊎ (i ≢ used k k.half) → gate_in s h i d ≡ gate_in s h i c
  gate_same h i two less apart = a.each (slot_gate_at s h i) (gate_off_ranges s was.shape.lawful h i k.half (used k k.half) two was.sizes.two less lt apart)

  formed_here : IsGatePage k.half s.slots (page_of gp c) → IsGatePage k.half s.slots (page_of gp d)
  formed_here old =
      let there : HasGatesOf s c k.half old.gates = record { count = old.count; page = old.spelled } in
      let now = gates_in_commit s k.half (used k k.half) was.shape.lawful was.sizes.two lt c d a old.gates there in
      record { gates = slice_set old.gates (used k k.half) (slice_index d (slot_gate_at s k.half (used k k.half))); count = now.count; spelled = now.page }

  formed_same : (h : ℕ) → h < 2 → IsGatePage h s.slots (page_of (places.gate_page s h) d)
  formed_same h two = elim (cases_eq h k.half) [
    | inl same ↦ subst (λ (j : ℕ). IsGatePage j s.slots (page_of (places.gate_page s j) d)) (sym same) (formed_here (was.formed k.half was.sizes.two))
    | inr other ↦ gate_page_stays h s.slots _ _ (page_same (places.gate_page s h) (λ e. slot_page_is_no_gate_page s k.half (used k k.half) h was.sizes.two two lt (sym e)) (gate_pages_differ s h k.half two was.sizes.two other)) (was.formed h two)
  ]

  slots_same : (h i : ℕ) (p : PlacedBatch K) → h < 2 → slice_get (on_half k h) i ≡ Some p → ShowsPlaced s h i p d
  slots_same h i p two is =
      let less = used_slot k h i p two was.sizes is in
      let apart = used_apart k h i p is in
      placed_stays s h i p c d (slot_same h i two less apart) (gate_same h i two less apart) (was.slots h i p two is)

  pub loose_same : (other : OtherHeader) → IsLooseUnder k other c → IsLooseUnder k other d
  loose_same other = loose_stays k other c d headers_same (λ w m. area_same w)

  pub header_gate_same : (n : ℕ) → header_gate d (header_page n) ≡ header_gate c (header_page n)
  header_gate_same n = ap (λ (x : List ℕ). slice_index x 64) (headers_same (header_page n) (header_two n))

  pub holds_same : (pages : List (Option (List ℕ))) → HoldsPages s pages c → HoldsPages s pages d
  holds_same pages old p bytes is = pages_same p ∙ old p bytes is

  -- with the batch in doubt
  pub in_doubt : (b : LoggedBatch K) → (gate_in s k.half (used k k.half) d ≡ 0) ⊎ HasBatch s k.half (used k k.half) b d → Shows (with_doubt k b) d
  in_doubt b how = record {
    sizes = record { two = was.sizes.two; first = was.sizes.first; second = was.sizes.second };
    shape = shape_stays s c d a.same_length headers_same was.shape;
    roots = roots_stay s c d headers_same k.root k.other (area_same k.root) (λ w m. area_same w) was.roots;
    pages = λ p bytes is. pages_same p ∙ was.pages p bytes is;
    formed = formed_same;
    slots = slots_same;
    unused = λ h i is. gate_same h i is.two is.inside is.apart ∙ was.unused h i (record { two = is.two; inside = is.inside; behind = is.behind; apart = is.apart });
    next = λ less. how;
  }

  -- with the batch placed
  module _ (b : PlacedBatch K) (shown : ShowsPlaced s k.half (used k k.half) b d) where
    abbrev k2 : Kept K
    k2 = with_placed k b

    here_is : on_half k2 k.half ≡ on_half k k.half ++ b ∷ []
    here_is = half_added b k.first k.second k.half

    kept_is : (h : ℕ) → h < 2 → h ≢ k.half → on_half k2 h ≡ on_half k h
    kept_is h two apart = half_kept b k.first k.second h k.half two was.sizes.two apart

    more : used k2 k.half ≡ used k k.half + 1
    more = ap length here_is ∙ length_added (on_half k k.half) b

    size : (h : ℕ) → h < 2 → used k2 h ≤ s.slots
    size h two = elim (cases_eq h k.half) [
      | inl same ↦ omega (arith, ap (λ (j : ℕ). used k2 j) same, more, lt)
      | inr other ↦ omega (arith, ap length (kept_is h two other), used_few k h two was.sizes)
    ]

    placed_here : (h i : ℕ) (p : PlacedBatch K) → h ≡ k.half → slice_get (on_half k h) i ≡ Some p ⊎ ((i ≡ used k h) × (p ≡ b)) → h < 2 → ShowsPlaced s h i p d
    placed_here h i p same (inl old) two = slots_same h i p two old
    placed_here h i p same (inr new) two =
        let at : i ≡ used k k.half = new.0 ∙ ap (λ (j : ℕ). used k j) same in
        let moved : ShowsPlaced s h i b d = subst (λ (z : ℕ × ℕ). ShowsPlaced s z.0 z.1 b d) (λ j. (sym same j, sym at j)) shown in
        subst (λ (x : PlacedBatch K). ShowsPlaced s h i x d) (sym new.1) moved

    placed_all : (h i : ℕ) (p : PlacedBatch K) → h < 2 → slice_get (on_half k2 h) i ≡ Some p → ShowsPlaced s h i p d
    placed_all h i p two is = elim (cases_eq h k.half) [
      | inl same ↦ placed_here h i p same (get_added (on_half k h) b p i (subst (λ (xs : List (PlacedBatch K)). slice_get xs i ≡ Some p) (subst (λ (j : ℕ). on_half k2 j ≡ on_half k j ++ b ∷ []) (sym same) here_is) is)) two
      | inr other ↦ slots_same h i p two (subst (λ (xs : List (PlacedBatch K)). slice_get xs i ≡ Some p) (kept_is h two other) is)
    ]

    behind_is : (h i : ℕ) → h < 2 → used k2 h ≤ i → (used k h ≤ i) × ((h ≢ k.half) ⊎ (i ≢ used k k.half))
    behind_is h i two le = elim (cases_eq h k.half) [
      | inl same ↦ (omega (arith, le, more, ap (λ (j : ℕ). used k2 j) same, ap (λ (j : ℕ). used k j) same), inr (λ e. absurd (omega (arith, e, le, more, ap (λ (j : ℕ). used k2 j) same))))
      | inr other ↦ (omega (arith, le, ap length (kept_is h two other)), inl other)
    ]

    zero_behind : (h i : ℕ) → h < 2 → i < s.slots → used k2 h ≤ i → gate_in s h i d ≡ 0
    zero_behind h i two less le =
        let at = behind_is h i two le in
        gate_same h i two less at.1 ∙ was.unused h i (record { two = two; inside = less; behind = at.0; apart = at.1 })

    pub placed : Shows k2 d
    placed = record {
      sizes = record { two = was.sizes.two; first = size 0 (omega arith); second = size 1 (omega arith) };
      shape = shape_stays s c d a.same_length headers_same was.shape;
      roots = roots_stay s c d headers_same k.root k.other (area_same k.root) (λ w m. area_same w) was.roots;
      pages = λ p bytes is. pages_same p ∙ was.pages p bytes is;
      formed = formed_same;
      slots = placed_all;
      unused = λ h i is. zero_behind h i is.two is.inside is.behind;
      next = λ less. zero_behind k.half (used k2 k.half) was.sizes.two less (omega arith);
    }

module _ {K : ℕ} (k : Kept K) (b : LoggedBatch K) (shut : k.next ≡ Shut) (lt : used k k.half < k.shape.slots) where
  shut_gate : (c : List ℕ) → Shows k c → gate_in k.shape k.half (used k k.half) c ≡ 0
  shut_gate c was = subst (λ (n : NextSlot K). ShowsNext k.shape k.half (used k k.half) n c) shut (was.next lt)

  -- at each moment of a commit the batch is in doubt
  pub step_shows : (c d : List ℕ) → Shows k c → BatchStep k.shape k.half (used k k.half) b c d → Shows (with_doubt k b) d
  step_shows c d was step =
      in_doubt k c d was lt step.elsewhere b (elim step.gate [
        | inl same ↦ inl (same ∙ shut_gate c was)
        | inr there ↦ inr there
      ])

  -- when it is committed, it is placed
  pub committed_shows : (c d : List ℕ) → Shows k c → AgreesOutside (slot_ranges k.shape k.half (used k k.half)) c d → IsCommitted k.shape k.half (used k k.half) b d → Shows (with_slot k b) d
  committed_shows c d was a done = placed k c d was lt a (ruled b Counting) (record { spelled = done.written; gate = done.opened })

-- the same where shape, half and slot are given by name
module _ {K : ℕ} (k : Kept K) (b : LoggedBatch K) (s : Shape) (half slot : ℕ) (at : IsNextSlot k s half slot) (lt : slot < s.slots) where
  abbrev back : ◌≡◌ {A = Shape × ℕ × ℕ} (k.shape, k.half, used k k.half) (s, half, slot)
  back = λ j. (at.shape j, at.half_is j, at.slot_is j)

  pub next_inside : used k k.half < k.shape.slots
  next_inside = omega (arith, lt, at.slot_is, ap (λ (z : Shape). z.slots) at.shape)

  pub next_step_shows : (c d : List ℕ) → Shows k c → BatchStep s half slot b c d → Shows (with_doubt k b) d
  next_step_shows c d was step = step_shows k b at.shut next_inside c d was (subst (λ (z : Shape × ℕ × ℕ). BatchStep z.0 z.1 z.2 b c d) (sym back) step)

  pub next_outside : (c d : List ℕ) → AgreesOutside (slot_ranges s half slot) c d → AgreesOutside (slot_ranges k.shape k.half (used k k.half)) c d
  next_outside c d a = subst (λ (z : Shape × ℕ × ℕ). AgreesOutside (slot_ranges z.0 z.1 z.2) c d) (sym back) a

  pub next_committed : (d : List ℕ) → IsCommitted s half slot b d → IsCommitted k.shape k.half (used k k.half) b d
  next_committed d done = subst (λ (z : Shape × ℕ × ℕ). IsCommitted z.0 z.1 z.2 b d) (sym back) done
