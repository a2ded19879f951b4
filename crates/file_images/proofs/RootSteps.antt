-- What an image shows where only the bytes of the next root change.
use Rattle.std.proofs.Common.{◌≡◌, ◌<◌, ◌≤◌, inl, inr, ◌+◌, ◌*◌, ℕ, List, IsTrue, ap, ◌∙◌, arith}
use Rattle.grid_types.specs.declared.shape.Shape.{Shape}
use Rattle.grid_types.specs.Pages.{page_of}
use Rattle.grid_types.specs.Ranges.{area_at, area_bytes, header_ranges, root_ranges}
use Rattle.grid_types.specs.Shapes.{is_shape, area_pages, header_page, table_page, slot_page, data_page}
use Rattle.grid_types.specs.Shapes as places
use Rattle.grid_types.proofs.Places.{table-page, gate-page, gate-page-lies, one-of-two}
use Rattle.std.specs.Prelude.{Option}
use Rattle.disk_trait.specs.Moments.{IsOutside}
use Rattle.disk_trait.proofs.Ranges.{page_outside}
use Rattle.journal_slots.proofs.Frames.{gate_byte_stays_by_page}
use Rattle.grid_model.specs.Roots.{WholeRoot}
use Rattle.file_roots.specs.Places.{RootAlone}
use Rattle.file_roots.proofs.Headers.{header_two}
use Rattle.file_roots.proofs.Alone.{shape_stays}
use Rattle.file_images.specs.Kept.{OtherHeader, Kept, used, next_number}
use Rattle.file_images.specs.Shows.{ShowsRoots, gate_in, HoldsPages, Shows}
use Rattle.file_images.proofs.PagesApart.{few, gate_below, slot_high, gate_high}
use Rattle.file_images.proofs.Frames.{gate_page_stays, placed_stays, next_stays, used_slot}

-- a table area ends before the gate pages
area_end : (s : Shape) (number : ℕ) → area_at s number + area_bytes s ≤ places.gate_page s 0 * 4096
area_end s number =
    let t = table-page s 0 in
    let g = gate-page s in
    elim (one-of-two (header_page number) (header_two number)) [
      | inl e ↦ omega (arith, t.0, g.0, ap (λ (n : ℕ). table_page s n 0) e)
      | inr e ↦ omega (arith, t.1, g.0, ap (λ (n : ℕ). table_page s n 0) e)
    ]

-- bytes behind both header pages are none of a header page's
above_headers : (number i : ℕ) → 8192 ≤ i → IsOutside (header_ranges number) i
above_headers number i high = (inr (omega (arith, high, header_two number)), (inr (omega (arith, high, header_two number)), tt))

-- a page behind the table areas stays
pub behind_roots_same : (s : Shape) (number : ℕ) (c d : List ℕ) → IsTrue (is_shape s) → RootAlone s number c d → (p : ℕ) → places.gate_page s 0 ≤ p → page_of p d ≡ page_of p c
behind_roots_same s number c d lawful a p le =
    page_outside (root_ranges s number) p c d (λ i low up. (inr (omega (arith, low, le, area_end s number)), above_headers number i (omega (arith, low, le, gate_high s lawful 0 (omega arith))))) a

module _ {K : ℕ} (k : Kept K) (c d : List ℕ) (lawful : IsTrue (is_shape k.shape)) (a : RootAlone k.shape (next_number k) c d) where
  same : (p : ℕ) → places.gate_page k.shape 0 ≤ p → page_of p d ≡ page_of p c
  same p le = behind_roots_same k.shape (next_number k) c d lawful a p le

  -- data pages stay
  pub holds_in_root_step : (pages : List (Option (List ℕ))) → HoldsPages k.shape pages c → HoldsPages k.shape pages d
  holds_in_root_step pages old p bytes is = same (data_page k.shape p) (omega (arith, gate_below k.shape lawful 0 p (omega arith))) ∙ old p bytes is

  gate_page_same : (h : ℕ) → h < 2 → page_of (places.gate_page k.shape h) d ≡ page_of (places.gate_page k.shape h) c
  gate_page_same h two = same (places.gate_page k.shape h) (gate-page-lies k.shape h lawful two).behind

  gate_same : (h i : ℕ) → h < 2 → i < k.shape.slots → gate_in k.shape h i d ≡ gate_in k.shape h i c
  gate_same h i two lt = gate_byte_stays_by_page k.shape h (few k.shape lawful) i c d lt (gate_page_same h two)

  slot_same : (h i : ℕ) → h < 2 → i < k.shape.slots → page_of (slot_page k.shape h i) d ≡ page_of (slot_page k.shape h i) c
  slot_same h i two lt = same (slot_page k.shape h i) (omega (arith, slot_high k.shape lawful h i two lt, (gate-page-lies k.shape h lawful two).behind))

  -- all but the roots is shown as before
  pub root_step_shows : (root : WholeRoot) (other : OtherHeader) → Shows k c → ShowsRoots k.shape root other d → Shows (record k { root = root; other = other }) d
  root_step_shows root other was roots = record {
    sizes = record { two = was.sizes.two; first = was.sizes.first; second = was.sizes.second };
    shape = shape_stays k.shape lawful (next_number k) c d K a was.shape;
    roots = roots;
    pages = holds_in_root_step k.always was.pages;
    formed = λ h two. gate_page_stays h k.shape.slots _ _ (gate_page_same h two) (was.formed h two);
    slots = λ h i p two is. let lt = used_slot k h i p two was.sizes is in placed_stays k.shape h i p c d (slot_same h i two lt) (gate_same h i two lt) (was.slots h i p two is);
    unused = λ h i is. gate_same h i is.two is.inside ∙ was.unused h i (record { two = is.two; inside = is.inside; behind = is.behind; apart = is.apart });
    next = λ lt. next_stays k.shape k.half (used k k.half) k.next c d (λ b is. slot_same k.half (used k k.half) was.sizes.two lt) (gate_same k.half (used k k.half) was.sizes.two lt) (was.next lt);
  }
