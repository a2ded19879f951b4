-- What an image says of roots while bytes of one root alone change.
use Rattle.std.proofs.Common.{◌≡◌, ◌≢◌, ◌<◌, ◌≤◌, ◌⊎◌, inl, inr, ◌+◌, ◌*◌, ℕ, List, take, IsTrue, sym, ◌∙◌, arith}
use Rattle.std.specs.Prelude.{Option}
use Rattle.std.proofs.lemmas.Bool.{cases_lt}
use Rattle.grid_types.specs.declared.shape.Shape.{Shape}
use Rattle.grid_types.specs.Pages.{page_of}
use Rattle.grid_types.specs.Ranges.{area_at, area_bytes, header_ranges, root_ranges}
use Rattle.grid_types.specs.Shapes.{is_shape, header_page, table_page, header_gate_at, root_fields_at}
use Rattle.grid_types.proofs.Places.{table-page-lies}
use Rattle.grid_model.specs.Spellings.{RootFields}
use Rattle.grid_model.specs.Lawful.{Area}
use Rattle.grid_model.specs.Images.{HasShape, IsOtherOlder, HasArea}
use Rattle.grid_model.specs.Roots.{WholeRoot, ComesNext, KeepsOld, IsReady}
use Rattle.disk_trait.specs.Moments.{IsOutside}
use Rattle.disk_trait.proofs.Pages.{part_of_page}
use Rattle.disk_trait.proofs.Ranges.{outside_one, outside_more, outside_part, page_outside}
use Rattle.file_roots.specs.Places.{GateAlone, FieldsAlone, HeaderAlone, AreaAlone, RootAlone}
use Rattle.file_roots.proofs.Headers.{header_two, gate_stays, off_page, area_high, gate_off_area, areas_apart}
use Rattle.file_roots.proofs.Frames.{OtherRootStays, shape_by_fronts, other_by_page, kept_by_pages, area_by_pages, ready_by_pages}

-- what changes fewer bytes of a root changes more of them alone
pub fields_in_header : (number : ℕ) (c d : List ℕ) → FieldsAlone number c d → HeaderAlone number c d
fields_in_header number c d a = outside_more _ _ c d (λ i o. (o.0, tt)) (outside_one _ _ c d a)

pub gate_in_header : (number : ℕ) (c d : List ℕ) → GateAlone number c d → HeaderAlone number c d
gate_in_header number c d a = outside_more _ _ c d (λ i o. (o.1.0, tt)) (outside_one _ _ c d a)

pub header_in_root : (s : Shape) (number : ℕ) (c d : List ℕ) → HeaderAlone number c d → RootAlone s number c d
header_in_root s number c d a = outside_more _ _ c d (λ i o. o.1) a

pub gate_in_root : (s : Shape) (number : ℕ) (c d : List ℕ) → GateAlone number c d → RootAlone s number c d
gate_in_root s number c d a = header_in_root s number c d (gate_in_header number c d a)

pub fields_in_root : (s : Shape) (number : ℕ) (c d : List ℕ) → FieldsAlone number c d → RootAlone s number c d
fields_in_root s number c d a = header_in_root s number c d (fields_in_header number c d a)

pub area_in_root : (s : Shape) (number : ℕ) (c d : List ℕ) → AreaAlone s number c d → RootAlone s number c d
area_in_root s number c d a = outside_more _ _ c d (λ i o. (o.0, tt)) (outside_one _ _ c d a)

-- a byte of a page that lies apart from a range lies outside of it
outside_by : (page at n i : ℕ) → (page * 4096 + 4096 ≤ at) ⊎ (at + n ≤ page * 4096) → page * 4096 ≤ i → i < page * 4096 + 4096 → (i < at) ⊎ (at + n ≤ i)
outside_by page at n i (inl before) low high = inl (omega (arith, before, high))
outside_by page at n i (inr behind) low high = inr (omega (arith, behind, low))

-- the bytes of the other header page are none of a root's
off_header : (number i : ℕ) → header_page (number + 1) * 4096 ≤ i → i < header_page (number + 1) * 4096 + 4096 → IsOutside (header_ranges number) i
off_header number i low high =
    let own = header_page number in
    let other = header_page (number + 1) in
    let apart : other ≢ own = λ e. absurd (omega (arith, e)) in (
      outside_by other (root_fields_at own) 56 i (off_page other own (root_fields_at own) 56 apart (omega arith) (omega arith)) low high,
      (outside_by other (header_gate_at own) 1 i (off_page other own (header_gate_at own) 1 apart (omega arith) (omega arith)) low high, tt),
    )

-- bytes behind both header pages are none of a header page's
above_headers : (number i : ℕ) → 8192 ≤ i → IsOutside (header_ranges number) i
above_headers number i high = (inr (omega (arith, high, header_two number)), (inr (omega (arith, high, header_two number)), tt))

-- the first bytes of a header page are none of a root's
off_front : (number header i : ℕ) → header * 4096 ≤ i → i < header * 4096 + 64 → IsOutside (header_ranges number) i
off_front number header i low high = elim (cases_lt (header_page number) header) [
  | inl lt ↦ (inr (omega (arith, lt, low)), (inr (omega (arith, lt, low)), tt))
  | inr ge ↦ (inl (omega (arith, ge, high)), (inl (omega (arith, ge, high)), tt))
]

module _ (s : Shape) (lawful : IsTrue (is_shape s)) (number : ℕ) (c d : List ℕ) where
  -- the other root stays
  pub other_root_stays : RootAlone s number c d → OtherRootStays s number c d
  other_root_stays a =
      let own = header_page number in
      let other = header_page (number + 1) in
      record {
        header = page_outside (root_ranges s number) other c d (λ i low high. (inl (omega (arith, high, header_two (number + 1), area_high s number lawful)), off_header number i low high)) a;
        area = λ k lt.
            let p = table-page-lies s other k lawful (header_two (number + 1)) lt in
            let apart = areas_apart s own other k (header_two number) (header_two (number + 1)) (λ e. absurd (omega (arith, e))) lt in
            page_outside (root_ranges s number) (table_page s other k) c d (λ i low high. (outside_by (table_page s other k) (area_at s number) (area_bytes s) i apart low high, above_headers number i (omega (arith, low, p.first)))) a;
      }

  -- so what the other header page keeps stays
  pub keeps_alone : (old : Option WholeRoot) → RootAlone s number c d → ComesNext old number → KeepsOld s number old c → KeepsOld s number old d
  keeps_alone old a comes keeps = kept_by_pages s c d number old (other_root_stays a) comes keeps

  -- and is as old as it was
  pub older_alone : RootAlone s number c d → IsOtherOlder s number c → IsOtherOlder s number d
  older_alone a older = other_by_page s c d number (other_root_stays a).header older

  -- a table area stays where only a header page changes
  pub area_above : HeaderAlone number c d → (r : RootFields) (a : Area) → HasArea s c r a → HasArea s d r a
  area_above alone r a area = area_by_pages s c d r a (λ i lt.
      let p = table-page-lies s (header_page r.number) i lawful (header_two r.number) lt in
      page_outside (header_ranges number) (table_page s (header_page r.number) i) c d (λ k low high. above_headers number k (omega (arith, low, p.first))) alone) area

  -- the shape stays
  front_stays : (header : ℕ) → header < 2 → RootAlone s number c d → take 64 (page_of header d) ≡ take 64 (page_of header c)
  front_stays header two a =
      let at = header * 4096 + 0 in
      part_of_page header 0 64 d (omega arith)
      ∙ outside_part (root_ranges s number) at 64 c d (λ i low high. (inl (omega (arith, high, two, area_high s number lawful)), off_front number header i (omega (arith, low)) (omega (arith, high)))) a
      ∙ sym (part_of_page header 0 64 c (omega arith))

  pub shape_stays : (K : ℕ) → RootAlone s number c d → HasShape K c s → HasShape K d s
  shape_stays K a shape = shape_by_fronts s c d K a.same_length (front_stays 0 (omega arith) a) (front_stays 1 (omega arith) a) shape

  module _ (old : Option WholeRoot) (comes : ComesNext old number) where
    -- an image stays ready while the table area is written
    pub ready_area : AreaAlone s number c d → IsReady s number old c → IsReady s number old d
    ready_area a ready = ready_by_pages s c d number old (other_root_stays (area_in_root s number c d a)) (gate_stays (area_at s number) (area_bytes s) (header_page number) c d (gate_off_area s number lawful) a) comes ready

    -- and while the fields are
    pub ready_fields : FieldsAlone number c d → IsReady s number old c → IsReady s number old d
    ready_fields a ready = ready_by_pages s c d number old (other_root_stays (fields_in_root s number c d a)) (gate_stays (root_fields_at (header_page number)) 56 (header_page number) c d (inl (omega arith)) a) comes ready
