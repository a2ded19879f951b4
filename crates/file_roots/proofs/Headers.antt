-- Where header pages and table areas lie, and their bytes as bytes of the image.
use Rattle.std.proofs.Common.{◌≡◌, ◌≢◌, ◌<◌, ◌≤◌, ◌⊎◌, inl, inr, ◌+◌, ◌*◌, ℕ, List, take, drop, slice_index, IsTrue, sym, ◌∙◌, arith}
use Rattle.grid_types.specs.declared.shape.Shape.{Shape}
use Rattle.grid_types.specs.declared.sizes.TheConstants.{PAGE_BYTES}
use Rattle.grid_types.specs.Shapes.{is_shape, area_pages, file_pages, header_page, table_page, header_gate_at, root_fields_at}
use Rattle.grid_types.specs.Ranges.{area_at, area_bytes}
use Rattle.grid_types.proofs.Places.{table-page, table-page-lies, one-of-two}
use Rattle.grid_model.specs.Images.{header_gate, root_fields}
use Rattle.disk_trait.specs.Disk.{Agrees}
use Rattle.disk_trait.proofs.Pages.{part_apart, byte_apart, byte_of_page, part_of_page}

-- the header page of a number is one of two
pub header_two : (n : ℕ) → header_page n < 2
header_two n = omega arith

-- the header page behind a root's is the other one
pub other_header : (n m : ℕ) → header_page n ≢ header_page m → header_page (n + 1) ≡ header_page m
other_header n m apart = grind (arith, apart)

-- both header pages lie in the file
pub header_inside : (s : Shape) (header size : ℕ) → IsTrue (is_shape s) → header < 2 → file_pages s * 4096 ≤ size → header * 4096 + 4096 ≤ size
header_inside s header size lawful two long =
    let p = table-page-lies s 0 0 lawful (omega arith) (omega arith) in
    omega (arith, two, long, p.first, p.inside)

-- a gate as a byte of the image
pub gate_is : (c : List ℕ) (header : ℕ) → header_gate c header ≡ slice_index c (header_gate_at header)
gate_is c header = byte_of_page header 64 c (omega arith)

-- root fields as a part of the image
pub fields_are : (c : List ℕ) (header : ℕ) → root_fields c header ≡ take 56 (drop (root_fields_at header) c)
fields_are c header = part_of_page header 72 56 c (omega arith)

-- a gate stays where other bytes change
pub gate_stays : (at n header : ℕ) (c d : List ℕ) → (header_gate_at header < at) ⊎ (at + n ≤ header_gate_at header) → Agrees at n c d → header_gate d header ≡ header_gate c header
gate_stays at n header c d apart a = gate_is d header ∙ byte_apart at n (header_gate_at header) c d apart a ∙ sym (gate_is c header)

-- root fields stay where other bytes change
pub fields_stay : (at n header : ℕ) (c d : List ℕ) → (root_fields_at header + 56 ≤ at) ⊎ (at + n ≤ root_fields_at header) → Agrees at n c d → root_fields d header ≡ root_fields c header
fields_stay at n header c d apart a = fields_are d header ∙ part_apart at n (root_fields_at header) 56 c d apart a ∙ sym (fields_are c header)

-- bytes of one page lie apart from those of another
pub off_page : (p q at n : ℕ) → p ≢ q → q * 4096 ≤ at → at + n ≤ q * 4096 + 4096 → (p * 4096 + 4096 ≤ at) ⊎ (at + n ≤ p * 4096)
off_page p q at n apart low high = grind (arith, apart, low, high)

-- both header pages lie before a table area
pub area_high : (s : Shape) (number : ℕ) → IsTrue (is_shape s) → 2 * PAGE_BYTES ≤ area_at s number
area_high s number lawful = let p = table-page-lies s (header_page number) 0 lawful (header_two number) (omega arith) in omega (arith, p.first)

-- so does each gate
pub gate_off_area : (s : Shape) (number : ℕ) → IsTrue (is_shape s) → (header_gate_at (header_page number) < area_at s number) ⊎ (area_at s number + area_bytes s ≤ header_gate_at (header_page number))
gate_off_area s number lawful = inl (omega (arith, area_high s number lawful, header_two number))

-- the bytes of two different table areas lie apart
pub areas_apart : (s : Shape) (area other i : ℕ) → area < 2 → other < 2 → area ≢ other → i < area_pages s
    → (table_page s other i * 4096 + 4096 ≤ table_page s area 0 * 4096) ⊎ (table_page s area 0 * 4096 + area_pages s * 4096 ≤ table_page s other i * 4096)
areas_apart s area other i two too apart lt =
    let t = table-page s i in
    let z = table-page s 0 in
    elim (one-of-two area two) [
      | inl e ↦ elim (one-of-two other too) [
        | inl f ↦ absurd (apart (e ∙ sym f))
        | inr f ↦ rw (e, f) (inr (omega (arith, z.0, t.1)))
      ]
      | inr e ↦ elim (one-of-two other too) [
        | inl f ↦ rw (e, f) (inl (omega (arith, z.1, t.0, lt)))
        | inr f ↦ absurd (apart (e ∙ sym f))
      ]
    ]
