-- Where the pages of a file lie: apart from one another, and inside the file.
use Rattle.std.proofs.Common.{◌≡◌, ◌≢◌, ◌<◌, ◌≤◌, ◌⊎◌, inl, inr, ◌+◌, ◌*◌, ℕ, zero, suc, true, ◌&&◌, nat_le, IsTrue, refl, arith, leb-true}
use Rattle.grid_types.specs.declared.shape.Shape.{Shape}
use Rattle.grid_types.specs.declared.sizes.TheConstants.{MOST_ATTRIBUTES, LEAST_RECORDS, MOST_RECORDS, FEWEST_PAGES, MOST_PAGES, MOST_SLOTS, MOST_BOUNDARIES, MOST_CELLS}
use Rattle.grid_types.specs.Shapes.{is_shape, is_from_to, has_lawful_buckets, has_lawful_pages, has_lawful_bounds, IsWithinLimits, area_pages, file_pages, table_page, gate_page, slot_page, data_page, slot_gate_at}
use Rattle.grid_types.proofs.Numbers.{first, second}

between : (lo hi n : ℕ) → is_from_to lo hi n ≡ true → (lo ≤ n) × (n ≤ hi)
between lo hi n e = (leb-true lo n (first (nat_le lo n) (nat_le n hi) e), leb-true n hi (second (nat_le lo n) (nat_le n hi) e))

-- a lawful shape's numbers are within their limits
pub within-limits : (s : Shape) → IsTrue (is_shape s) → IsWithinLimits s
unfolding is_shape
within-limits s e =
    let buckets = first (has_lawful_buckets s) (has_lawful_pages s && has_lawful_bounds s) e in
    let rest = second (has_lawful_buckets s) (has_lawful_pages s && has_lawful_bounds s) e in
    let pages = first (has_lawful_pages s) (has_lawful_bounds s) rest in
    let bounds = second (has_lawful_pages s) (has_lawful_bounds s) rest in
    let k = between 1 MOST_ATTRIBUTES s.k (first (is_from_to 1 MOST_ATTRIBUTES s.k) (is_from_to LEAST_RECORDS MOST_RECORDS s.capacity) buckets) in
    let capacity = between LEAST_RECORDS MOST_RECORDS s.capacity (second (is_from_to 1 MOST_ATTRIBUTES s.k) (is_from_to LEAST_RECORDS MOST_RECORDS s.capacity) buckets) in
    let data_pages = between FEWEST_PAGES MOST_PAGES s.pages (first (is_from_to FEWEST_PAGES MOST_PAGES s.pages) (is_from_to 1 MOST_SLOTS s.slots) pages) in
    let slots = between 1 MOST_SLOTS s.slots (second (is_from_to FEWEST_PAGES MOST_PAGES s.pages) (is_from_to 1 MOST_SLOTS s.slots) pages) in
    let boundaries = between 1 MOST_BOUNDARIES s.boundaries (first (is_from_to 1 MOST_BOUNDARIES s.boundaries) (is_from_to 1 MOST_CELLS s.cells) bounds) in
    let cells = between 1 MOST_CELLS s.cells (second (is_from_to 1 MOST_BOUNDARIES s.boundaries) (is_from_to 1 MOST_CELLS s.cells) bounds) in
    record {
      some_attributes = k.0;
      few_attributes = k.1;
      some_capacity = capacity.0;
      small_capacity = capacity.1;
      some_pages = data_pages.0;
      few_pages = data_pages.1;
      some_slots = slots.0;
      few_slots = slots.1;
      some_boundaries = boundaries.0;
      few_boundaries = boundaries.1;
      some_cells = cells.0;
      few_cells = cells.1;
    }

-- a table area has at most 75 pages
pub area-small : (s : Shape) → IsTrue (is_shape s) → area_pages s ≤ 75
area-small s lawful = let w = within-limits s lawful in omega (arith, w.few_pages)

-- the pages of the two table areas
pub table-page : (s : Shape) (i : ℕ) → (table_page s 0 i ≡ 2 + i) × (table_page s 1 i ≡ 2 + area_pages s + i)
unfolding table_page
table-page s i = (omega arith, omega arith)

-- the gate pages of the two halves
pub gate-page : (s : Shape) → (gate_page s 0 ≡ 2 + 2 * area_pages s) × (gate_page s 1 ≡ 3 + 2 * area_pages s + s.slots)
unfolding gate_page
gate-page s = (omega arith, omega arith)

-- a slot page stands behind its half's gate page
pub slot-page-is : (s : Shape) (half i : ℕ) → slot_page s half i ≡ gate_page s half + 1 + i
unfolding slot_page
slot-page-is s half i = refl

-- data pages stand behind all else
pub data-page-is : (s : Shape) (i : ℕ) → data_page s i ≡ 4 + 2 * area_pages s + 2 * s.slots + i
unfolding data_page
data-page-is s i = refl

file-pages-are : (s : Shape) → file_pages s ≡ 4 + 2 * area_pages s + 2 * s.slots + s.pages
unfolding file_pages
file-pages-are s = refl

gate-at-is : (s : Shape) (half i : ℕ) → slot_gate_at s half i ≡ gate_page s half * 4096 + 96 + i
unfolding slot_gate_at
gate-at-is s half i = refl

-- one of two
pub one-of-two : (n : ℕ) → n < 2 → (n ≡ 0) ⊎ (n ≡ 1)
one-of-two n two = grind arith

-- where a page of a table area lies
pub record TablePageLies (s : Shape) (area i : ℕ) : Type 0 where
  pub first : 2 ≤ table_page s area i
  pub last : table_page s area i + 1 ≤ gate_page s 0
  pub inside : table_page s area i < file_pages s

pub table-page-lies : (s : Shape) (area i : ℕ) → IsTrue (is_shape s) → area < 2 → i < area_pages s → TablePageLies s area i
table-page-lies s area i lawful two lt =
    let t = table-page s i in
    let g = gate-page s in
    let f = file-pages-are s in
    elim (one-of-two area two) [
      | inl e ↦ rw e (record { first = omega (arith, t.0); last = omega (arith, t.0, g.0, lt); inside = omega (arith, t.0, f, lt) })
      | inr e ↦ rw e (record { first = omega (arith, t.1); last = omega (arith, t.1, g.0, lt); inside = omega (arith, t.1, f, lt) })
    ]

-- where a gate page lies: behind the table areas
pub record GatePageLies (s : Shape) (half : ℕ) : Type 0 where
  pub behind : gate_page s 0 ≤ gate_page s half
  pub inside : gate_page s half < file_pages s
  pub small : gate_page s half ≤ 10000

pub gate-page-lies : (s : Shape) (half : ℕ) → IsTrue (is_shape s) → half < 2 → GatePageLies s half
gate-page-lies s half lawful two =
    let g = gate-page s in
    let f = file-pages-are s in
    let small = area-small s lawful in
    let w = within-limits s lawful in
    elim (one-of-two half two) [
      | inl e ↦ rw e (record { behind = omega arith; inside = omega (arith, g.0, f); small = omega (arith, g.0, small) })
      | inr e ↦ rw e (record { behind = omega (arith, g.0, g.1); inside = omega (arith, g.1, f, w.some_pages); small = omega (arith, g.1, small, w.few_slots) })
    ]

-- where a slot page lies: behind its half's gate page, and before the data pages
pub record SlotPageLies (s : Shape) (half i : ℕ) : Type 0 where
  pub behind : gate_page s half < slot_page s half i
  pub inside : slot_page s half i < file_pages s
  pub before : slot_page s half i < data_page s 0
  pub value : slot_page s half i ≡ gate_page s half + 1 + i

pub slot-page-lies : (s : Shape) (half i : ℕ) → IsTrue (is_shape s) → half < 2 → i < s.slots → SlotPageLies s half i
slot-page-lies s half i lawful two lt =
    let g = gate-page s in
    let f = file-pages-are s in
    let p = slot-page-is s half i in
    let d = data-page-is s 0 in
    let w = within-limits s lawful in
    let low : gate_page s half ≤ 3 + 2 * area_pages s + s.slots = elim (one-of-two half two) [ inl e ↦ rw e (omega (arith, g.0)) | inr e ↦ rw e (omega (arith, g.1)) ] in
    record { behind = omega (arith, p); inside = omega (arith, p, f, low, lt, w.some_pages); before = omega (arith, p, d, low, lt); value = p }

-- where a data page lies: at the end of the file
pub record DataPageLies (s : Shape) (i : ℕ) : Type 0 where
  pub behind : data_page s 0 ≤ data_page s i
  pub inside : data_page s i < file_pages s
  pub value : data_page s i ≡ 4 + 2 * area_pages s + 2 * s.slots + i

pub data-page-lies : (s : Shape) (i : ℕ) → i < s.pages → DataPageLies s i
data-page-lies s i lt =
    let f = file-pages-are s in
    let d = data-page-is s i in
    let z = data-page-is s 0 in
    record { behind = omega (arith, d, z); inside = omega (arith, d, f, lt); value = d }

-- two slot pages are one only where half and slot are the same
pub slots-apart : (s : Shape) (h i half slot : ℕ) → h < 2 → half < 2 → i < s.slots → slot < s.slots → (h ≢ half) ⊎ (i ≢ slot)
    → (slot_page s h i + 1 ≤ slot_page s half slot) ⊎ (slot_page s half slot + 1 ≤ slot_page s h i)
slots-apart s zero i zero slot two too few less apart = let p = slot-page-is s 0 i in let q = slot-page-is s 0 slot in grind (arith, p, q)
slots-apart s zero i (suc zero) slot two too few less apart = inl (omega (arith, slot-page-is s 0 i, slot-page-is s 1 slot, (gate-page s).0, (gate-page s).1, few))
slots-apart s (suc zero) i zero slot two too few less apart = inr (omega (arith, slot-page-is s 1 i, slot-page-is s 0 slot, (gate-page s).0, (gate-page s).1, less))
slots-apart s (suc zero) i (suc zero) slot two too few less apart = let p = slot-page-is s 1 i in let q = slot-page-is s 1 slot in grind (arith, p, q)
slots-apart s (suc (suc h)) i half slot two too few less apart = absurd (omega (arith, two))
slots-apart s h i (suc (suc half)) slot two too few less apart = absurd (omega (arith, too))

-- two gates are one only where half and slot are the same
pub gates-apart : (s : Shape) (h i half slot : ℕ) → s.slots ≤ 4000 → h < 2 → half < 2 → i < s.slots → slot < s.slots → (h ≢ half) ⊎ (i ≢ slot)
    → (slot_gate_at s h i + 1 ≤ slot_gate_at s half slot) ⊎ (slot_gate_at s half slot + 1 ≤ slot_gate_at s h i)
gates-apart s zero i zero slot few two too lt less apart = let p = gate-at-is s 0 i in let q = gate-at-is s 0 slot in grind (arith, p, q)
gates-apart s zero i (suc zero) slot few two too lt less apart = inl (omega (arith, gate-at-is s 0 i, gate-at-is s 1 slot, (gate-page s).0, (gate-page s).1, few, lt))
gates-apart s (suc zero) i zero slot few two too lt less apart = inr (omega (arith, gate-at-is s 1 i, gate-at-is s 0 slot, (gate-page s).0, (gate-page s).1, few, less))
gates-apart s (suc zero) i (suc zero) slot few two too lt less apart = let p = gate-at-is s 1 i in let q = gate-at-is s 1 slot in grind (arith, p, q)
gates-apart s (suc (suc h)) i half slot few two too lt less apart = absurd (omega (arith, two))
gates-apart s h i (suc (suc half)) slot few two too lt less apart = absurd (omega (arith, too))

-- a gate lies in no slot page
pub gate-off-slots : (s : Shape) (h i half slot : ℕ) → s.slots ≤ 4000 → h < 2 → half < 2 → i < s.slots → slot < s.slots
    → (slot_gate_at s h i + 1 ≤ slot_page s half slot * 4096) ⊎ (slot_page s half slot * 4096 + 4096 ≤ slot_gate_at s h i)
gate-off-slots s zero i zero slot few two too lt less = inl (omega (arith, gate-at-is s 0 i, slot-page-is s 0 slot, few, lt))
gate-off-slots s zero i (suc zero) slot few two too lt less = inl (omega (arith, gate-at-is s 0 i, slot-page-is s 1 slot, (gate-page s).0, (gate-page s).1, few, lt))
gate-off-slots s (suc zero) i zero slot few two too lt less = inr (omega (arith, gate-at-is s 1 i, slot-page-is s 0 slot, (gate-page s).0, (gate-page s).1, few, less))
gate-off-slots s (suc zero) i (suc zero) slot few two too lt less = inl (omega (arith, gate-at-is s 1 i, slot-page-is s 1 slot, few, lt))
gate-off-slots s (suc (suc h)) i half slot few two too lt less = absurd (omega (arith, two))
gate-off-slots s h i (suc (suc half)) slot few two too lt less = absurd (omega (arith, too))
