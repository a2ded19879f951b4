-- The table area of a root, page by page.
use Rattle.std.proofs.Common.{◌≡◌, ◌<◌, ◌≤◌, ◌⊎◌, inl, inr, ◌+◌, ◌*◌, ℕ, List, subst, ◌∙◌, arith}
use Rattle.std.proofs.lemmas.Bool.{cases_lt}
use Rattle.grid_types.specs.declared.shape.Shape.{Shape}
use Rattle.grid_types.specs.Pages.{page_of}
use Rattle.grid_types.specs.Shapes.{area_pages, header_page, table_page}
use Rattle.grid_types.proofs.Places.{table-page, one-of-two}
use Rattle.disk_trait.specs.Disk.{Agrees}
use Rattle.disk_trait.proofs.Pages.{agrees_wider, page_apart}
use Rattle.grid_types.specs.Ranges.{own_page, area_at, area_bytes}
use Rattle.file_roots.specs.Places.{AreaPageAlone, AreaAlone}
use Rattle.file_roots.proofs.Headers.{header_two}

-- the pages of a table area stand one behind the other
pub table_page_from : (s : Shape) (area i : ℕ) → area < 2 → table_page s area i ≡ table_page s area 0 + i
table_page_from s area i two =
    let t = table-page s i in
    let z = table-page s 0 in
    elim (one-of-two area two) [ inl e ↦ rw e (omega (arith, t.0, z.0)) | inr e ↦ rw e (omega (arith, t.1, z.1)) ]

-- what changes a page of a root's table area changes the area alone
pub page_in_area : (s : Shape) (number i : ℕ) (c d : List ℕ) → i < area_pages s → AreaPageAlone s number i c d → AreaAlone s number c d
page_in_area s number i c d lt a =
    let at = table_page_from s (header_page number) i (header_two number) in
    agrees_wider (own_page s number i * 4096) 4096 (area_at s number) (area_bytes s) c d (omega (arith, at)) (omega (arith, at, lt)) a

-- they ascend
pages_in_order : (s : Shape) (area i k : ℕ) → area < 2 → k < i → (table_page s area k * 4096 + 4096 ≤ table_page s area i * 4096) ⊎ (table_page s area i * 4096 + 4096 ≤ table_page s area k * 4096)
pages_in_order s area i k two lt = inl (omega (arith, table_page_from s area i two, table_page_from s area k two, lt))

-- what stands on the pages up to one more
pub pages_more : (s : Shape) (area i : ℕ) (P : ℕ → List ℕ) (c d : List ℕ) → area < 2 → ((k : ℕ) → k < i → page_of (table_page s area k) c ≡ P k) → Agrees (table_page s area i * 4096) 4096 c d
    → page_of (table_page s area i) d ≡ P i → (k : ℕ) → k < i + 1 → page_of (table_page s area k) d ≡ P k
pages_more s area i P c d two had a here k lt = elim (cases_lt k i) [
  | inl below ↦ page_apart (table_page s area i * 4096) 4096 (table_page s area k) c d (pages_in_order s area i k two below) a ∙ had k below
  | inr not_below ↦ let same : i ≡ k = omega (arith, lt, not_below) in subst (λ j. page_of (table_page s area j) d ≡ P j) same here
]
