-- Pages that are for different things have different numbers.
use Rattle.std.proofs.Common.{◌≡◌, ◌≢◌, ◌<◌, ◌≤◌, ◌+◌, ◌-◌, ◌*◌, ℕ, zero, suc, cond, nat_lt, sym, ap, ◌∙◌, arith, lt-ltb, le-ltb}
use Rattle.grid_types.specs.declared.shape.Shape.{Shape}
use Rattle.grid_types.specs.Shapes.{area_pages, table_page, gate_page, slot_page, data_page}
use Rattle.grid_types.specs.FilePages.{FilePage, HeaderPage, AreaPage, GatePage, SlotPage, DataPage, page_number, HasPage, PagesAreApart}
use Rattle.grid_types.proofs.Places.{table-page, gate-page, slot-page-is, data-page-is}

before : (n m : ℕ) (x y : FilePage) → n < m → cond (nat_lt n m) x y ≡ x
before n m x y lt = ap (λ b. cond b x y) (lt-ltb n m lt)

behind : (n m : ℕ) (x y : FilePage) → m ≤ n → cond (nat_lt n m) x y ≡ y
behind n m x y le = ap (λ b. cond b x y) (le-ltb n m le)

module _ (s : Shape) where
  -- the page that has a number, from the data pages down
  data_from : ℕ → FilePage
  data_from n = DataPage (n - (4 + 2 * area_pages s + 2 * s.slots))

  second_half : ℕ → FilePage
  second_half n = cond (nat_lt n (4 + 2 * area_pages s + s.slots)) (GatePage 1) (cond (nat_lt n (4 + 2 * area_pages s + 2 * s.slots)) (SlotPage 1 (n - (4 + 2 * area_pages s + s.slots))) (data_from n))

  first_half : ℕ → FilePage
  first_half n = cond (nat_lt n (3 + 2 * area_pages s)) (GatePage 0) (cond (nat_lt n (3 + 2 * area_pages s + s.slots)) (SlotPage 0 (n - (3 + 2 * area_pages s))) (second_half n))

  areas : ℕ → FilePage
  areas n = cond (nat_lt n (2 + area_pages s)) (AreaPage 0 (n - 2)) (cond (nat_lt n (2 + 2 * area_pages s)) (AreaPage 1 (n - (2 + area_pages s))) (first_half n))

  page_at : ℕ → FilePage
  page_at n = cond (nat_lt n 2) (HeaderPage n) (areas n)

  to_areas : (n : ℕ) → 2 ≤ n → page_at n ≡ areas n
  unfolding page_at
  to_areas n le = behind n 2 (HeaderPage n) (areas n) le

  to_first_half : (n : ℕ) → 2 + 2 * area_pages s ≤ n → page_at n ≡ first_half n
  unfolding areas
  to_first_half n le =
      to_areas n (omega (arith, le))
      ∙ behind n (2 + area_pages s) (AreaPage 0 (n - 2)) (cond (nat_lt n (2 + 2 * area_pages s)) (AreaPage 1 (n - (2 + area_pages s))) (first_half n)) (omega (arith, le))
      ∙ behind n (2 + 2 * area_pages s) (AreaPage 1 (n - (2 + area_pages s))) (first_half n) le

  to_first_slots : (n : ℕ) → 3 + 2 * area_pages s ≤ n → page_at n ≡ cond (nat_lt n (3 + 2 * area_pages s + s.slots)) (SlotPage 0 (n - (3 + 2 * area_pages s))) (second_half n)
  unfolding first_half
  to_first_slots n le = to_first_half n (omega (arith, le)) ∙ behind n (3 + 2 * area_pages s) (GatePage 0) (cond (nat_lt n (3 + 2 * area_pages s + s.slots)) (SlotPage 0 (n - (3 + 2 * area_pages s))) (second_half n)) le

  to_second_half : (n : ℕ) → 3 + 2 * area_pages s + s.slots ≤ n → page_at n ≡ second_half n
  to_second_half n le = to_first_slots n (omega (arith, le)) ∙ behind n (3 + 2 * area_pages s + s.slots) (SlotPage 0 (n - (3 + 2 * area_pages s))) (second_half n) le

  to_second_slots : (n : ℕ) → 4 + 2 * area_pages s + s.slots ≤ n → page_at n ≡ cond (nat_lt n (4 + 2 * area_pages s + 2 * s.slots)) (SlotPage 1 (n - (4 + 2 * area_pages s + s.slots))) (data_from n)
  unfolding second_half
  to_second_slots n le =
      to_second_half n (omega (arith, le))
      ∙ behind n (4 + 2 * area_pages s + s.slots) (GatePage 1) (cond (nat_lt n (4 + 2 * area_pages s + 2 * s.slots)) (SlotPage 1 (n - (4 + 2 * area_pages s + s.slots))) (data_from n)) le

  -- the page that has the number of a page is that page
  found : (p : FilePage) → HasPage s p → page_at (page_number s p) ≡ p
  unfolding page_at areas first_half second_half data_from
  found (HeaderPage header) two = before header 2 (HeaderPage header) (areas header) two
  found (AreaPage zero i) in_range =
      let at = (table-page s i).0 in
      to_areas (table_page s 0 i) (omega (arith, at))
      ∙ before (table_page s 0 i) (2 + area_pages s) (AreaPage 0 (table_page s 0 i - 2)) _ (omega (arith, at, in_range.1))
      ∙ ap (AreaPage 0) (omega (arith, at))
  found (AreaPage (suc zero) i) in_range =
      let at = (table-page s i).1 in
      to_areas (table_page s 1 i) (omega (arith, at))
      ∙ behind (table_page s 1 i) (2 + area_pages s) (AreaPage 0 (table_page s 1 i - 2)) _ (omega (arith, at))
      ∙ before (table_page s 1 i) (2 + 2 * area_pages s) (AreaPage 1 (table_page s 1 i - (2 + area_pages s))) _ (omega (arith, at, in_range.1))
      ∙ ap (AreaPage 1) (omega (arith, at))
  found (AreaPage (suc (suc area)) i) in_range = absurd (omega (arith, in_range.0))
  found (GatePage zero) two = let at = (gate-page s).0 in to_first_half (gate_page s 0) (omega (arith, at)) ∙ before (gate_page s 0) (3 + 2 * area_pages s) (GatePage 0) _ (omega (arith, at))
  found (GatePage (suc zero)) two = let at = (gate-page s).1 in to_second_half (gate_page s 1) (omega (arith, at)) ∙ before (gate_page s 1) (4 + 2 * area_pages s + s.slots) (GatePage 1) _ (omega (arith, at))
  found (GatePage (suc (suc half))) two = absurd (omega (arith, two))
  found (SlotPage zero i) in_range =
      let gate = (gate-page s).0 in
      let at : slot_page s 0 i ≡ 3 + 2 * area_pages s + i = omega (arith, slot-page-is s 0 i, gate) in
      to_first_slots (slot_page s 0 i) (omega (arith, at))
      ∙ before (slot_page s 0 i) (3 + 2 * area_pages s + s.slots) (SlotPage 0 (slot_page s 0 i - (3 + 2 * area_pages s))) _ (omega (arith, at, in_range.1))
      ∙ ap (SlotPage 0) (omega (arith, at))
  found (SlotPage (suc zero) i) in_range =
      let gate = (gate-page s).1 in
      let at : slot_page s 1 i ≡ 4 + 2 * area_pages s + s.slots + i = omega (arith, slot-page-is s 1 i, gate) in
      to_second_slots (slot_page s 1 i) (omega (arith, at))
      ∙ before (slot_page s 1 i) (4 + 2 * area_pages s + 2 * s.slots) (SlotPage 1 (slot_page s 1 i - (4 + 2 * area_pages s + s.slots))) _ (omega (arith, at, in_range.1))
      ∙ ap (SlotPage 1) (omega (arith, at))
  found (SlotPage (suc (suc half)) i) in_range = absurd (omega (arith, in_range.0))
  found (DataPage i) in_range =
      let at = data-page-is s i in
      to_second_slots (data_page s i) (omega (arith, at))
      ∙ behind (data_page s i) (4 + 2 * area_pages s + 2 * s.slots) (SlotPage 1 (data_page s i - (4 + 2 * area_pages s + s.slots))) (DataPage (data_page s i - (4 + 2 * area_pages s + 2 * s.slots))) (omega (arith, at))
      ∙ ap DataPage (omega (arith, at))

-- pages with one number are one page
pub are-apart : PagesAreApart
are-apart s p q x y same = sym (found s p x) ∙ ap (page_at s) same ∙ found s q y

-- pages that are for different things have different numbers
pub pages-differ : (s : Shape) (p q : FilePage) → HasPage s p → HasPage s q → p ≢ q → page_number s p ≢ page_number s q
pages-differ s p q x y apart same = apart (are-apart s p q x y same)

-- the place of a page among those of its kind
abbrev pub place-of : FilePage → ℕ
place-of (HeaderPage header) = header
place-of (AreaPage area index) = index
place-of (GatePage half) = half
place-of (SlotPage half slot) = slot
place-of (DataPage index) = index

-- which of two areas or halves a page is of
abbrev pub side-of : FilePage → ℕ
side-of (HeaderPage header) = header
side-of (AreaPage area index) = area
side-of (GatePage half) = half
side-of (SlotPage half slot) = half
side-of (DataPage index) = 0
