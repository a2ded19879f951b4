-- What header pages and table areas say stays where only bytes elsewhere change.
use Rattle.std.proofs.Common.{◌≡◌, ◌<◌, ◌≤◌, inl, inr, ◌+◌, ◌*◌, ℕ, List, [], ◌∷◌, length, take, drop, slice_index, IsTrue, sym, ap, subst, ◌∙◌, arith}
use Rattle.std.specs.Prelude.{Option, Some, None}
use Rattle.grid_types.specs.declared.shape.Shape.{Shape}
use Rattle.grid_types.specs.Pages.{page_of}
use Rattle.grid_types.specs.Ranges.{page_range, slot_ranges}
use Rattle.grid_types.specs.Shapes.{is_shape, area_pages, header_page, table_page, gate_page, slot_gate_at, data_page}
use Rattle.grid_types.proofs.Places.{gate-page, gate-page-lies, slot-page-lies, data-page-lies, table-page-lies}
use Rattle.grid_model.specs.Spellings.{RootFields}
use Rattle.grid_model.specs.Lawful.{Area}
use Rattle.grid_model.specs.Images.{HasShape, header_gate, root_fields, IsOpenOver, IsOtherOlder, IsNewest, HasArea}
use Rattle.grid_model.specs.Roots.{WholeRoot, IsNewestWhole, ShowsOld, ShowsOldOrTried, ComesNext, KeepsOld, IsReady, HasFields, HasOlder, HasTried, HasOlderOrTried, IsReplaceable}
use Rattle.disk_trait.specs.Disk.{Agrees}
use Rattle.disk_trait.specs.Moments.{IsOutside, AgreesOutside}
use Rattle.disk_trait.proofs.Ranges.{outside_one, page_outside}
use Rattle.file_roots.proofs.Headers.{header_two, other_header}

-- a gate stays with its page
pub gate_by_page : (header : ℕ) (c d : List ℕ) → page_of header d ≡ page_of header c → header_gate d header ≡ header_gate c header
gate_by_page header c d same = ap (λ (p : List ℕ). slice_index p 64) same

-- so do the root fields
pub fields_by_page : (header : ℕ) (c d : List ℕ) → page_of header d ≡ page_of header c → root_fields d header ≡ root_fields c header
fields_by_page header c d same = ap (λ (p : List ℕ). take 56 (drop 72 p)) same

-- the header page and the table area that are not those of a root of this number stay
pub record OtherRootStays (s : Shape) (number : ℕ) (c d : List ℕ) : Type 0 where
  pub header : page_of (header_page (number + 1)) d ≡ page_of (header_page (number + 1)) c
  pub area : (i : ℕ) → i < area_pages s → page_of (table_page s (header_page (number + 1)) i) d ≡ page_of (table_page s (header_page (number + 1)) i) c

module _ (s : Shape) (c d : List ℕ) where
  -- an open root stays with its header page
  pub open_by_page : (header : ℕ) (r : RootFields) → page_of header d ≡ page_of header c → IsOpenOver s c header r → IsOpenOver s d header r
  open_by_page header r same o = record { gate = gate_by_page header c d same ∙ o.gate; spelled = fields_by_page header c d same ∙ o.spelled; lawful = o.lawful }

  -- fields stay where their bytes do
  pub has_fields_by : (header : ℕ) (r : RootFields) → root_fields d header ≡ root_fields c header → HasFields s header r c → HasFields s header r d
  has_fields_by header r same has = record { spelled = same ∙ has.spelled; lawful = has.lawful }

  -- a table area stays with its pages
  pub area_by_pages : (r : RootFields) (a : Area) → ((i : ℕ) → i < area_pages s → page_of (table_page s (header_page r.number) i) d ≡ page_of (table_page s (header_page r.number) i) c) → HasArea s c r a → HasArea s d r a
  area_by_pages r a same area = record { lawful = area.lawful; pages = λ i lt. same i lt ∙ area.pages i lt }

  -- the other header page stays closed, or open over an older root
  pub other_by_page : (number : ℕ) → page_of (header_page (number + 1)) d ≡ page_of (header_page (number + 1)) c → IsOtherOlder s number c → IsOtherOlder s number d
  other_by_page number same (inl shut) = inl (λ is. shut (sym (gate_by_page (header_page (number + 1)) c d same) ∙ is))
  other_by_page number same (inr older) = inr (older.0, open_by_page (header_page (number + 1)) older.0 same older.1, older.2)

  -- the newest root stays with both header pages
  pub newest_by_pages : (r : RootFields) → page_of (header_page r.number) d ≡ page_of (header_page r.number) c → page_of (header_page (r.number + 1)) d ≡ page_of (header_page (r.number + 1)) c → IsNewest s c r → IsNewest s d r
  newest_by_pages r own other newest = record { opens = open_by_page (header_page r.number) r own newest.opens; other = other_by_page r.number other newest.other }

  -- the shape stays with the first bytes of both header pages
  pub shape_by_fronts : (K : ℕ) → length d ≡ length c → take 64 (page_of 0 d) ≡ take 64 (page_of 0 c) → take 64 (page_of 1 d) ≡ take 64 (page_of 1 c) → HasShape K c s → HasShape K d s
  shape_by_fronts K long zeroth first shape = record {
    lawful = shape.lawful;
    attributes = shape.attributes;
    first = zeroth ∙ shape.first;
    second = first ∙ shape.second;
    long = omega (arith, shape.long, long);
  }

  -- the old root is kept
  pub kept_by_pages : (number : ℕ) (old : Option WholeRoot) → OtherRootStays s number c d → ComesNext old number → KeepsOld s number old c → KeepsOld s number old d
  kept_by_pages number None stays comes shut = λ is. shut (sym (gate_by_page (header_page (number + 1)) c d stays.header) ∙ is)
  kept_by_pages number (Some old) stays comes stands =
      let same : header_page (number + 1) ≡ header_page old.fields.number = other_header number old.fields.number (λ e. comes.apart (sym e)) in
      record {
        opens = open_by_page (header_page old.fields.number) old.fields (subst (λ (h : ℕ). page_of h d ≡ page_of h c) same stays.header) stands.opens;
        area = area_by_pages old.fields old.area (λ i lt. subst (λ (h : ℕ). page_of (table_page s h i) d ≡ page_of (table_page s h i) c) same (stays.area i lt)) stands.area;
      }

  -- an image stays ready where its gate stays too
  pub ready_by_pages : (number : ℕ) (old : Option WholeRoot) → OtherRootStays s number c d → header_gate d (header_page number) ≡ header_gate c (header_page number) → ComesNext old number → IsReady s number old c → IsReady s number old d
  ready_by_pages number old stays gate comes was = record { keeps = kept_by_pages number old stays comes was.keeps; closed = λ is. was.closed (sym gate ∙ is) }

  -- the fields of an older root stay
  older_by : (header : ℕ) (old : Option WholeRoot) → root_fields d header ≡ root_fields c header → HasOlder s header old c → HasOlder s header old d
  older_by header None same has = has
  older_by header (Some old) same has = (has.0, has_fields_by header has.0 same has.1, has.2)

  module _ (areas : (r : RootFields) (a : Area) → HasArea s c r a → HasArea s d r a) where
    -- so do those of the root that was tried, with its table area
    tried_by : (header : ℕ) (old tried : Option WholeRoot) → root_fields d header ≡ root_fields c header → HasTried s header old tried c → HasTried s header old tried d
    tried_by header old None same has = has
    tried_by header old (Some w) same has = (has_fields_by header w.fields same has.0, areas w.fields w.area has.1, has.2)

    pub under_by : (header : ℕ) (old tried : Option WholeRoot) → root_fields d header ≡ root_fields c header → HasOlderOrTried s header old tried c → HasOlderOrTried s header old tried d
    under_by header old tried same (inl older) = inl (older_by header old same older)
    under_by header old tried same (inr has) = inr (tried_by header old tried same has)

    -- a header page may still be closed and written
    pub replaceable_by : (number : ℕ) (old tried : Option WholeRoot) → OtherRootStays s number c d → page_of (header_page number) d ≡ page_of (header_page number) c → ComesNext old number → IsReplaceable s number old tried c → IsReplaceable s number old tried d
    replaceable_by number old tried stays own comes was = record {
      keeps = kept_by_pages number old stays comes was.keeps;
      under = elim was.under [
        | inl shut ↦ inl (λ is. shut (sym (gate_by_page (header_page number) c d own) ∙ is))
        | inr has ↦ inr (under_by (header_page number) old tried (fields_by_page (header_page number) c d own) has)
      ];
    }

-- both header pages and both table areas stay
pub record RootPagesStay (s : Shape) (c d : List ℕ) : Type 0 where
  pub same_length : length d ≡ length c
  pub headers : (header : ℕ) → header < 2 → page_of header d ≡ page_of header c
  pub areas : (area i : ℕ) → area < 2 → i < area_pages s → page_of (table_page s area i) d ≡ page_of (table_page s area i) c

module _ (s : Shape) (c d : List ℕ) (stays : RootPagesStay s c d) where
  -- then all that is said of roots stays
  pub other_root : (number : ℕ) → OtherRootStays s number c d
  other_root number = record { header = stays.headers (header_page (number + 1)) (header_two (number + 1)); area = λ i lt. stays.areas (header_page (number + 1)) i (header_two (number + 1)) lt }

  pub own_header : (number : ℕ) → page_of (header_page number) d ≡ page_of (header_page number) c
  own_header number = stays.headers (header_page number) (header_two number)

  pub shape_kept : (K : ℕ) → HasShape K c s → HasShape K d s
  shape_kept K shape = shape_by_fronts s c d K stays.same_length (ap (take 64) (stays.headers 0 (omega arith))) (ap (take 64) (stays.headers 1 (omega arith))) shape

  pub newest_kept : (r : RootFields) → IsNewest s c r → IsNewest s d r
  newest_kept r newest = newest_by_pages s c d r (own_header r.number) (own_header (r.number + 1)) newest

  pub area_kept : (r : RootFields) (a : Area) → HasArea s c r a → HasArea s d r a
  area_kept r a area = area_by_pages s c d r a (λ i lt. stays.areas (header_page r.number) i (header_two r.number) lt) area

  pub whole_kept : (w : WholeRoot) → IsNewestWhole s w c → IsNewestWhole s w d
  whole_kept w whole = record { newest = newest_kept w.fields whole.newest; area = area_kept w.fields w.area whole.area }

  pub old_kept : (old : Option WholeRoot) → ShowsOld s old c → ShowsOld s old d
  old_kept None none = record {
    zeroth = λ is. none.zeroth (sym (gate_by_page 0 c d (stays.headers 0 (omega arith))) ∙ is);
    first = λ is. none.first (sym (gate_by_page 1 c d (stays.headers 1 (omega arith))) ∙ is);
  }
  old_kept (Some old) whole = whole_kept old whole

  pub shows_kept : (old tried : Option WholeRoot) → ShowsOldOrTried s old tried c → ShowsOldOrTried s old tried d
  shows_kept old None shows = old_kept old shows
  shows_kept old (Some w) (inl whole) = inl (whole_kept w whole)
  shows_kept old (Some w) (inr shows) = inr (old_kept old shows)

  pub keeps_kept : (number : ℕ) (old : Option WholeRoot) → ComesNext old number → KeepsOld s number old c → KeepsOld s number old d
  keeps_kept number old comes keeps = kept_by_pages s c d number old (other_root number) comes keeps

  pub ready_kept : (number : ℕ) (old : Option WholeRoot) → ComesNext old number → IsReady s number old c → IsReady s number old d
  ready_kept number old comes ready = ready_by_pages s c d number old (other_root number) (gate_by_page (header_page number) c d (own_header number)) comes ready

  pub under_kept : (number : ℕ) (old tried : Option WholeRoot) → HasOlderOrTried s (header_page number) old tried c → HasOlderOrTried s (header_page number) old tried d
  under_kept number old tried has = under_by s c d area_kept (header_page number) old tried (fields_by_page (header_page number) c d (own_header number)) has

  pub replaceable_kept : (number : ℕ) (old tried : Option WholeRoot) → ComesNext old number → IsReplaceable s number old tried c → IsReplaceable s number old tried d
  replaceable_kept number old tried comes is = replaceable_by s c d area_kept number old tried (other_root number) (own_header number) comes is

module _ (s : Shape) (lawful : IsTrue (is_shape s)) where
  -- they stay where only bytes behind the table areas change
  pub stays_behind : (rs : List (ℕ × ℕ)) (c d : List ℕ) → ((i : ℕ) → i < gate_page s 0 * 4096 → IsOutside rs i) → AgreesOutside rs c d → RootPagesStay s c d
  stays_behind rs c d behind a = record {
    same_length = a.same_length;
    headers = λ header two. let g = gate-page s in page_outside rs header c d (λ i low high. behind i (omega (arith, high, two, g.0))) a;
    areas = λ area i two lt. let p = table-page-lies s area i lawful two lt in page_outside rs (table_page s area i) c d (λ k low high. behind k (omega (arith, high, p.last))) a;
  }

  -- as one range there
  pub stays_past : (at n : ℕ) (c d : List ℕ) → gate_page s 0 * 4096 ≤ at → Agrees at n c d → RootPagesStay s c d
  stays_past at n c d high a = stays_behind ((at, n) ∷ []) c d (λ i low. (inl (omega (arith, low, high)), tt)) (outside_one at n c d a)

  -- a data page lies there
  data_high : (page : ℕ) → page < s.pages → gate_page s 0 * 4096 ≤ data_page s page * 4096
  data_high page lt = omega (arith, (data-page-lies s page lt).value, (gate-page s).0)

  -- as a data page
  pub stays_at_data : (page : ℕ) (c d : List ℕ) → page < s.pages → AgreesOutside (page_range (data_page s page) ∷ []) c d → RootPagesStay s c d
  stays_at_data page c d lt a = stays_behind (page_range (data_page s page) ∷ []) c d (λ i low. (inl (omega (arith, low, data_high page lt)), tt)) a

  -- as bytes from a data page on
  pub stays_from_data : (page at n : ℕ) (c d : List ℕ) → page < s.pages → data_page s page * 4096 ≤ at → Agrees at n c d → RootPagesStay s c d
  stays_from_data page at n c d lt high a = stays_past at n c d (omega (arith, high, data_high page lt)) a

  -- as gates of slots
  pub stays_at_gates : (half slot n : ℕ) (c d : List ℕ) → half < 2 → Agrees (slot_gate_at s half slot) n c d → RootPagesStay s c d
  unfolding slot_gate_at
  stays_at_gates half slot n c d two a = let g = gate-page-lies s half lawful two in stays_past (slot_gate_at s half slot) n c d (omega (arith, g.behind)) a

  -- as a slot with its gate
  pub stays_at_slot : (half slot : ℕ) (c d : List ℕ) → half < 2 → slot < s.slots → AgreesOutside (slot_ranges s half slot) c d → RootPagesStay s c d
  unfolding slot_gate_at
  stays_at_slot half slot c d two lt a =
      let p = slot-page-lies s half slot lawful two lt in
      let g = gate-page-lies s half lawful two in
      stays_behind (slot_ranges s half slot) c d (λ i low. (inl (omega (arith, low, p.behind, g.behind)), (inl (omega (arith, low, g.behind)), tt))) a
