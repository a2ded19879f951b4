-- What stays of an image where no page changes of which something is kept.
use Rattle.std.proofs.Common.{◌≡◌, ◌≢◌, ◌<◌, ◌≤◌, inl, inr, ◌+◌, ◌*◌, ℕ, zero, suc, List, length, take, refl, sym, ap, subst, ◌∙◌, arith}
use Rattle.std.specs.Prelude.{slice_get, Option, Some, None}
use Rattle.std.proofs.lemmas.Option.{slice_get_within}
use Rattle.grid_types.specs.declared.shape.Shape.{Shape}
use Rattle.grid_types.specs.Pages.{page_of}
use Rattle.grid_types.specs.Ranges.{own_page}
use Rattle.grid_types.specs.Shapes.{area_pages, header_page, slot_page, data_page}
use Rattle.grid_types.specs.Shapes as places
use Rattle.disk_trait.specs.Disk.{Agrees}
use Rattle.disk_trait.proofs.Pages.{page_apart}
use Rattle.grid_model.specs.Spellings.{LoggedBatch}
use Rattle.grid_model.specs.Images.{HasShape}
use Rattle.grid_model.specs.Roots.{WholeRoot, IsStanding, HasOlder, HasTried, HasOlderOrTried}
use Rattle.journal_slots.specs.Gates.{IsGatePage}
use Rattle.journal_slots.proofs.Frames.{batch_stays_by_page, gate_byte_stays_by_page}
use Rattle.file_roots.proofs.Headers.{header_two, off_page}
use Rattle.file_roots.proofs.Frames.{gate_by_page, fields_by_page, open_by_page, area_by_pages, has_fields_by, shape_by_fronts}
use Rattle.file_images.specs.Kept.{PlacedBatch, OtherHeader, ShutHeader, LooseHeader, IsTried, MayBeNewest, NextSlot, Shut, Flying, InDoubt, Kept, on_half, used, next_number}
use Rattle.file_images.specs.Shows.{HasSizes, ShowsRoots, gate_in, Obeys, ShowsPlaced, ShowsNext, Shows}
use Rattle.file_images.specs.Meets.{IsLooseUnder}
use Rattle.file_images.specs.Apart.{IsFreePage}
use Rattle.file_images.proofs.PagesApart.{few}

-- a half has no more used slots than slots
pub used_few : {K : ℕ} (k : Kept K) (h : ℕ) → h < 2 → HasSizes k → used k h ≤ k.shape.slots
used_few k zero two sizes = sizes.first
used_few k (suc h) two sizes = sizes.second

-- a slot that is used is one of the slots
pub used_slot : {K : ℕ} (k : Kept K) (h i : ℕ) (p : PlacedBatch K) → h < 2 → HasSizes k → slice_get (on_half k h) i ≡ Some p → i < k.shape.slots
used_slot k h i p two sizes is = omega (arith, slice_get_within (on_half k h) i p is, used_few k h two sizes)

-- the pages of which something is kept are the same, but for the gate pages
pub record KeptPagesStay {K : ℕ} (k : Kept K) (c d : List ℕ) : Type 0 where
  pub long : length d ≡ length c
  pub headers : (h : ℕ) → h < 2 → page_of h d ≡ page_of h c
  pub areas : (w : WholeRoot) (i : ℕ) → MayBeNewest k w → i < area_pages k.shape → page_of (own_page k.shape w.fields.number i) d ≡ page_of (own_page k.shape w.fields.number i) c
  pub pages : (p : ℕ) (bytes : List ℕ) → slice_get k.always p ≡ Some (Some bytes) → page_of (data_page k.shape p) d ≡ page_of (data_page k.shape p) c
  pub slots : (h i : ℕ) (p : PlacedBatch K) → h < 2 → slice_get (on_half k h) i ≡ Some p → page_of (slot_page k.shape h i) d ≡ page_of (slot_page k.shape h i) c
  pub doubt : (b : LoggedBatch K) → k.next ≡ InDoubt b → used k k.half < k.shape.slots → page_of (slot_page k.shape k.half (used k k.half)) d ≡ page_of (slot_page k.shape k.half (used k k.half)) c

pub shape_stays : {K : ℕ} (s : Shape) (c d : List ℕ) → length d ≡ length c → ((h : ℕ) → h < 2 → page_of h d ≡ page_of h c) → HasShape K c s → HasShape K d s
shape_stays {K} s c d long headers was = shape_by_fronts s c d K long (ap (take 64) (headers 0 (omega arith))) (ap (take 64) (headers 1 (omega arith))) was

-- the table area of a root stays
abbrev pub AreaStays : Shape → List ℕ → List ℕ → WholeRoot → Type 0
AreaStays s c d w = (i : ℕ) → i < area_pages s → page_of (own_page s w.fields.number i) d ≡ page_of (own_page s w.fields.number i) c

module _ (s : Shape) (c d : List ℕ) (headers : (h : ℕ) → h < 2 → page_of h d ≡ page_of h c) where
  standing_stays : (w : WholeRoot) → AreaStays s c d w → IsStanding s w c → IsStanding s w d
  standing_stays w same was = record { opens = open_by_page s c d (header_page w.fields.number) w.fields (headers (header_page w.fields.number) (header_two w.fields.number)) was.opens; area = area_by_pages s c d w.fields w.area same was.area }

  older_stays : (header : ℕ) (old : Option WholeRoot) → header < 2 → HasOlder s header old c → HasOlder s header old d
  older_stays header None two has = has
  older_stays header (Some old) two has = (has.0, has_fields_by s c d header has.0 (fields_by_page header c d (headers header two)) has.1, has.2)

  tried_stays : (header : ℕ) (old tried : Option WholeRoot) → header < 2 → ((w : WholeRoot) → tried ≡ Some w → AreaStays s c d w) → HasTried s header old tried c → HasTried s header old tried d
  tried_stays header old None two same has = has
  tried_stays header old (Some w) two same has = (has_fields_by s c d header w.fields (fields_by_page header c d (headers header two)) has.0, area_by_pages s c d w.fields w.area (same w refl) has.1, has.2)

  pub under_stays : (header : ℕ) (old tried : Option WholeRoot) → header < 2 → ((w : WholeRoot) → tried ≡ Some w → AreaStays s c d w) → HasOlderOrTried s header old tried c → HasOlderOrTried s header old tried d
  under_stays header old tried two same (inl has) = inl (older_stays header old two has)
  under_stays header old tried two same (inr has) = inr (tried_stays header old tried two same has)

  pub roots_stay : (root : WholeRoot) (other : OtherHeader) → AreaStays s c d root → ((w : WholeRoot) → IsTried other w → AreaStays s c d w) → ShowsRoots s root other c → ShowsRoots s root other d
  roots_stay root ShutHeader same tried was =
      let header = header_page (root.fields.number + 1) in
      record { keeps = standing_stays root same was.keeps; closed = λ is. was.closed (sym (gate_by_page header c d (headers header (header_two (root.fields.number + 1)))) ∙ is) }
  roots_stay root (LooseHeader one) same tried was =
      let header = header_page (root.fields.number + 1) in
      let two = header_two (root.fields.number + 1) in
      record {
        keeps = standing_stays root same was.keeps;
        under = elim was.under [
          | inl shut ↦ inl (λ is. shut (sym (gate_by_page header c d (headers header two)) ∙ is))
          | inr has ↦ inr (under_stays header (Some root) one two tried has)
        ];
      }

-- what stands under the gate of the other header page stays
pub loose_stays : {K : ℕ} (k : Kept K) (other : OtherHeader) (c d : List ℕ) → ((h : ℕ) → h < 2 → page_of h d ≡ page_of h c) → ((w : WholeRoot) → IsTried other w → AreaStays k.shape c d w) → IsLooseUnder k other c → IsLooseUnder k other d
loose_stays k ShutHeader c d headers tried was = tt
loose_stays k (LooseHeader one) c d headers tried was = under_stays k.shape c d headers (header_page (next_number k)) (Some k.root) one (header_two (next_number k)) tried was

pub gate_page_stays : (h slots : ℕ) (old new : List ℕ) → new ≡ old → IsGatePage h slots old → IsGatePage h slots new
gate_page_stays h slots old new same was = subst (IsGatePage h slots) (sym same) was

pub placed_stays : {K : ℕ} (s : Shape) (h i : ℕ) (p : PlacedBatch K) (c d : List ℕ) → page_of (slot_page s h i) d ≡ page_of (slot_page s h i) c → gate_in s h i d ≡ gate_in s h i c → ShowsPlaced s h i p c → ShowsPlaced s h i p d
placed_stays s h i p c d same gate was = record {
  spelled = batch_stays_by_page s h i p.batch c d same was.spelled;
  gate = subst (Obeys p.gate) (sym gate) was.gate;
}

pub next_stays : {K : ℕ} (s : Shape) (h i : ℕ) (n : NextSlot K) (c d : List ℕ) → ((b : LoggedBatch K) → n ≡ InDoubt b → page_of (slot_page s h i) d ≡ page_of (slot_page s h i) c) → gate_in s h i d ≡ gate_in s h i c → ShowsNext s h i n c → ShowsNext s h i n d
next_stays s h i Shut c d same gate was = gate ∙ was
next_stays s h i Flying c d same gate was = tt
next_stays s h i (InDoubt b) c d same gate (inl none) = inl (gate ∙ none)
next_stays s h i (InDoubt b) c d same gate (inr spelled) = inr (batch_stays_by_page s h i b c d (same b refl) spelled)

-- an image shows what it showed where no page changed of which something is kept
pub shows_same : {K : ℕ} (k : Kept K) (c d : List ℕ) → KeptPagesStay k c d → ((h : ℕ) → h < 2 → page_of (places.gate_page k.shape h) d ≡ page_of (places.gate_page k.shape h) c) → Shows k c → Shows k d
shows_same k c d stay gates was =
    let gate : (h i : ℕ) → h < 2 → i < k.shape.slots → gate_in k.shape h i d ≡ gate_in k.shape h i c = λ h i two lt. gate_byte_stays_by_page k.shape h (few k.shape was.shape.lawful) i c d lt (gates h two) in
    record {
      sizes = was.sizes;
      shape = shape_stays k.shape c d stay.long stay.headers was.shape;
      roots = roots_stay k.shape c d stay.headers k.root k.other (λ i lt. stay.areas k.root i (inl refl) lt) (λ w m i lt. stay.areas w i (inr m) lt) was.roots;
      pages = λ p bytes is. stay.pages p bytes is ∙ was.pages p bytes is;
      formed = λ h two. gate_page_stays h k.shape.slots _ _ (gates h two) (was.formed h two);
      slots = λ h i p two is. placed_stays k.shape h i p c d (stay.slots h i p two is) (gate h i two (used_slot k h i p two was.sizes is)) (was.slots h i p two is);
      unused = λ h i is. gate h i is.two is.inside ∙ was.unused h i is;
      next = λ lt. next_stays k.shape k.half (used k k.half) k.next c d (λ b is. stay.doubt b is lt) (gate k.half (used k k.half) was.sizes.two lt) (was.next lt);
    }

-- a write on a free page leaves the kept pages
module _ (q at n : ℕ) (c d : List ℕ) (low : q * 4096 ≤ at) (high : at + n ≤ q * 4096 + 4096) (a : Agrees at n c d) where
  pub page_stays : (p : ℕ) → p ≢ q → page_of p d ≡ page_of p c
  page_stays p apart = page_apart at n p c d (off_page p q at n apart low high) a

  pub kept_pages_stay : {K : ℕ} (k : Kept K) → IsFreePage k q → KeptPagesStay k c d
  kept_pages_stay k free = record {
    long = a.same_length;
    headers = λ h two. page_stays h (λ e. absurd (omega (arith, e, two, free.headers)));
    areas = λ w i m lt. page_stays _ (free.areas w i m lt);
    pages = λ p bytes is. page_stays _ (free.pages p bytes is);
    slots = λ h i p two is. page_stays _ (free.slots h i p two is);
    doubt = λ b is lt. page_stays _ (free.doubt b is lt);
  }

  -- a write on a free page leaves all that an image shows
  pub shows_apart : {K : ℕ} (k : Kept K) → IsFreePage k q → Shows k c → Shows k d
  shows_apart k free was = shows_same k c d (kept_pages_stay k free) (λ h two. page_stays _ (free.gates h two)) was
