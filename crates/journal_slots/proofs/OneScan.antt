-- A half of an image has one scan for a session.
use Rattle.std.proofs.Common.{◌≡◌, ◌≤◌, ℕ, List, length, drop, get_or, sym, ap, subst, ◌∙◌, arith}
use Rattle.std.proofs.lemmas.List.{same_lists, length-take-le, length-drop}
use Rattle.std.proofs.lemmas.Option.{slice_get-get_or}
use Rattle.grid_types.specs.declared.shape.Shape.{Shape}
use Rattle.grid_types.specs.Pages.{page_of}
use Rattle.grid_types.specs.Shapes as places
use Rattle.grid_model.specs.Spellings.{LoggedBatch, gate_spelling}
use Rattle.grid_model.specs.Images.{HasGatesOf, SpellsBatch, open_slots_of, HasBatches, of_session, last_gate}
use Rattle.journal_slots.specs.declared.scan.Scan.{Scan}
use Rattle.journal_slots.specs.Gates.{gates_in}
use Rattle.journal_slots.specs.Scans.{AreBatchesOn, IsScan}
use Rattle.journal_slots.proofs.GatePages.{gates_there}
use Rattle.journal_slots.proofs.Standing.{batch_there}
use Rattle.journal_slots.proofs.Alone.{one_batch}

-- a page spells one batch at most
pub one_spelled : (K : ℕ) (page : List ℕ) (a b : LoggedBatch K) → K ≤ 4 → SpellsBatch page a → SpellsBatch page b → a ≡ b
one_spelled K page a b few x y = one_batch K page a b (batch_there K page a few x.lawful x.spelled) (batch_there K page b few y.lawful y.spelled)

-- the gate page of a half spells the gates that stand in it, and no others
pub the_gates : (s : Shape) (image : List ℕ) (half : ℕ) (gates : List ℕ) → HasGatesOf s image half gates → gates ≡ gates_in s.slots (page_of (places.gate_page s half) image)
the_gates s image half gates has =
    gates_there half gates (page_of (places.gate_page s half) image) has.page ∙ ap (λ (n : ℕ). gates_in n (page_of (places.gate_page s half) image)) has.count

-- the gates that stand in a page that was read and judged
pub gates_read : (s : Shape) (image : List ℕ) (half page n : ℕ) (out : List ℕ) → out ≡ page_of page image → page ≡ places.gate_page s half → n ≡ s.slots → n ≤ 4000 → length out ≡ 4096 → out ≡ gate_spelling half (gates_in n out) → HasGatesOf s image half (gates_in n out)
gates_read s image half page n out read is count few long spelled = record {
  count = length-take-le n (drop 96 out) (simp length-drop (omega arith)) ∙ count;
  page = ap (λ (p : ℕ). page_of p image) (sym is) ∙ sym read ∙ spelled;
}

module _ {K : ℕ} (s : Shape) (image : List ℕ) (few : K ≤ 4) where
  -- the pages of some slots spell one list of batches
  pub one_list : (slots : List (ℕ × ℕ)) (xs ys : List (LoggedBatch K)) → HasBatches s image slots xs → HasBatches s image slots ys → xs ≡ ys
  one_list slots xs ys x y =
      same_lists xs ys (x.count ∙ sym y.count) (λ i d lt.
      let slot : ℕ × ℕ = get_or slots i (0, 0) in
      let at = slice_get-get_or slots i (0, 0) (omega (arith, lt, x.count)) in
      one_spelled K (page_of (places.slot_page s slot.0 slot.1) image) (get_or xs i d) (get_or ys i d) few
      (x.each i slot (get_or xs i d) at (slice_get-get_or xs i d lt)) (y.each i slot (get_or ys i d) at (slice_get-get_or ys i d (omega (arith, lt, x.count, y.count)))))

  pub one_scan : (half session : ℕ) (a b : Scan K) → IsScan s image half session a → IsScan s image half session b → a ≡ b
  one_scan half session a b x y =
      let gates : y.gates ≡ x.gates = the_gates s image half y.gates y.spelled ∙ sym (the_gates s image half x.gates x.spelled) in
      let found : AreBatchesOn s image (open_slots_of x.gates half) session b.batches = subst (λ (gs : List ℕ). AreBatchesOn s image (open_slots_of gs half) session b.batches) gates y.found in
      let batches : a.batches ≡ b.batches = x.found.are ∙ ap (of_session session) (one_list (open_slots_of x.gates half) x.found.all found.all x.found.each found.each) ∙ sym found.are in
      let used : a.used ≡ b.used = x.used ∙ ap last_gate (sym gates) ∙ sym y.used in
      λ i. record { batches = batches i; used = used i }
