use Rattle.std.proofs.Common.{◌≡◌, ◌≢◌, ℕ, List, length, slice_index, sym, ap, subst, ◌∙◌, arith}
use Rattle.std.proofs.lemmas.Bool.{false≢true}
use Rattle.grid_types.specs.Halves.{half_number}
use Rattle.grid_types.specs.Pages.{page_of}
use Rattle.grid_types.specs.Shapes.{slot_page}
use Rattle.disk_trait.proofs.Calls.{reads_then}
use Rattle.journal_slots.specs.Scans.{AreBatchesOn, SpellsSome, SpellsOf}
use Rattle.journal_slots.proofs.OpenSlots.{open_count, open_same, open_few, found_more, before_more, before_same}
use Rattle.journal_slots.proofs.GoodPages.{passed_good}
use Rattle.journal_slots.proofs.Refused.{same_refusal, where_refused}
use Rattle.journal_slots.proofs.LawfulBatches.{lawful_none}
use Rattle.journal_slots.proofs.scanning.scan_slots.Goals as goal

pub loop-slot-preserved-then-not-is_open : goal.loop-slot-preserved-then-not-is_open
loop-slot-preserved-then-not-is_open g c =
    let was = c.loop-slot.invariant in
    let closed : slice_index c.args.gates.now c.loop-slot.slot ≢ 1 = λ e. false≢true (sym c.if-not-is_open.true ∙ c.is_open.ensures.1 e) in
    let same = open_same c.args.gates.now (half_number c.args.half) c.loop-slot.slot closed in
    record {
      same = was.same;
      steps = omega (arith, was.steps, ap length same);
      found = λ h. subst (λ (slots : List (ℕ × ℕ)). AreBatchesOn c.args.geometry.now.shape (g.D.Disk.seen c.args.disk.now) slots c.args.session c.loop-slot.found) (sym same) (was.found h);
      before = λ h. before_same c.args.geometry.now.shape (g.D.Disk.seen c.args.disk.now) c.args.session c.args.gates.now (half_number c.args.half) c.loop-slot.slot closed (was.before h);
      lawful = was.lawful;
    }

pub loop-slot-preserved : goal.loop-slot-preserved
loop-slot-preserved g c =
    let was = c.loop-slot.invariant in
    let now = c.in_ok-scan_slot.ensures in
    let s = c.args.geometry.now.shape in
    let image = g.D.Disk.seen c.args.disk.now in
    let one : slice_index c.args.gates.now c.loop-slot.slot ≡ 1 = c.is_open.ensures.0 c.if-not-is_open.false in
    record {
      same = reads_then was.same now.same;
      steps = omega (arith, now.ticks, was.steps, open_count c.args.gates.now (half_number c.args.half) c.loop-slot.slot one);
      found = λ h. found_more s image c.args.session c.args.gates.now (half_number c.args.half) c.loop-slot.slot c.slot_page-page.result (g.D.Disk.seen c.loop-slot.disk) c.loop-slot.found c.scan_slot.new.found (was.same.seen h) c.slot_page-page.ensures.value one
          (now.found (was.same.honest ∙ h)) (was.found h);
      before = λ h. before_more s image c.args.session c.args.gates.now (half_number c.args.half) c.loop-slot.slot c.slot_page-page.result (g.D.Disk.seen c.loop-slot.disk) c.loop-slot.found c.scan_slot.new.found (was.same.seen h) c.slot_page-page.ensures.value
          (now.found (was.same.honest ∙ h)) (was.before h);
      lawful = λ all. now.lawful (was.lawful all);
    }

pub returns-in_err-scan_slot-clause-damaged : goal.returns-in_err-scan_slot-clause-damaged
returns-in_err-scan_slot-clause-damaged g c = λ h p is.
    let was = c.loop-slot.invariant in
    let bad = c.in_err-scan_slot.ensures.damaged (was.same.honest ∙ h) p (same_refusal c.from_residual.result _ _ c.from_residual.ensures.1 is) in
    record {
      slot = c.loop-slot.slot;
      inside = c.loop-slot-test.true;
      opened = c.is_open.ensures.0 c.if-not-is_open.false;
      page_is = omega (arith, bad.0, c.slot_page-page.ensures.value);
      none = λ some. bad.1 (subst (λ (b : List ℕ). SpellsSome g.row.K b) (λ i. page_of (bad.0 i) (sym (was.same.seen h) i)) some);
      before = was.before h;
    }

pub returns-in_err-scan_slot-clause-no_memory : goal.returns-in_err-scan_slot-clause-no_memory
returns-in_err-scan_slot-clause-no_memory g c = λ h is.
    let was = c.loop-slot.invariant in
    let bytes : page_of c.slot_page-page.result (g.D.Disk.seen c.loop-slot.disk) ≡ page_of (slot_page c.args.geometry.now.shape (half_number c.args.half) c.loop-slot.slot) (g.D.Disk.seen c.args.disk.now) =
    λ i. page_of (c.slot_page-page.ensures.value i) (was.same.seen h i) in
    record {
      slot = c.loop-slot.slot;
      inside = c.loop-slot-test.true;
      opened = c.is_open.ensures.0 c.if-not-is_open.false;
      spelled = subst (λ (b : List ℕ). SpellsOf g.row.K b c.args.session) bytes (c.in_err-scan_slot.ensures.no_memory (was.same.honest ∙ h) (same_refusal c.from_residual.result _ _ c.from_residual.ensures.1 is));
      before = was.before h;
    }

pub returns-in_err-scan_slot-clause-most : goal.returns-in_err-scan_slot-clause-most
returns-in_err-scan_slot-clause-most g c = omega (arith, c.in_err-scan_slot.ensures.ticks, c.loop-slot.invariant.steps, open_few c.args.gates.now (half_number c.args.half) c.loop-slot.slot, c.loop-slot-test.true)

pub returns-clause-most : goal.returns-clause-most
returns-clause-most g c = omega (arith, c.loop-slot.invariant.steps, open_few c.args.gates.now (half_number c.args.half) c.loop-slot.slot, c.loop-slot.auto.slot-end)

pub returns-in_err-scan_slot-clause-before : goal.returns-in_err-scan_slot-clause-before
returns-in_err-scan_slot-clause-before g c = λ h n e.
    let was = c.loop-slot.invariant in
    where_refused c.from_residual.result (passed_good c.args.geometry.now.shape (g.D.Disk.seen c.args.disk.now) c.args.session (half_number c.args.half) c.loop-slot.slot n c.args.gates.now c.loop-slot.found (omega (arith, c.loop-slot-test.true, c.requires.gates))
    (c.is_open.ensures.0 c.if-not-is_open.false) (omega (arith, e, was.steps, c.in_err-scan_slot.ensures.ticks)) (was.found h))

pub returns-clause-lawful : goal.returns-clause-lawful
returns-clause-lawful g c = c.loop-slot.invariant.lawful (lawful_none c.args.session c.args.found.now c.requires.empty)
