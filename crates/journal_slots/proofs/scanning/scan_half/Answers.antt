use Rattle.std.proofs.Common.{◌≡◌, ◌+◌, ◌-◌, ℕ, List, length, take, drop, inr, sym, ap, subst, ◌∙◌, arith}
use Rattle.grid_types.specs.Halves.{half_number}
use Rattle.grid_model.specs.Images.{open_slots_of, last_gate}
use Rattle.journal_slots.specs.Gates.{gates_in}
use Rattle.journal_slots.specs.Scans.{AreBatchesOn, IsFirstBadSlot, AreFirstGood, IsToKeep}
use Rattle.journal_slots.proofs.OneScan.{one_scan, the_gates, gates_read}
use Rattle.journal_slots.proofs.GoodPages.{good_up_to}
use Rattle.journal_slots.proofs.Refused.{same_refusal, where_refused}
use Rattle.journal_slots.proofs.scanning.scan_half.Goals as goal

-- a part of the page, by its length
part_is : (n : ℕ) (out : List ℕ) → take (96 + n - 96) (drop 96 out) ≡ gates_in n out
part_is n out = ap (λ (k : ℕ). take k (drop 96 out)) (omega arith)

pub returns-clause-found : goal.returns-clause-found
returns-clause-found g c = λ h.
    let s = c.args.geometry.now.shape in
    let image = g.D.Disk.seen c.args.disk.now in
    let out = c.read_page.new.out in
    let gates = gates_in c.slots_of-slots.result out in
    record {
      gates = gates;
      spelled = gates_read s image (half_number c.args.half) c.gate_page-gate_page.result c.slots_of-slots.result out (c.in_ok-read_page.ensures.bytes h) c.gate_page-gate_page.ensures.value c.slots_of-slots.ensures.value c.slots_of-slots.ensures.few c.read_page.array_long (c.is_gate_page.ensures.gates c.if-not-is_gate_page.false);
      found = subst (λ (i : List ℕ). AreBatchesOn s i (open_slots_of gates (half_number c.args.half)) c.args.session c.scan_slots.new.found) (c.in_ok-read_page.ensures.same.seen h)
          (subst (λ (gs : List ℕ). AreBatchesOn s (g.D.Disk.seen c.read_page.new.disk) (open_slots_of gs (half_number c.args.half)) c.args.session c.scan_slots.new.found) (part_is c.slots_of-slots.result out) (c.in_ok-scan_slots.ensures.found (c.in_ok-read_page.ensures.same.honest ∙ h)));
      used = c.slots_in_use-used.ensures.value ∙ ap last_gate (part_is c.slots_of-slots.result out);
    }

pub returns-clause-only : goal.returns-clause-only
returns-clause-only g c = λ h cs is.
    one_scan c.args.geometry.now.shape (g.D.Disk.seen c.args.disk.now) c.requires.few (half_number c.args.half) c.args.session (record { batches = c.scan_slots.new.found; used = c.slots_in_use-used.result }) cs (returns-clause-found g c h) is

pub returns-clause-ticks : goal.returns-clause-ticks
returns-clause-ticks g c = λ h gates has.
    let out = c.read_page.new.out in
    let s = c.args.geometry.now.shape in
    let read = gates_read s (g.D.Disk.seen c.args.disk.now) (half_number c.args.half) c.gate_page-gate_page.result c.slots_of-slots.result out (c.in_ok-read_page.ensures.bytes h) c.gate_page-gate_page.ensures.value c.slots_of-slots.ensures.value c.slots_of-slots.ensures.few c.read_page.array_long (c.is_gate_page.ensures.gates c.if-not-is_gate_page.false) in
    let same : take (96 + c.slots_of-slots.result - 96) (drop 96 out) ≡ gates = part_is c.slots_of-slots.result out ∙ the_gates s (g.D.Disk.seen c.args.disk.now) (half_number c.args.half) _ read ∙ sym (the_gates s (g.D.Disk.seen c.args.disk.now) (half_number c.args.half) gates has) in
    let count : length (open_slots_of (take (96 + c.slots_of-slots.result - 96) (drop 96 out)) (half_number c.args.half)) ≡ length (open_slots_of gates (half_number c.args.half)) = ap (λ (gs : List ℕ). length (open_slots_of gs (half_number c.args.half))) same in
    omega (arith, c.in_ok-scan_slots.ensures.all, c.in_ok-read_page.ensures.ticks, count)

pub returns-in_err-scan_slots-clause-damaged : goal.returns-in_err-scan_slots-clause-damaged
returns-in_err-scan_slots-clause-damaged g c = λ h p is.
    let s = c.args.geometry.now.shape in
    let image = g.D.Disk.seen c.args.disk.now in
    let out = c.read_page.new.out in
    let gates = gates_in c.slots_of-slots.result out in
    inr (record {
      gates = gates;
      spelled = gates_read s image (half_number c.args.half) c.gate_page-gate_page.result c.slots_of-slots.result out (c.in_ok-read_page.ensures.bytes h) c.gate_page-gate_page.ensures.value c.slots_of-slots.ensures.value c.slots_of-slots.ensures.few c.read_page.array_long (c.is_gate_page.ensures.gates c.if-not-is_gate_page.false);
      first = subst (λ (i : List ℕ). IsFirstBadSlot g.row.K s i (half_number c.args.half) gates p) (c.in_ok-read_page.ensures.same.seen h)
          (subst (λ (gs : List ℕ). IsFirstBadSlot g.row.K s (g.D.Disk.seen c.read_page.new.disk) (half_number c.args.half) gs p) (part_is c.slots_of-slots.result out) (c.in_err-scan_slots.ensures.damaged (c.in_ok-read_page.ensures.same.honest ∙ h) p (same_refusal c.from_residual-in_err-scan_slots.result _ _ c.from_residual-in_err-scan_slots.ensures.1 is)));
    })

pub returns-in_err-scan_slots-clause-no_memory : goal.returns-in_err-scan_slots-clause-no_memory
returns-in_err-scan_slots-clause-no_memory g c = λ h is.
    let s = c.args.geometry.now.shape in
    let out = c.read_page.new.out in
    let gates = gates_in c.slots_of-slots.result out in
    record {
      gates = gates;
      spelled = gates_read s (g.D.Disk.seen c.args.disk.now) (half_number c.args.half) c.gate_page-gate_page.result c.slots_of-slots.result out (c.in_ok-read_page.ensures.bytes h) c.gate_page-gate_page.ensures.value c.slots_of-slots.ensures.value c.slots_of-slots.ensures.few c.read_page.array_long (c.is_gate_page.ensures.gates c.if-not-is_gate_page.false);
      kept = subst (λ (i : List ℕ). IsToKeep g.row.K s i (half_number c.args.half) gates c.args.session) (c.in_ok-read_page.ensures.same.seen h)
          (subst (λ (gs : List ℕ). IsToKeep g.row.K s (g.D.Disk.seen c.read_page.new.disk) (half_number c.args.half) gs c.args.session) (part_is c.slots_of-slots.result out) (c.in_err-scan_slots.ensures.no_memory (c.in_ok-read_page.ensures.same.honest ∙ h) (same_refusal c.from_residual-in_err-scan_slots.result _ _ c.from_residual-in_err-scan_slots.ensures.1 is)));
    }

pub returns-in_err-scan_slots-clause-before : goal.returns-in_err-scan_slots-clause-before
returns-in_err-scan_slots-clause-before g c = λ h n e.
    let s = c.args.geometry.now.shape in
    let image = g.D.Disk.seen c.args.disk.now in
    let half = half_number c.args.half in
    let out = c.read_page.new.out in
    let gates = gates_in c.slots_of-slots.result out in
    let spelled = gates_read s image half c.gate_page-gate_page.result c.slots_of-slots.result out (c.in_ok-read_page.ensures.bytes h) c.gate_page-gate_page.ensures.value c.slots_of-slots.ensures.value c.slots_of-slots.ensures.few c.read_page.array_long (c.is_gate_page.ensures.gates c.if-not-is_gate_page.false) in
    where_refused c.from_residual-in_err-scan_slots.result (good_up_to g.row.K s image half gates n spelled (λ m is.
    subst (λ (i : List ℕ). AreFirstGood g.row.K s i half gates m) (c.in_ok-read_page.ensures.same.seen h)
    (subst (λ (gs : List ℕ). AreFirstGood g.row.K s (g.D.Disk.seen c.read_page.new.disk) half gs m) (part_is c.slots_of-slots.result out) (c.in_err-scan_slots.ensures.before (c.in_ok-read_page.ensures.same.honest ∙ h) m (omega (arith, e, is, c.in_ok-read_page.ensures.ticks))))))
