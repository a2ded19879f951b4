use Rattle.std.proofs.Common.{◌≡◌, ℕ, List, arith, replicate, take, subst}
use Rattle.std.proofs.lemmas.Result.{on_ok_weaker}
use Rattle.std.proofs.lemmas.List.{take-replicate}
use Rattle.grid_types.specs.Halves.{half_number}
use Rattle.grid_types.specs.Shapes.{slot_gate_at}
use Rattle.disk_trait.specs.Disk.{Holds}
use Rattle.journal_slots.proofs.sections.clear_half.Goals as goal

pub returns-clause-cleared : goal.returns-clause-cleared
returns-clause-cleared g c = λ h.
    let old = g.D.Disk.seen c.args.disk.now in
    let new = g.D.Disk.seen c.write_through.new.disk in
    let bytes : take c.args.used (replicate {A = ℕ} 4000 0) ≡ replicate {A = ℕ} c.args.used 0 = take-replicate c.args.used 4000 0 (omega (arith, c.requires.inside, c.gate_at-at.ensures.few)) in
    let there : Holds old c.gate_at-at.result (take c.args.used (replicate {A = ℕ} 4000 0)) new → Holds old (slot_gate_at c.args.geometry.now.shape (half_number c.args.half) 0) (replicate {A = ℕ} c.args.used 0) new =
    λ w. subst (λ (n : ℕ). Holds old n (replicate {A = ℕ} c.args.used 0) new) c.gate_at-at.ensures.value (subst (λ (b : List ℕ). Holds old c.gate_at-at.result b new) bytes w) in
    on_ok_weaker _ there (c.write_through.ensures.written h)
