use Rattle.std.proofs.Common.{◌+◌, inl, inr, ap, subst, arith}
use Rattle.grid_types.specs.declared.refusal.Refusal.TheVariants.{Damaged, NoMemory}
use Rattle.grid_types.specs.Shapes.{area_pages}
use Rattle.grid_types.proofs.Places.{one-of-two}
use Rattle.grid_model.specs.Images.{HasShape}
use Rattle.file_roots.proofs.Outcomes.{refused_so, same_refusal}
use Rattle.file_roots.proofs.Telling.{told_before}
use Rattle.recovery.specs.Faults.{IsFirstFault, IsNoFaultOr}
use Rattle.recovery.proofs.Good.{good_none, good_first, good_roots}
use Rattle.recovery.proofs.Refusing.{shape_no_memory}
use Rattle.recovery.proofs.Firsts.{on_refusal, after_shape, after_root, shape_same}
use Rattle.recovery.proofs.rooting.read_rooted.Goals as goal

pub returns-in_err-geometry-clause-first : goal.returns-in_err-geometry-clause-first
returns-in_err-geometry-clause-first g c = λ h.
    on_refusal (IsNoFaultOr (IsFirstFault g.row.K (g.D.Disk.seen c.args.disk.now))) c.from_residual.result c.in_err-geometry.field-0.0 c.from_residual.ensures.1 (after_shape g.row.K (g.D.Disk.seen c.args.disk.now) c.in_err-geometry.field-0.0 (c.in_err-geometry.ensures.first h))

pub returns-in_err-geometry-clause-no_memory : goal.returns-in_err-geometry-clause-no_memory
returns-in_err-geometry-clause-no_memory g c = λ h is.
    let e = c.in_err-geometry.field-0.0 in
    absurd (shape_no_memory e c.in_err-geometry.ensures.causes.no_other (same_refusal c.from_residual.result e NoMemory c.from_residual.ensures.1 is))

pub returns-in_err-geometry-clause-before : goal.returns-in_err-geometry-clause-before
returns-in_err-geometry-clause-before g c = λ h is n e.
    let seen = g.D.Disk.seen c.args.disk.now in
    let shape = c.in_err-geometry.ensures in
    elim (one-of-two n (omega (arith, e, shape.ticks.most))) [
      | inl none ↦ good_none seen n none
      | inr one ↦ let begun = shape.before h (omega (arith, e, one)) in good_first seen n begun.shape one begun.begins
    ]

pub returns-in_err-root-clause-first : goal.returns-in_err-root-clause-first
returns-in_err-root-clause-first g c = λ h.
    let s = c.in_ok-geometry.geometry.shape in
    let seen = g.D.Disk.seen c.args.disk.now in
    let shape = c.in_ok-geometry.ensures in
    let root = c.in_err-root.ensures in
    let e = c.in_err-root.field-0.0 in
    let told = told_before g.D.Disk s c.read_headers.new.zeroth c.read_headers.new.first c.read_headers.new.steps (c.read_newest_from.new.steps + 2) _ shape.same h (shape.pages h) root.tells in
    on_refusal (IsNoFaultOr (IsFirstFault g.row.K seen)) c.from_residual-in_err-root.result e c.from_residual-in_err-root.ensures.1 (after_root g.row.K seen s (subst (λ k. HasShape k seen s) c.if-geometry.false (shape.found h)) e root.causes.no_other
    (λ p is. told.damaged p (refused_so e (Damaged p) is)))

pub returns-in_err-root-clause-no_memory : goal.returns-in_err-root-clause-no_memory
returns-in_err-root-clause-no_memory g c = λ h is.
    let s = c.in_ok-geometry.geometry.shape in
    let seen = g.D.Disk.seen c.args.disk.now in
    let shape = c.in_ok-geometry.ensures in
    let e = c.in_err-root.field-0.0 in
    let told = told_before g.D.Disk s c.read_headers.new.zeroth c.read_headers.new.first c.read_headers.new.steps (c.read_newest_from.new.steps + 2) _ shape.same h (shape.pages h) c.in_err-root.ensures.tells in
    let found = told.no_memory (refused_so e NoMemory (same_refusal c.from_residual-in_err-root.result e NoMemory c.from_residual-in_err-root.ensures.1 is)) in
    record { shape = s; has = subst (λ k. HasShape k seen s) c.if-geometry.false (shape.found h); root = found.0; newest = found.1 }

pub returns-in_err-root-clause-before : goal.returns-in_err-root-clause-before
returns-in_err-root-clause-before g c = λ h is n e.
    let s = c.in_ok-geometry.geometry.shape in
    let seen = g.D.Disk.seen c.args.disk.now in
    let shape = c.in_ok-geometry.ensures in
    let root = c.in_err-root.ensures in
    let told = told_before g.D.Disk s c.read_headers.new.zeroth c.read_headers.new.first c.read_headers.new.steps (c.read_newest_from.new.steps + 2) _ shape.same h (shape.pages h) root.tells in
    good_roots seen s (subst (λ k. HasShape k seen s) c.if-geometry.false (shape.found h)) n (omega (arith, e, shape.ticks.all, root.ticks.most)) (told.good_before n (omega (arith, e, shape.ticks.all)))

pub returns-in_err-root-clause-most : goal.returns-in_err-root-clause-most
returns-in_err-root-clause-most g c = λ h s begins.
    let shape = c.in_ok-geometry.ensures in
    omega (arith, ap area_pages (shape_same (g.D.Disk.seen c.args.disk.now) _ c.in_ok-geometry.geometry.shape s (shape.found h) begins), shape.ticks.all, c.in_err-root.ensures.ticks.most)

pub returns-clause-most : goal.returns-clause-most
returns-clause-most g c = λ h s begins.
    let shape = c.in_ok-geometry.ensures in
    omega (arith, ap area_pages (shape_same (g.D.Disk.seen c.args.disk.now) _ c.in_ok-geometry.geometry.shape s (shape.found h) begins), shape.ticks.all, c.in_ok-root.ensures.ticks.all)

pub returns-clause-found : goal.returns-clause-found
returns-clause-found g c = λ h.
    let s = c.in_ok-geometry.geometry.shape in
    let seen = g.D.Disk.seen c.args.disk.now in
    let shape = c.in_ok-geometry.ensures in
    let told = told_before g.D.Disk s c.read_headers.new.zeroth c.read_headers.new.first c.read_headers.new.steps (c.read_newest_from.new.steps + 2) _ shape.same h (shape.pages h) c.in_ok-root.ensures.tells in
    record { shape = subst (λ k. HasShape k seen s) c.if-geometry.false (shape.found h); whole = told.found }

pub returns-clause-lawful : goal.returns-clause-lawful
returns-clause-lawful g c = record {
  attributes = c.if-geometry.false;
  size = c.in_ok-geometry.ensures.long;
  root = c.in_ok-root.ensures.lawful;
  limits = c.in_ok-root.ensures.limits;
}
