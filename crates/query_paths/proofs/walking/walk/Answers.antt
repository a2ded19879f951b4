use Rattle.std.proofs.Common.{◌≡◌, ◌<◌, ◌↔◌, ℕ, Bool, false, All, List, length, refl, sym, ap, ◌∙◌, subst, arith, rules}
use Rattle.std.proofs.lemmas.List.{length-replicate}
use Rattle.std.proofs.lemmas.Result.{err_from_is_err_and}
use Rattle.grid_model.specs.Cells.{dims, cell_index, InCellBox}
use Rattle.grid_model.specs.ScaleLaws.{IsCell}
use Rattle.grid_model.proofs.Boxes.{some-not-none}
use Rattle.grid_types.specs.declared.cell_box.CellBox.{CellBox}
use Rattle.grid_cells.specs.CellBoxes.{IsNextInCellBox, IsLastInCellBox}
use Rattle.linear_scales.specs.Queries.{MeetsQuery}
use Rattle.query_paths.specs.Pinned.{Place}
use Rattle.query_paths.specs.Calls.{place}
use Rattle.query_paths.specs.Walks.{IsBoxCell, IsHeldGood, IsWalked, HasCellCause, cells_met}
use Rattle.query_paths.proofs.Stepping.{visited-on, first-in, begun, walked-on, whole, next-is-cell, highest-is-cell, box-is, query-cause}
use Rattle.query_paths.proofs.walking.walk.Goals as goal

pub cells-init : goal.cells-init
cells-init g c =
    let p = place g.Q.Pinned c.args.pinned.now in
    let q = c.args.query.now in
    let sides = c.counted-sides.ensures.count in
    let lowest = c.cells_of-cells.ensures.lowest in
    record {
      same = record { same_place = refl; same_rest = g.met.Q.Pinned.stays_self c.args.pinned.now };
      later = omega arith;
      is_in = subst (λ (x : List ℕ). IsBoxCell p (cells_met p.scales q) x) (sym lowest) (first-in p q c.dims-dims.ensures.count sides c.requires.lawful);
      good = λ h e. absurd (some-not-none h (sym e ∙ c.begin.ensures.held));
      marks = ap length c.begin.ensures.marks ∙ length-replicate {A = Bool} (length c.args.room.now.marks) false;
      walked = subst (λ (x : List ℕ). IsWalked p q (cells_met p.scales q) (cell_index (dims p.scales) x) c.begin.new.self c.args.steps.now c.args.steps.now (g.G.Gather.holds c.args.gathering.now)) (sym lowest) (begun p q c.dims-dims.ensures.count sides c.requires.lawful c.begin.new.self (length c.args.room.now.marks) c.args.steps.now (g.G.Gather.holds c.args.gathering.now) c.begin.ensures.marks c.begin.ensures.held c.requires.nothing);
    }

pub visit_cell-requires : goal.visit_cell-requires
visit_cell-requires g c =
    let p = place g.Q.Pinned c.args.pinned.now in
    let q = c.args.query.now in
    let was = c.cells.invariant in
    let back = sym was.same.same_place in
    let low : c.index-index.result < 1000000 = omega (arith, c.index-index.ensures.below, c.dims-dims.result.lawful.few) in (
      search rules,
      (
        search rules,
        (
          omega arith,
          (
            c.requires.few,
            (
              subst (λ (x : Place). IsCell (dims x.scales) c.cells.cell) back was.is_in.is_cell,
              (
                c.index-index.ensures.value ∙ ap (λ (ns : List ℕ). cell_index ns c.cells.cell) c.dims-dims.ensures.value ∙ ap (λ (x : Place). cell_index (dims x.scales) c.cells.cell) back,
                (
                  low,
                  (
                    subst (λ (x : Place). All (λ (n : ℕ). n < length c.cells.room.marks) x.numbers) back (subst (λ (m : ℕ). All (λ (n : ℕ). n < m) p.numbers) (sym was.marks) c.requires.within),
                    subst (λ (x : Place). IsHeldGood x c.cells.room) back was.good,
                  ),
                ),
              ),
            ),
          ),
        ),
      ),
    )

pub returns-in_err-visit_cell-clause-cause : goal.returns-in_err-visit_cell-clause-cause
returns-in_err-visit_cell-clause-cause g c =
    let p = place g.Q.Pinned c.args.pinned.now in
    let q = c.args.query.now in
    let was = c.cells.invariant in
    let e = err_from_is_err_and c.from_residual.result c.from_residual.ensures.1 in
    let box = box-is p.scales q c.cells_of-cells.result c.cells_of-cells.ensures.lowest c.cells_of-cells.ensures.highest in
    let inside = subst (λ (x : CellBox g.row.K). InCellBox x c.cells.cell) (sym box) was.is_in.inside in
    let met = (c.cells_of-cells.ensures.meets c.cells.cell was.is_in.is_cell).1 inside in
    let cause = subst (λ (x : Place). HasCellCause g.G.Gather.may_lack x c.cells.cell c.visit_cell.new.room (g.Q.Pinned.faults c.cells.pinned) (g.Q.Pinned.faults c.visit_cell.new.pinned) c.visit_cell.result) was.same.same_place c.visit_cell.ensures.cause in
    rw (e.1, e.2) (query-cause g.G.Gather.may_lack p q.sides c.cells.cell c.visit_cell.new.room (g.Q.Pinned.faults c.args.pinned.now) (g.Q.Pinned.faults c.cells.pinned) (g.Q.Pinned.faults c.visit_cell.new.pinned) c.in_err-visit_cell.field-0.0 was.is_in.is_cell met was.later (rw c.in_err-visit_cell.was at cause))

pub next-requires : goal.next-requires
next-requires g c =
    let p = place g.Q.Pinned c.args.pinned.now in
    let q = c.args.query.now in
    let was = c.cells.invariant in
    let box = box-is p.scales q c.cells_of-cells.result c.cells_of-cells.ensures.lowest c.cells_of-cells.ensures.highest in
    let high = highest-is-cell p q c.dims-dims.ensures.count c.counted-sides.ensures.count c.requires.lawful in (
      search rules,
      (
        search rules,
        (
          search rules,
          (
            subst (λ (ns : List ℕ). IsCell ns c.cells_of-cells.result.hi) (sym c.dims-dims.ensures.value) (subst (λ (x : List ℕ). IsCell (dims p.scales) x) (sym c.cells_of-cells.ensures.highest) high),
            subst (λ (x : CellBox g.row.K). InCellBox x c.cells.cell) (sym box) was.is_in.inside,
          ),
        ),
      ),
    )

pub cells-preserved : goal.cells-preserved
cells-preserved g c =
    let p = place g.Q.Pinned c.args.pinned.now in
    let q = c.args.query.now in
    let was = c.cells.invariant in
    let cell = c.cells.cell in
    let b = cells_met p.scales q in
    let H = g.G.Gather.holds c.visit_cell.new.gathering in
    let to = was.same.same_place in
    let at : c.index-index.result ≡ cell_index (dims p.scales) cell = c.index-index.ensures.value ∙ ap (λ (ns : List ℕ). cell_index ns cell) c.dims-dims.ensures.value in
    let visited = visited-on p (place g.Q.Pinned c.cells.pinned) q b c.cells.room c.visit_cell.new.room c.args.steps.now c.cells.steps c.visit_cell.new.steps (g.G.Gather.holds c.cells.gathering) H cell c.index-index.result was.same.same_place at was.walked (c.in_ok-visit_cell.ensures.walked b c.args.steps.now was.is_in.inside) in
    let box = box-is p.scales q c.cells_of-cells.result c.cells_of-cells.ensures.lowest c.cells_of-cells.ensures.highest in
    let next = subst (λ (x : CellBox g.row.K). IsNextInCellBox (dims p.scales) x cell c.in-Some.next) box (subst (λ (ns : List ℕ). IsNextInCellBox ns c.cells_of-cells.result cell c.in-Some.next) c.dims-dims.ensures.value c.in-Some.ensures) in
    let high = highest-is-cell p q c.dims-dims.ensures.count c.counted-sides.ensures.count c.requires.lawful in
    let long : length b.lo ≡ length b.hi = (first-in p q c.dims-dims.ensures.count c.counted-sides.ensures.count c.requires.lawful).is_cell.count ∙ sym high.count in
    record {
      same = record { same_place = c.in_ok-visit_cell.ensures.same.same_place ∙ to; same_rest = g.met.Q.Pinned.stays_on c.args.pinned.now c.cells.pinned c.visit_cell.new.pinned was.same.same_rest c.in_ok-visit_cell.ensures.same.same_rest };
      later = omega (arith, was.later, c.in_ok-visit_cell.ensures.cause.later);
      is_in = next-is-cell p b c.in-Some.next high long next.inside;
      good = subst (λ (x : Place). IsHeldGood x c.visit_cell.new.room) to c.in_ok-visit_cell.ensures.good;
      marks = c.in_ok-visit_cell.ensures.marks ∙ was.marks;
      walked = walked-on p q b c.visit_cell.new.room c.args.steps.now c.visit_cell.new.steps H cell visited c.in-Some.next next;
    }

pub returns-in-None-clause-walked : goal.returns-in-None-clause-walked
returns-in-None-clause-walked g c =
    let p = place g.Q.Pinned c.args.pinned.now in
    let q = c.args.query.now in
    let was = c.cells.invariant in
    let cell = c.cells.cell in
    let b = cells_met p.scales q in
    let H = g.G.Gather.holds c.visit_cell.new.gathering in
    let at : c.index-index.result ≡ cell_index (dims p.scales) cell = c.index-index.ensures.value ∙ ap (λ (ns : List ℕ). cell_index ns cell) c.dims-dims.ensures.value in
    let visited = visited-on p (place g.Q.Pinned c.cells.pinned) q b c.cells.room c.visit_cell.new.room c.args.steps.now c.cells.steps c.visit_cell.new.steps (g.G.Gather.holds c.cells.gathering) H cell c.index-index.result was.same.same_place at was.walked (c.in_ok-visit_cell.ensures.walked b c.args.steps.now was.is_in.inside) in
    let box = box-is p.scales q c.cells_of-cells.result c.cells_of-cells.ensures.lowest c.cells_of-cells.ensures.highest in
    let last = subst (λ (x : CellBox g.row.K). IsLastInCellBox (dims p.scales) x cell) box (subst (λ (ns : List ℕ). IsLastInCellBox ns c.cells_of-cells.result cell) c.dims-dims.ensures.value c.in-None.ensures) in
    whole p q b c.visit_cell.new.room c.args.steps.now c.visit_cell.new.steps H cell visited last

pub returns-in-None-clause-met : goal.returns-in-None-clause-met
returns-in-None-clause-met g c = λ cell d.
    let p = place g.Q.Pinned c.args.pinned.now in
    let q = c.args.query.now in
    let box = box-is p.scales q c.cells_of-cells.result c.cells_of-cells.ensures.lowest c.cells_of-cells.ensures.highest in
    subst (λ (x : CellBox g.row.K). MeetsQuery g.row.K p.scales q.sides cell ↔ InCellBox x cell) box (c.cells_of-cells.ensures.meets cell d)
