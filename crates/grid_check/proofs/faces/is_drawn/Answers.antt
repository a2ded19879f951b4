use Rattle.std.proofs.Common.{◌∙◌, sym, ap, eq-eqb, eqb-true}
use Rattle.grid_model.specs.Scales.{low, high}
use Rattle.grid_check.proofs.Ends.{drawn_so, drawn_low, drawn_high}
use Rattle.grid_check.proofs.faces.is_drawn.Goals as goal

pub returns-then-low-lo : goal.returns-then-low-lo
returns-then-low-lo c =
    let s = c.args.scale.now.boundaries in
    let lo = c.args.lo in
    let hi = c.args.hi in
    let e = c.interval.ensures.lawful.scale in
    let l = c.bounds-low.ensures.low ∙ ap (low s) c.interval.ensures.value in
    let h = c.bounds-high.ensures.high ∙ ap (high s) c.interval-2.ensures.value in (
      (λ is. drawn_so s e lo hi (sym l ∙ c.if-low-lo.true) (sym h ∙ eqb-true c.bounds-high.result.1 hi is)),
      (λ d. eq-eqb c.bounds-high.result.1 hi (h ∙ drawn_high s e lo hi d)),
    )

pub returns-else-low-lo : goal.returns-else-low-lo
returns-else-low-lo c =
    let s = c.args.scale.now.boundaries in
    let lo = c.args.lo in
    let hi = c.args.hi in
    let e = c.interval.ensures.lawful.scale in
    let l = c.bounds-low.ensures.low ∙ ap (low s) c.interval.ensures.value in (
      (λ is. absurd (c.if-low-lo.false (eqb-true c.bounds-low.result.0 lo is))),
      (λ d. eq-eqb c.bounds-low.result.0 lo (l ∙ drawn_low s e lo hi d)),
    )
