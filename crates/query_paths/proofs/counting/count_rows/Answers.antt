use Rattle.std.proofs.Common.{◌∙◌, ℕ, false, Result, refl, sym, subst, arith, rules}
use Rattle.std.proofs.lemmas.Result.{err_from_is_err_and}
use Rattle.grid_types.specs.declared.refusal.Refusal.{Refusal}
use Rattle.grid_model.specs.Listings.{rows}
use Rattle.query_paths.specs.Pinned.{MakesSteps}
use Rattle.query_paths.specs.Paths.{pages_of_query}
use Rattle.query_paths.specs.Calls.{place}
use Rattle.query_paths.proofs.Counts.{count-all}
use Rattle.query_paths.proofs.Wholly.{found-whole, cut-within}
use Rattle.query_paths.proofs.Queried.{judged, cause-on, honest-query, only-fault}
use Rattle.query_paths.proofs.counting.count_rows.Goals as goal

pub walk-requires : goal.walk-requires
walk-requires g c = (search rules, (omega arith, (c.requires.few, (c.requires.lawful, (c.requires.within, refl)))))

pub returns-in_err-walk-clause-cause : goal.returns-in_err-walk-clause-cause
returns-in_err-walk-clause-cause g c =
    let p = place g.Q.Pinned c.args.pinned.now in
    let e = err_from_is_err_and c.from_residual.result c.from_residual.ensures.1 in
    rw (e.1, e.2) (cause-on false p c.args.query.now.sides c.walk.new.room.part.value c.walk.new.room.bucket.value (g.Q.Pinned.faults c.args.pinned.now) (g.Q.Pinned.faults c.walk.new.pinned) c.in_err-walk.field-0.0 (rw c.in_err-walk.was at c.walk.ensures.cause))

pub returns-in_err-walk-clause-honest : goal.returns-in_err-walk-clause-honest
returns-in_err-walk-clause-honest g c = λ L t pin.
    let p = place g.Q.Pinned c.args.pinned.now in
    let e = err_from_is_err_and c.from_residual.result c.from_residual.ensures.1 in
    rw (e.1, e.2) (only-fault c.in_err-walk.field-0.0 (honest-query false p L t c.args.query.now.sides c.walk.new.room.part.value c.walk.new.room.bucket.value (g.Q.Pinned.faults c.args.pinned.now) (g.Q.Pinned.faults c.walk.new.pinned) c.in_err-walk.field-0.0 pin (rw c.in_err-walk.was at c.walk.ensures.cause)))

pub returns-in_err-walk-clause-reads : goal.returns-in_err-walk-clause-reads
returns-in_err-walk-clause-reads g c = λ L t pin.
    let p = place g.Q.Pinned c.args.pinned.now in
    let e = err_from_is_err_and c.from_residual.result c.from_residual.ensures.1 in
    let cut = rw c.in_err-walk.was at (c.walk.ensures.reads L t pin) in
    subst (λ (r : Result ℕ Refusal). MakesSteps (pages_of_query L c.args.query.now) c.args.steps.now c.walk.new.steps r) (sym e.1) (cut.least, cut-within p L t pin c.args.query.now c.counted-sides.ensures.count c.requires.lawful c.walk.ensures.met c.args.steps.now c.walk.new.steps cut)

pub returns-clause-answer : goal.returns-clause-answer
returns-clause-answer g c = λ L t pin.
    let p = place g.Q.Pinned c.args.pinned.now in
    let w = found-whole p L t pin c.args.query.now c.counted-sides.ensures.count c.requires.lawful c.in_ok-walk.ensures.met c.args.steps.now c.walk.new.steps _ c.in_ok-walk.ensures.walked in
    w.holds_found ∙ count-all w.found (rows t c.args.query.now) w.same

pub returns-clause-reads : goal.returns-clause-reads
returns-clause-reads g c = λ L t pin.
    let p = place g.Q.Pinned c.args.pinned.now in
    let w = found-whole p L t pin c.args.query.now c.counted-sides.ensures.count c.requires.lawful c.in_ok-walk.ensures.met c.args.steps.now c.walk.new.steps _ c.in_ok-walk.ensures.walked in
    w.steps

pub returns-clause-judged : goal.returns-clause-judged
returns-clause-judged g c =
    judged (place g.Q.Pinned c.args.pinned.now) c.args.query.now c.args.steps.now c.walk.new.steps _ c.in_ok-walk.ensures.met c.in_ok-walk.ensures.walked
