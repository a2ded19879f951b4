use Rattle.std.proofs.Common.{List, refl, sym, subst, arith}
use Rattle.std.specs.Prelude.{IsSome}
use Rattle.std.proofs.lemmas.List.{take_all}
use Rattle.grid_types.specs.declared.layout_change.LoggedUpdate.{LoggedUpdate}
use Rattle.grid_check.specs.Marks.{HaveMarks, mark_of}
use Rattle.grid_check.proofs.Counted.{have_step}
use Rattle.grid_check.proofs.Marking.{name_keeps, name_unmarked}
use Rattle.grid_check.proofs.updates.name_keys.Goals as goal

pub loop-logged-preserved : goal.loop-logged-preserved
loop-logged-preserved g c =
    let i = c.loop-logged.invariant in
    let key = c.key_of.result.now.numbers in
    let old = c.loop-logged.marks in
    let new = c.insert.new.self in
    let updates = c.in_ok-insert.ensures.updates in
    let keeps = name_keeps key old new updates.0 in
    record {
      named = have_step c.args.updates.now c.loop-logged.logged-index c.logged-item.result c.loop-logged-test.true c.logged-item.is old new i.named keeps
          (subst (λ k. IsSome (mark_of new k)) c.key_of.ensures (subst IsSome (sym updates.1) refl));
      keeps = λ k some. keeps k (i.keeps k some);
      unmarked = λ none. name_unmarked key old new updates.0 (i.unmarked none);
    }

pub returns-clause-named : goal.returns-clause-named
returns-clause-named g c =
    subst (λ (us : List (LoggedUpdate g.row.K)). HaveMarks c.loop-logged.marks us) (take_all c.loop-logged.logged-index c.args.updates.now (omega (arith, c.loop-logged-test.false))) c.loop-logged.invariant.named
