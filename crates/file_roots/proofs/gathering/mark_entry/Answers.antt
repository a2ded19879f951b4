use Rattle.std.proofs.Common.{◌<◌, ◌++◌, ◌∷◌, [], ◌∙◌, length, sym, ap, subst, arith}
use Rattle.std.specs.Prelude.{All}
use Rattle.std.proofs.lemmas.List.{append-nil}
use Rattle.std.proofs.lemmas.List.Elements.{All-nil, All-cons}
use Rattle.grid_model.specs.Lists.{AreDistinct}
use Rattle.file_roots.specs.Gathering.{AreMarked}
use Rattle.file_roots.proofs.Marking.{entry_named, entry_nowhere}
use Rattle.file_roots.proofs.gathering.mark_entry.Goals as goal

pub returns-then-entry-eq-NOWHERE-clause-marked : goal.returns-then-entry-eq-NOWHERE-clause-marked
returns-then-entry-eq-NOWHERE-clause-marked c = λ named m yes.
    subst (AreMarked c.args.marks.now.items) (sym (ap (λ ys. named ++ ys) (entry_nowhere c.args.may_be_nowhere c.args.entry c.if-may_be_nowhere.true c.if-entry-eq-NOWHERE.true) ∙ append-nil named)) m

pub returns-then-entry-eq-NOWHERE-clause-inside : goal.returns-then-entry-eq-NOWHERE-clause-inside
returns-then-entry-eq-NOWHERE-clause-inside c = λ yes.
    subst (All (λ p. p < length c.args.marks.now.items)) (sym (entry_nowhere c.args.may_be_nowhere c.args.entry c.if-may_be_nowhere.true c.if-entry-eq-NOWHERE.true)) (All-nil (λ p. p < length c.args.marks.now.items))

pub returns-clause-marked : goal.returns-clause-marked
returns-clause-marked c = λ named m yes.
    subst (λ ys. AreMarked c.mark.new.marks.items (named ++ ys)) (sym (entry_named c.args.may_be_nowhere c.args.entry c.else-may_be_nowhere.either)) (c.mark.ensures.marked named m yes)

pub returns-clause-inside : goal.returns-clause-inside
returns-clause-inside c = λ yes.
    subst (All (λ p. p < length c.args.marks.now.items)) (sym (entry_named c.args.may_be_nowhere c.args.entry c.else-may_be_nowhere.either)) (All-cons (λ p. p < length c.args.marks.now.items) c.args.entry [] (c.mark.ensures.inside yes) (All-nil (λ p. p < length c.args.marks.now.items)))

pub returns-clause-refused : goal.returns-clause-refused
returns-clause-refused c = λ named more m no all distinct.
    let one = entry_named c.args.may_be_nowhere c.args.entry c.else-may_be_nowhere.either in
    let alone : All (λ p. p < length c.args.marks.now.items) (c.args.entry ∷ []) = subst (All (λ p. p < length c.args.marks.now.items)) one all in
    c.mark.ensures.refused named more m no (alone 0 0 (omega arith)) (subst (λ ys. AreDistinct (named ++ (ys ++ more))) one distinct)
