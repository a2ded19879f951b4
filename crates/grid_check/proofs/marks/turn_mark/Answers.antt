use Rattle.std.proofs.Common.{ap, sym, ◌∙◌}
use Rattle.grid_check.specs.Marks.{mark_of}
use Rattle.grid_check.proofs.Marking.{turn_none}
use Rattle.grid_check.proofs.marks.turn_mark.Goals as goal

pub returns-in-None-clause-after : goal.returns-in-None-clause-after
returns-in-None-clause-after g c = λ k. ap (λ m. mark_of m k) c.get_mut.follows.holds-at-none ∙ turn_none c.args.key.now.numbers c.args.there c.args.marks.now (sym c.in-None.ensures.value) k
