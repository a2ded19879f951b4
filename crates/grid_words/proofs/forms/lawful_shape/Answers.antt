use Rattle.std.proofs.Common.{ap, arith, slice_index_or}
use Rattle.grid_types.proofs.Places.{within-limits}
use Rattle.grid_words.proofs.forms.lawful_shape.Goals as goal

pub returns-in_default-clause-none : goal.returns-in_default-clause-none
returns-in_default-clause-none c = λ s lawful sizes bounds cells.
    let limits = within-limits s lawful in
    let is = ap (λ ns. slice_index_or ns 0 0) sizes in
    c.in_default.ensures (omega (arith, limits.few_attributes, is))

pub returns-in_default-try_from-clause-none : goal.returns-in_default-try_from-clause-none
returns-in_default-try_from-clause-none c = λ s lawful sizes bounds cells.
    let limits = within-limits s lawful in
    let is = ap (λ ns. slice_index_or ns 1 0) sizes in
    c.in_default-try_from.ensures (omega (arith, limits.small_capacity, is))
