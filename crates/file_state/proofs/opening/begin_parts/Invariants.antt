use Rattle.grid_types.specs.declared.owner.Owner.TheVariants.{Part}
use Rattle.file_state.proofs.Beginning.{HasBegun}
use Rattle.file_state.proofs.opening.begin_parts.Given as goal

abbrev pub invariant-loop-p : goal.invariant-loop-p
invariant-loop-p l = HasBegun Part l.at l.parts l.initial.states l.states l.p
