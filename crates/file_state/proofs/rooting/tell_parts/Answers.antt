use Rattle.std.proofs.Common.{◌∙◌, ℕ, List, sym, subst, length, take_all, arith}
use Rattle.grid_types.specs.declared.owner.Owner.TheVariants.{Part}
use Rattle.grid_model.specs.Lawful.{nowhere}
use Rattle.page_states.specs.Current.{TellsPages}
use Rattle.file_state.proofs.rooting.tell_parts.Goals as goal

pub returns-clause-told : goal.returns-clause-told
unfolding nowhere
returns-clause-told c =
    subst (λ (ns : List ℕ). TellsPages Part nowhere c.args.states.now ns (length ns)) (sym (c.loop-i.invariant.same ∙ take_all c.loop-i.i c.part_pages.new.out (omega (arith, c.loop-i-test.false)))) c.part_pages.ensures.told
