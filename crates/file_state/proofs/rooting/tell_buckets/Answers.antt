use Rattle.std.proofs.Common.{◌∙◌, ℕ, List, sym, subst, length}
use Rattle.grid_types.specs.declared.owner.Owner.TheVariants.{Bucket}
use Rattle.grid_model.specs.Lawful.{nowhere}
use Rattle.page_states.specs.Current.{TellsPages}
use Rattle.file_state.proofs.rooting.tell_buckets.Goals as goal

pub returns-clause-told : goal.returns-clause-told
unfolding nowhere
returns-clause-told c = subst (λ (ns : List ℕ). TellsPages Bucket nowhere c.args.states.now ns (length ns)) (sym c.fill.ensures.items) c.bucket_pages.ensures.told

pub returns-clause-numbers : goal.returns-clause-numbers
returns-clause-numbers c = c.fill.ensures.count ∙ c.requires.numbers
