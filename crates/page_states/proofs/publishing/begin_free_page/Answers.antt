use Rattle.std.proofs.Common.{◌∙◌, ap}
use Rattle.std.specs.Prelude.{slice_get}
use Rattle.std.proofs.lemmas.Option.{slice_get_within}
use Rattle.page_states.specs.declared.page_state.PageState.TheVariants.{Free, Claimed}
use Rattle.page_states.specs.Effects.{with_newest}
use Rattle.page_states.proofs.Beginnings.{claimed_first}
use Rattle.page_states.proofs.Lists.{get_set_same}
use Rattle.page_states.proofs.publishing.begin_free_page.Goals as goal

pub publish_page-requires-clause-claimed : goal.publish_page-requires-clause-claimed
publish_page-requires-clause-claimed c =
    let states = c.args.table.now.states.items in
    (0, ap (λ xs. slice_get xs c.args.page) c.claim_page.ensures.states ∙ get_set_same states c.args.page (Claimed 0) (slice_get_within states c.args.page Free c.requires.free))

pub returns-clause-states : goal.returns-clause-states
returns-clause-states c = c.publish_page.ensures.states ∙ ap (with_newest c.args.page c.args.owner c.args.at) c.claim_page.ensures.states ∙ claimed_first c.args.page 0 c.args.at c.args.owner c.args.table.now.states.items
