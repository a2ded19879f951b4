use Rattle.page_states.specs.States.{shows}
use Rattle.page_states.proofs.Olds.{none_in_both}
use Rattle.page_states.proofs.reading.anchored_at.Goals as goal

pub returns-clause-none : goal.returns-clause-none
returns-clause-none c =
    let t = c.args.table.now in
    none_in_both (shows c.args.owner c.args.place) t.states.items t.first.pages.items t.second.pages.items c.in_default.ensures.none c.in_default-anchored_page_at.ensures.none
