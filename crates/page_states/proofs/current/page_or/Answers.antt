use Rattle.page_states.proofs.Told.{one_current}
use Rattle.page_states.proofs.current.page_or.Goals as goal

pub returns-clause-page : goal.returns-clause-page
returns-clause-page c = λ p from has.
    let t = c.args.table.now in
    one_current t.states.items t.newest.items c.in-Some.found.0 p c.in-Some.found.1 from c.args.owner c.requires.table.sound.current c.in-Some.ensures.found has
