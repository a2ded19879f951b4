use Rattle.grid_check.proofs.Heads.{number_on_head}
use Rattle.grid_check.proofs.buckets.held_of.Goals as goal

pub returns-then-head-number-clause-some : goal.returns-then-head-number-clause-some
returns-then-head-number-clause-some g c =
    let e = c.in-Some.ensures in
    ((λ is. absurd cc), (λ x. absurd (c.if-head-number.true (number_on_head g.row.K c.args.capacity c.args.number c.args.page.now c.in-Some.head c.requires.few c.requires.lawful e.spelled e.head x))))
