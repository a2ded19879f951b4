use Rattle.std.proofs.Common.{true, false}
use Rattle.grid_model.specs.Neighbours.{probe}
use Rattle.merge_policy.specs.Sides.{direction_of}
use Rattle.merge_paths.proofs.Partners.{asked-at, partner-beside, probed-key}
use Rattle.merge_paths.proofs.partner.partner_on.Goals as goal

pub returns-then-heads_join-clause-answer : goal.returns-then-heads_join-clause-answer
returns-then-heads_join-clause-answer g c = λ L t key e pin losing.
    let shape = g.Q.Pinned.shape c.args.pinned.now in
    let head = c.args.head.now in
    let found = c.in_ok-found.found in
    let probed = probed-key c.probe.result (probe head.region (direction_of c.args.direction)) c.in-Some.key c.probe.ensures c.in-Some.is in
    let joined = asked-at shape.capacity c.capacity-capacity.result head found c.heads_join.result true c.capacity-capacity.ensures.value c.heads_join.ensures c.if-heads_join.true in
    partner-beside shape L t key e head losing c.args.direction c.in-Some.key.numbers c.find_bucket.new.page found true c.requires.attribute c.numbers-numbers.ensures.key probed (λ f holds. c.in_ok-found.ensures.answer L t f pin holds) joined

pub returns-else-heads_join-clause-answer : goal.returns-else-heads_join-clause-answer
returns-else-heads_join-clause-answer g c = λ L t key e pin losing.
    let shape = g.Q.Pinned.shape c.args.pinned.now in
    let head = c.args.head.now in
    let found = c.in_ok-found.found in
    let probed = probed-key c.probe.result (probe head.region (direction_of c.args.direction)) c.in-Some.key c.probe.ensures c.in-Some.is in
    let joined = asked-at shape.capacity c.capacity-capacity.result head found c.heads_join.result false c.capacity-capacity.ensures.value c.heads_join.ensures c.if-heads_join.false in
    partner-beside shape L t key e head losing c.args.direction c.in-Some.key.numbers c.find_bucket.new.page found false c.requires.attribute c.numbers-numbers.ensures.key probed (λ f holds. c.in_ok-found.ensures.answer L t f pin holds) joined
