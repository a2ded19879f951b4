use Rattle.std.proofs.Common.{rules, option_map, sym, ap, ◌∙◌, subst, arith}
use Rattle.grid_model.specs.Neighbours.{directions}
use Rattle.merge_policy.specs.Sides.{direction_of}
use Rattle.merge_policy.proofs.Sides.{past-all}
use Rattle.query_paths.specs.Pinned.{Place, IsPinnedTo}
use Rattle.merge_paths.specs.Partners.{IsLosing, IsPartnerOn}
use Rattle.merge_paths.proofs.Sides.{contains-at}
use Rattle.merge_paths.proofs.Partners.{none-there, first-there, none-so-far}
use Rattle.merge_paths.proofs.partner.find_partner.Goals as goal

pub returns-in_default-clause-answer : goal.returns-in_default-clause-answer
returns-in_default-clause-answer g c = λ L t key e pin losing.
    none-there {K = g.row.K} (g.Q.Pinned.shape c.args.pinned.now) L t key e c.args.head.now losing c.loop-i.i c.loop-i.beside (sym c.at.ensures.value ∙ ap (option_map direction_of) c.in_default.is) (c.loop-i.invariant.none L t key e pin losing)

pub partner_on-requires : goal.partner_on-requires
partner_on-requires g c = (search rules, (search rules, (search rules, contains-at (directions g.row.K) c.loop-i.i (direction_of c.in-Some.direction) (sym c.at.ensures.value ∙ ap (option_map direction_of) c.in-Some.is))))

pub returns-then-is_some-clause-answer : goal.returns-then-is_some-clause-answer
returns-then-is_some-clause-answer g c = λ L t key e pin losing.
    let shape = g.Q.Pinned.shape c.args.pinned.now in
    let head = c.args.head.now in
    let side = direction_of c.in-Some.direction in
    let here = subst (λ (p : Place). IsPinnedTo p L t → IsLosing p.shape L t key e head → IsPartnerOn p.shape L t key e side c.partner_on.new.beside c.in_ok-found.found) c.loop-i.invariant.same.same_place (c.in_ok-found.ensures.answer L t key e) pin losing in
    first-there shape L t key e head losing c.loop-i.i side c.partner_on.new.beside c.in_ok-found.found (sym c.at.ensures.value ∙ ap (option_map direction_of) c.in-Some.is) (c.loop-i.invariant.none L t key e pin losing) here (sym c.is_some.ensures ∙ c.if-is_some.true)

pub loop-i-preserved : goal.loop-i-preserved
loop-i-preserved g c =
    let was = c.loop-i.invariant in
    let read = c.in_ok-found.ensures in
    let shape = g.Q.Pinned.shape c.args.pinned.now in
    let head = c.args.head.now in
    let side = direction_of c.in-Some.direction in
    record {
      same = record { same_place = read.same.same_place ∙ was.same.same_place; same_rest = g.met.Q.Pinned.stays_on c.args.pinned.now c.loop-i.pinned c.partner_on.new.pinned was.same.same_rest read.same.same_rest };
      later = omega (arith, was.later, read.cause.later);
      least = omega (arith, was.least, read.least);
      most = omega (arith, was.most, read.most);
      none = λ L t key e pin losing.
          let here = subst (λ (p : Place). IsPinnedTo p L t → IsLosing p.shape L t key e head → IsPartnerOn p.shape L t key e side c.partner_on.new.beside c.in_ok-found.found) was.same.same_place (read.answer L t key e) pin losing in
          none-so-far shape L t key e head losing c.loop-i.i side c.partner_on.new.beside c.in_ok-found.found (sym c.at.ensures.value ∙ ap (option_map direction_of) c.in-Some.is) (was.none L t key e pin losing) here (sym c.is_some.ensures ∙ c.if-is_some.false);
    }

pub returns-clause-answer : goal.returns-clause-answer
returns-clause-answer g c = λ L t key e pin losing.
    none-there {K = g.row.K} (g.Q.Pinned.shape c.args.pinned.now) L t key e c.args.head.now losing c.loop-i.i c.loop-i.beside (sym (past-all g.row.K c.loop-i.i (omega (arith, c.loop-i-test.false)))) (c.loop-i.invariant.none L t key e pin losing)
