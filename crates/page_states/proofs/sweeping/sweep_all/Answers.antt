use Rattle.std.proofs.Common.{arith, sym, ◌∙◌, subst, ℕ, ◌≡◌}
use Rattle.page_states.specs.Effects.{is_gone, NoneFrom}
use Rattle.page_states.specs.Tables.{anchored}
use Rattle.page_states.proofs.Frees.{freed_none, gone_is_replaced}
use Rattle.page_states.proofs.Olds.{none_in_both, none_of_both}
use Rattle.page_states.proofs.AnchoredPages.{held_stay}
use Rattle.page_states.proofs.sweeping.sweep_all.Goals as goal

pub returns-clause-states : goal.returns-clause-states
returns-clause-states c =
    let t = c.loop-at.table in
    let test = is_gone c.args.places.now in
    let end : c.loop-at.at ≡ 0 = omega arith in
    let in_loose = subst (λ (k : ℕ). NoneFrom test t.states.items t.loose.items k) end c.loop-at.invariant.above in
    let in_first = held_stay c.args.places.now t.first.place t.first.pages.items t.states.items c.loop-at.invariant.among.first c.loop-at.invariant.table.first.held in
    let in_second = held_stay c.args.places.now t.second.place t.second.pages.items t.states.items c.loop-at.invariant.among.second c.loop-at.invariant.table.second.held in
    let in_anchored = none_in_both test t.states.items t.first.pages.items t.second.pages.items in_first in_second in
    let none = none_of_both (anchored t) t.loose.items t.states.items c.loop-at.invariant.table.sound.olds test (gone_is_replaced c.args.places.now) in_anchored in_loose in
    sym (freed_none test t.states.items none) ∙ c.loop-at.invariant.states
