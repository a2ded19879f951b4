use Rattle.std.proofs.Common.{sym}
use Rattle.page_states.specs.Effects.{is_of_roots}
use Rattle.page_states.specs.Tables.{anchored}
use Rattle.page_states.proofs.Frees.{times_at, none_passes, of_roots_is_replaced}
use Rattle.page_states.proofs.Olds.{none_in_both, none_of_both, loose_replaced, first_replaced, second_replaced}
use Rattle.page_states.proofs.roots.has_roots_page.Goals as goal

pub has_one_of-in_loose-requires : goal.has_one_of-in_loose-requires
has_one_of-in_loose-requires c = λ j x low has.
    let t = c.args.table.now in
    loose_replaced (anchored t) t.loose.items t.states.items c.requires.sound.olds _ x (times_at t.loose.items j low) has

pub has_one_of-in_first-requires : goal.has_one_of-in_first-requires
has_one_of-in_first-requires c = λ j x low has.
    let t = c.args.table.now in
    first_replaced t.first.pages.items t.second.pages.items t.loose.items t.states.items c.requires.sound.olds _ x (times_at t.first.pages.items j low) has

pub has_one_of-in_second-requires : goal.has_one_of-in_second-requires
has_one_of-in_second-requires c = λ j x low has.
    let t = c.args.table.now in
    second_replaced t.first.pages.items t.second.pages.items t.loose.items t.states.items c.requires.sound.olds _ x (times_at t.second.pages.items j low) has

pub returns : goal.returns
returns c =
    let t = c.args.table.now in
    let test = is_of_roots c.args.pins.now c.args.roots.now in
    let in_first = c.has_one_of-in_first.ensures.none c.if-in_first.false in
    let in_second = c.has_one_of-in_second.ensures.none c.if-in_second.false in
    let in_anchored = none_in_both test t.states.items t.first.pages.items t.second.pages.items in_first in_second in
    sym (none_passes test t.states.items (none_of_both (anchored t) t.loose.items t.states.items c.requires.sound.olds test (of_roots_is_replaced c.args.pins.now c.args.roots.now)
    in_anchored (c.has_one_of-in_loose.ensures.none c.if-in_loose.false)))
