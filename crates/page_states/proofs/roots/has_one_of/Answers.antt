use Rattle.std.proofs.Common.{◌≡◌, ◌<◌, ◌&&◌, Some, true, sym, ap, ◌∙◌, arith, length}
use Rattle.std.specs.Prelude.{slice_get, not}
use Rattle.page_states.specs.States.{is_kept}
use Rattle.page_states.specs.Effects.{is_of_roots}
use Rattle.page_states.proofs.Frees.{any_passes, of_roots_yes}
use Rattle.page_states.proofs.roots.has_one_of.Goals as goal

pub returns-then-found-clause-found : goal.returns-then-found-clause-found
returns-then-found-clause-found c = λ e.
    let states = c.args.states.now.items in
    let page = c.number_at-page.result in
    let has : slice_get states page ≡ Some c.in-Some.state = sym c.state_at.ensures ∙ c.in-Some.is in
    let inside : c.loop-at.at < length c.args.list.now.items = omega (arith, c.loop-at-test.true, c.len-at-end.ensures) in
    let old = c.requires c.loop-at.at c.in-Some.state inside (ap (slice_get states) (sym c.number_at-page.ensures) ∙ has) in
    let only : (is_kept c.args.roots.now c.in-Some.state && not (is_kept c.args.pins.now c.in-Some.state)) ≡ true = sym c.is_only_of-found.ensures ∙ c.if-found.true in
    any_passes (is_of_roots c.args.pins.now c.args.roots.now) states page c.in-Some.state has (of_roots_yes c.args.pins.now c.args.roots.now c.in-Some.state old only)
