use Rattle.std.proofs.Common.{◌≡◌, ◌<◌, ◌+◌, length, ℕ, List, Some, false, refl, sym, ap, subst, ◌∙◌, map}
use Rattle.std.specs.Prelude.{slice_get, slice_index, slice_set}
use Rattle.page_states.specs.declared.page_state.PageState.{PageState}
use Rattle.page_states.specs.declared.page_state.PageState.TheVariants.{Free}
use Rattle.page_states.specs.States.{is_kept}
use Rattle.page_states.specs.Effects.{freed, is_gone, NoneFrom}
use Rattle.page_states.specs.Tables.{anchored}
use Rattle.page_states.proofs.Olds.{loose_replaced}
use Rattle.page_states.proofs.Frees.{times_at, none_out, none_taken, freed_step, gone_yes}
use Rattle.page_states.proofs.sweeping.sweep_at.Goals as goal

pub returns-then-held-clause-above : goal.returns-then-held-clause-above
returns-then-held-clause-above c =
    let t = c.args.table.now in
    let h = c.hold_page-held.new.table in
    let test = is_gone c.args.places.now in
    let taken = none_taken test t.states.items t.loose.items c.args.at (slice_index t.loose.items c.args.at) c.requires.inside c.requires.above in
    subst (λ (xs : List PageState). NoneFrom test xs h.loose.items c.args.at) (sym c.hold_page-held.ensures.states)
    (subst (λ (ps : List ℕ). NoneFrom test t.states.items ps c.args.at) (sym (c.hold_page-held.ensures.held c.if-held.true)) taken)

pub returns-clause-states : goal.returns-clause-states
returns-clause-states c =
    let t = c.args.table.now in
    let h = c.hold_page-held.new.table in
    let places = c.args.places.now in
    let index = slice_index t.loose.items c.args.at in
    let there : slice_get t.states.items index ≡ Some c.in-Some.state = ap (slice_get t.states.items) (sym c.number_at-page.ensures) ∙ sym c.state_at.ensures ∙ c.in-Some.is in
    let old = loose_replaced (anchored t) t.loose.items t.states.items c.requires.table.sound.olds index c.in-Some.state (times_at t.loose.items c.args.at c.requires.inside) there in
    let free : is_kept places c.in-Some.state ≡ false = sym c.is_kept-kept.ensures ∙ c.if-kept.false in
    let loose = c.hold_page-held.ensures.other c.if-held.false in
    let states = c.hold_page-held.ensures.states in
    let here : slice_get h.states.items (slice_index h.loose.items c.args.at) ≡ Some c.in-Some.state =
    ap (λ (xs : List PageState). slice_get xs (slice_index h.loose.items c.args.at)) states ∙ ap (λ (ps : List ℕ). slice_get t.states.items (slice_index ps c.args.at)) loose ∙ there in
    ap (λ (xs : List PageState). map (freed (is_gone places)) xs) c.free_page.ensures.states
    ∙ freed_step (is_gone places) h.states.items (slice_index h.loose.items c.args.at) c.in-Some.state here (gone_yes places c.in-Some.state old free)
    ∙ ap (λ (xs : List PageState). map (freed (is_gone places)) xs) states

pub returns-clause-above : goal.returns-clause-above
returns-clause-above c =
    let t = c.args.table.now in
    let h = c.hold_page-held.new.table in
    let test = is_gone c.args.places.now in
    let index = slice_index h.loose.items c.args.at in
    let loose = c.hold_page-held.ensures.other c.if-held.false in
    let states = c.hold_page-held.ensures.states in
    let inside : c.args.at < length h.loose.items = subst (λ (ps : List ℕ). c.args.at < length ps) (sym loose) c.requires.inside in
    let above = subst (λ (xs : List PageState). NoneFrom test xs h.loose.items (c.args.at + 1)) (sym states) (subst (λ (ps : List ℕ). NoneFrom test t.states.items ps (c.args.at + 1)) (sym loose) c.requires.above) in
    let out = none_out test h.states.items h.loose.items c.args.at index index inside refl above in
    subst (λ (xs : List PageState). NoneFrom test xs c.free_page.new.table.loose.items c.args.at) (sym c.free_page.ensures.states)
    (subst (λ (ps : List ℕ). NoneFrom test (slice_set h.states.items index Free) ps c.args.at) (sym c.free_page.ensures.loose) out)
