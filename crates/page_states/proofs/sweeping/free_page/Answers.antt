use Rattle.std.proofs.Common.{ℕ, List, ◌≤◌, ◌<◌, ◌/◌, Some, refl, sym, ap, subst, ◌∙◌, arith, length}
use Rattle.page_states.specs.declared.page_state.PageState.{PageState}
use Rattle.page_states.specs.Counts.{times}
use Rattle.std.specs.Prelude.{slice_get, slice_index, min}
use Rattle.std.proofs.lemmas.List.{length-set, get_or_default}
use Rattle.page_states.specs.declared.page_state.PageState.TheVariants.{Free, Live}
use Rattle.page_states.proofs.Olds.{loose_replaced, loose_not_anchored}
use Rattle.page_states.proofs.Frees.{times_at, replaced_is}
use Rattle.page_states.specs.Tables.{anchored, IsAnchor}
use Rattle.page_states.proofs.AnchoredPages.{first_stays, second_stays}
use Rattle.page_states.proofs.Keeping.{sweep_keeps, sound_same}
use Rattle.page_states.proofs.sweeping.free_page.Goals as goal

pub returns-clause-table : goal.returns-clause-table
returns-clause-table c =
    let t = c.args.table.now in
    let page = c.number_at-page.result in
    let state = c.requires.there.0 in
    let index = slice_index t.loose.items c.args.at in
    let is = loose_replaced (anchored t) t.loose.items t.states.items c.requires.table.sound.olds index state (times_at t.loose.items c.args.at c.requires.inside) c.requires.there.1 in
    let old = replaced_is state is in
    let live = ap (slice_get t.states.items) c.number_at-page.ensures ∙ c.requires.there.1 ∙ ap Some old.3 in
    let v = min (slice_index t.hints.items (page / 256)) page in
    let w = min t.low (page / 256) in
    let there = get_or_default t.loose.items c.args.at index 0 c.requires.inside ∙ sym c.number_at-page.ensures in
    let under : v ≤ page = omega arith in
    let lower : v ≤ slice_index t.hints.items (page / 256) = omega arith in
    let first : w ≤ t.low = omega arith in
    let here : w ≤ page / 256 = omega arith in
    let kept = sweep_keeps t.states.items t.newest.items t.claimed.items (anchored t) t.loose.items t.hints.items t.low t.free c.requires.table.sound page old.0 old.1 old.2 v w c.args.at index live c.requires.inside there under lower first here in
    let loose = subst (λ (k : ℕ). 0 < times k t.loose.items) (sym c.number_at-page.ensures) (times_at t.loose.items c.args.at c.requires.inside) in
    let out = loose_not_anchored (anchored t) t.loose.items t.states.items c.requires.table.sound.olds page (Live old.0 old.1 (Some old.2)) loose live in
    let same = ap length c.make_free.ensures.states ∙ length-set t.states.items page Free in
    record {
      sound = sound_same _ _ _ _ _ _ _ _ _ _ _ _ _ _ _ _ kept c.make_free.ensures.states refl refl refl c.take_out.ensures.items c.make_free.ensures.hints c.make_free.ensures.low refl;
      claims_fit = omega (arith, same, c.requires.table.claims_fit);
      first = subst (λ (xs : List PageState). IsAnchor xs t.first) (sym c.make_free.ensures.states) (first_stays t.states.items t.first t.second page Free out c.requires.table.first);
      second = subst (λ (xs : List PageState). IsAnchor xs t.second) (sym c.make_free.ensures.states) (second_stays t.states.items t.first t.second page Free out c.requires.table.second);
      loose_fit = omega (arith, same, c.requires.table.loose_fit, c.take_out.ensures.capacity);
    }
