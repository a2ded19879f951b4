use Rattle.std.proofs.Common.{arith, refl, ap, ◌∙◌, Some, None, ℕ, ◌<◌, ◌*◌}
use Rattle.std.specs.Prelude.{slice_index, slice_set, length}
use Rattle.std.proofs.lemmas.List.{length-set, get_or_default}
use Rattle.grid_types.specs.declared.owner.Owner.{Owner}
use Rattle.grid_types.specs.declared.owner.Owner.TheVariants.{Bucket, Part}
use Rattle.page_states.specs.declared.page_state.PageState.TheVariants.{Claimed, Live}
use Rattle.page_states.specs.States.{slot, number_of}
use Rattle.page_states.specs.Tables.{anchored}
use Rattle.page_states.proofs.Olds.{not_anchored}
use Rattle.page_states.proofs.AnchoredPages.{first_stays, second_stays}
use Rattle.page_states.proofs.Keeping.{begin_keeps, sound_same}
use Rattle.page_states.proofs.publishing.begin_page.Goals as goal

slot_low : (o : Owner) (n : ℕ) → number_of o < n → slot o < 2 * n
slot_low (Bucket a) n h = omega arith
slot_low (Part a) n h = omega arith

pub returns-clause-table : goal.returns-clause-table
returns-clause-table c =
    let t = c.args.table.now in
    let d = slice_index t.claimed.items c.index_of-index.result in
    let there = get_or_default t.claimed.items c.index_of-index.result d 0 c.index_of-index.ensures.inside ∙ c.index_of-index.ensures.there in
    let within : slot c.args.owner < length t.newest.items = omega (arith, slot_low c.args.owner (length t.states.items) c.requires.known, c.requires.table.sound.slots) in
    let kept = begin_keeps t.states.items t.newest.items t.claimed.items (anchored t) t.loose.items t.hints.items t.low t.free c.requires.table.sound c.args.page c.requires.claimed.0 c.args.owner c.args.at c.index_of-index.result d c.requires.claimed.1 c.requires.alone
    c.index_of-index.ensures.inside there within in
    let out = not_anchored (anchored t) t.loose.items t.states.items c.requires.table.sound.olds c.args.page (Claimed c.requires.claimed.0) c.requires.claimed.1 refl in
    let same = length-set t.states.items c.args.page (Live c.args.owner c.args.at None) in
    record {
      sound = sound_same _ _ _ _ _ _ _ _ _ _ _ _ _ _ _ _ kept refl (ap (λ (k : ℕ). slice_set t.newest.items k (Some c.args.page)) c.slot_of.ensures) c.take_out.ensures.items refl refl refl refl refl;
      claims_fit = omega (arith, same, c.requires.table.claims_fit, c.take_out.ensures.capacity);
      first = first_stays t.states.items t.first t.second c.args.page (Live c.args.owner c.args.at None) out c.requires.table.first;
      second = second_stays t.states.items t.first t.second c.args.page (Live c.args.owner c.args.at None) out c.requires.table.second;
      loose_fit = omega (arith, same, c.requires.table.loose_fit);
    }
