use Rattle.std.proofs.Common.{ℕ, ◌++◌, ◌∷◌, [], Option, List, Some, refl, sym, ap, subst, ◌∙◌, arith}
use Rattle.std.specs.Prelude.{slice_index, slice_set}
use Rattle.std.proofs.lemmas.List.{get_or_default, length-set}
use Rattle.page_states.specs.Sound.{AreHeld, AreAtSlots}
use Rattle.page_states.proofs.Olds.{olds_held, three_fit}
use Rattle.page_states.proofs.AnchoredPages.{held_more, written_more}
use Rattle.page_states.proofs.Keeping.{sound_olds, sound_same}
use Rattle.page_states.proofs.sweeping.hold_by_first.Goals as goal

pub add-requires : goal.add-requires
add-requires c =
    let t = c.args.table.now in
    record { room = omega (arith, three_fit t.first.pages.items t.second.pages.items t.loose.items t.states.items c.requires.table.sound.olds, c.requires.inside, c.requires.table.first.fit) }

pub returns-then-can-clause-table : goal.returns-then-can-clause-table
returns-then-can-clause-table c =
    let t = c.args.table.now in
    let a = t.first.pages.items in
    let b = t.second.pages.items in
    let by_owner = t.first.by_owner.items in
    let page = c.number_at-page.result in
    let owner = c.in-Some-Live.owner in
    let place = c.in-Some.place in
    let d = slice_index t.loose.items c.args.at in
    let there = get_or_default t.loose.items c.args.at d 0 c.requires.inside ∙ sym c.number_at-page.ensures in
    let olds = olds_held a b t.loose.items t.states.items c.requires.table.sound.olds page c.args.at d c.requires.inside there in
    let kept = sound_olds _ _ _ _ _ _ _ _ _ _ c.requires.table.sound olds in
    let can = c.can_hold-can.ensures c.if-can.true in
    let pages = c.add.ensures.items in
    let held = subst (λ (z : Option ℕ). AreHeld z a t.states.items) c.in-Some.is c.requires.table.first.held in
    let more = subst (λ (z : Option ℕ). AreHeld z (a ++ page ∷ []) t.states.items) (sym c.in-Some.is) (held_more owner place t.states.items by_owner page a can held) in
    let written = written_more owner place t.states.items by_owner page a can held c.requires.table.first.written in
    let at_slot = subst (λ (k : ℕ). AreAtSlots (slice_set by_owner k (Some page)) (a ++ page ∷ []) t.states.items) (sym c.slot_of.ensures) written in
    record {
      sound = sound_same _ _ _ _ _ _ _ _ _ _ _ _ _ _ _ _ kept refl refl refl (ap (λ (l : List ℕ). l ++ b) pages) c.take_out.ensures.items refl refl refl;
      first = record {
        held = subst (λ (l : List ℕ). AreHeld t.first.place l t.states.items) (sym pages) more;
        written = subst (λ (l : List ℕ). AreAtSlots (slice_set by_owner c.slot_of.result (Some page)) l t.states.items) (sym pages) at_slot;
        slots = length-set by_owner c.slot_of.result (Some page) ∙ c.requires.table.first.slots;
        fit = omega (arith, c.requires.table.first.fit, c.add.ensures.capacity);
      };
      second = c.requires.table.second;
      claims_fit = c.requires.table.claims_fit;
      loose_fit = omega (arith, c.requires.table.loose_fit, c.take_out.ensures.capacity);
    }
