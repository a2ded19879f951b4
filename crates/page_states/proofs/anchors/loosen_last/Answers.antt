use Rattle.std.proofs.Common.{◌<◌, ◌-◌, ◌++◌, List, ℕ, refl, sym, ap, subst, ◌∙◌, arith, length}
use Rattle.std.specs.Prelude.{slice_index}
use Rattle.std.proofs.lemmas.List.{get_or_default}
use Rattle.page_states.specs.Sound.{AreHeld, AreAtSlots}
use Rattle.page_states.proofs.Olds.{olds_loosened, three_fit}
use Rattle.page_states.proofs.AnchoredPages.{held_less, written_less}
use Rattle.page_states.proofs.Keeping.{sound_olds, sound_same}
use Rattle.page_states.proofs.anchors.loosen_last.Goals as goal

pub add-requires : goal.add-requires
add-requires c =
    let t = c.args.table.now in
    record { room = omega (arith, three_fit t.first.pages.items t.second.pages.items t.loose.items t.states.items c.requires.table.sound.olds, c.requires.some, c.requires.table.loose_fit) }

pub returns-clause-table : goal.returns-clause-table
returns-clause-table c =
    let t = c.args.table.now in
    let a = t.first.pages.items in
    let b = t.second.pages.items in
    let page = c.number_at-page.result in
    let at = c.len-at.result - 1 in
    let d = slice_index a at in
    let inside : at < length a = omega (arith, c.requires.some, c.len-at.ensures) in
    let there = get_or_default a at d 0 inside ∙ sym c.number_at-page.ensures in
    let olds = olds_loosened a b t.loose.items t.states.items c.requires.table.sound.olds page at d inside there in
    let kept = sound_olds _ _ _ _ _ _ _ _ _ _ c.requires.table.sound olds in
    let pages = c.take_out.ensures.items in
    record {
      sound = sound_same _ _ _ _ _ _ _ _ _ _ _ _ _ _ _ _ kept refl refl refl (ap (λ (l : List ℕ). l ++ b) pages) c.add.ensures.items refl refl refl;
      first = record {
        held = subst (λ (l : List ℕ). AreHeld t.first.place l t.states.items) (sym pages) (held_less t.first.place a t.states.items at d inside c.requires.table.first.held);
        written = subst (λ (l : List ℕ). AreAtSlots t.first.by_owner.items l t.states.items) (sym pages) (written_less t.first.by_owner.items a t.states.items at d inside c.requires.table.first.written);
        slots = c.requires.table.first.slots;
        fit = omega (arith, c.requires.table.first.fit, c.take_out.ensures.capacity);
      };
      second = c.requires.table.second;
      claims_fit = c.requires.table.claims_fit;
      loose_fit = omega (arith, c.requires.table.loose_fit, c.add.ensures.capacity);
    }
