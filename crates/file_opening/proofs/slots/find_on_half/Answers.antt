use Rattle.std.proofs.Common.{ℕ, List, sym, subst, ◌∙◌, below_more, true≢false, arith}
use Rattle.grid_types.specs.Pages.{page_of}
use Rattle.disk_trait.proofs.Calls.{reads_then}
use Rattle.file_opening.specs.Slots.{SpellsBatchAt}
use Rattle.file_opening.proofs.slots.find_on_half.Goals as goal

pub loop-slot-preserved : goal.loop-slot-preserved
loop-slot-preserved g c =
    let was = c.loop-slot.invariant in
    let now = c.in_ok-read_page-2.ensures in
    record {
      same = reads_then was.same now.same;
      steps = omega (arith, was.steps, now.ticks);
      none = λ h. below_more _ _ (was.none h) (λ opened spells.
          true≢false (sym (c.spells_at.ensures.none (subst (λ (bytes : List ℕ). SpellsBatchAt g.row.K bytes c.args.session c.args.first)
          (sym (now.bytes (was.same.honest ∙ h) ∙ (λ i. page_of (c.slot_page-at.ensures.value i) (was.same.seen h i)))) spells)) ∙ c.if-spells_at.false));
    }
