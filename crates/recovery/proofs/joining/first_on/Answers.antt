use Rattle.std.proofs.Common.{◌≡◌, map, get_or, below_more, sym, subst, ap, ◌∙◌, arith, true≢false}
use Rattle.std.proofs.lemmas.List.{get_or-map}
use Rattle.journal_slots.specs.Batches.{batch_of}
use Rattle.recovery.specs.Joins.{empty_batch, LeadsOn}
use Rattle.recovery.proofs.joining.first_on.Goals as goal

pub loop-i-preserved : goal.loop-i-preserved
loop-i-preserved g c =
    let batches = c.args.batches.now in
    let item = c.index-batches-i.result in
    let at : get_or (map batch_of batches) c.loop-i.i empty_batch ≡ batch_of item = get_or-map batch_of batches c.loop-i.i item empty_batch (omega (arith, c.loop-i-test.true)) ∙ ap batch_of (sym c.index-batches-i.is) in
    below_more _ _ c.loop-i.invariant (λ leads. true≢false (sym (c.leads_on.ensures.1 (subst (LeadsOn c.args.place) at leads)) ∙ c.if-leads_on.false))
