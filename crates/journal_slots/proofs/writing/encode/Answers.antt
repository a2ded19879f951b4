use Rattle.std.proofs.Common.{◌≡◌, ◌∙◌, ap, sym, length, ◌*◌, ◌+◌, ◌++◌, arith, take, ℕ}
use Rattle.grid_types.specs.declared.sizes.TheConstants.{HEAD_BYTES, UPDATE_BYTES}
use Rattle.std.specs.List.{flat_map}
use Rattle.std.proofs.lemmas.List.{take_all, length-take-le}
use Rattle.page_fields.proofs.Joining.{filled_up}
use Rattle.grid_model.specs.Spellings.{update_bytes, slot_head}
use Rattle.journal_slots.specs.Batches.{batch_of}
use Rattle.journal_slots.proofs.Standing.{page_is}
use Rattle.journal_slots.proofs.writing.encode.Goals as goal

pub returns-clause-written : goal.returns-clause-written
returns-clause-written g c =
    let us = c.args.batch.now.updates.items in
    let front = slot_head (batch_of c.args.batch.now) in
    let end : c.loop-i.i ≡ c.len.result = omega (arith, ap length c.as_slice-noted-items.ensures.value, c.loop-i-test.false, c.loop-i.auto.i-end, c.len.ensures.value) in
    let all : take c.loop-i.i us ≡ us = take_all _ _ (omega (arith, end, c.len.ensures.value)) in
    let long : length front ≡ 96 = sym (ap length c.put_head.ensures.front) ∙ length-take-le 96 c.put_head.new.page (omega (arith, c.put_head.array_long)) in
    let known : take (HEAD_BYTES + UPDATE_BYTES * c.len.result) c.loop-i.page ≡ front ++ flat_map update_bytes us =
    ap (λ (n : ℕ). take (HEAD_BYTES + UPDATE_BYTES * n) c.loop-i.page) (sym end) ∙ c.loop-i.invariant.front ∙ ap (λ xs. front ++ flat_map update_bytes xs) all in
    filled_up 4096 (HEAD_BYTES + UPDATE_BYTES * c.len.result) 96 front (flat_map update_bytes us) c.loop-i.page c.put_zeros.new.page known long (omega (arith, c.loop-i.invariant.long, c.len.ensures.fits)) (omega arith) c.put_zeros.ensures.front c.put_zeros.array_long
    ∙ sym (page_is (batch_of c.args.batch.now))

pub returns-clause-spelled : goal.returns-clause-spelled
returns-clause-spelled g c = λ fits. record { lawful = fits; spelled = returns-clause-written g c }
