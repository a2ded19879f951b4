use Rattle.std.proofs.Common.{◌≡◌, map, set, ap, ◌∙◌}
use Rattle.std.proofs.lemmas.List.{map-set}
use Rattle.journal_slots.specs.Batches.{batch_of}
use Rattle.recovery.specs.Joins.{empty_batch}
use Rattle.recovery.proofs.joining.take_out.Goals as goal

pub returns-clause-left : goal.returns-clause-left
returns-clause-left g c =
    let items = c.args.batches.now.items in
    let empty : batch_of c.replace.new.dest ≡ empty_batch = ap batch_of c.replace.ensures.after ∙ (λ j. record { session = 0; first = 0; updates = c.new.ensures j }) in
    map-set batch_of items c.args.i c.replace.new.dest ∙ ap (set (map batch_of items) c.args.i) empty
