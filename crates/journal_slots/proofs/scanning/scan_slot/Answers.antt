use Rattle.journal_slots.specs.Batches.{batch_of}
use Rattle.journal_slots.proofs.LawfulBatches.{lawful_more}
use Rattle.journal_slots.proofs.scanning.scan_slot.Goals as goal

pub returns-clause-lawful : goal.returns-clause-lawful
returns-clause-lawful g c =
    lawful_more c.args.session c.push.result c.read_page.new.out c.args.found.now c.push.new.self (batch_of c.in-Some.batch) c.in-Some.ensures.found c.if-batch-session.false c.push.ensures.added c.push.ensures.refused
