use Rattle.std.proofs.Common.{◌≡◌, ◌∙◌, ap, sym, subst, arith}
use Rattle.std.proofs.lemmas.Bool.{false≢true}
use Rattle.grid_model.specs.Spellings.{LoggedBatch, slot_spelling}
use Rattle.journal_slots.specs.Reading.{AreLawfulBatchFields}
use Rattle.journal_slots.proofs.Standing.{batch_there}
use Rattle.journal_slots.proofs.Alone.{one_batch, batch_read, read_batch_lawful, lawful_fields}
use Rattle.journal_slots.proofs.reading.decode.Goals as goal

pub returns-then-count-gt-MOST_UPDATES-clause-none : goal.returns-then-count-gt-MOST_UPDATES-clause-none
returns-then-count-gt-MOST_UPDATES-clause-none g c = λ b s.
    let there = batch_there g.row.K c.args.page.now b c.requires.few s.lawful s.spelled in
    omega (arith, there.count, s.lawful.few, c.get_u16-count.ensures, c.if-count-gt-MOST_UPDATES.true)

pub returns-then-not-read_updates-clause-none : goal.returns-then-not-read_updates-clause-none
returns-then-not-read_updates-clause-none g c = λ b s.
    let there = batch_there g.row.K c.args.page.now b c.requires.few s.lawful s.spelled in
    c.read_updates.ensures.none c.if-not-read_updates.true b.updates (there.count ∙ sym c.get_u16-count.ensures) there.updates

pub returns-then-is_spelled-clause-found : goal.returns-then-is_spelled-clause-found
returns-then-is_spelled-clause-found g c =
    let ok = c.if-not-read_updates.false in
    let read = batch_read g.row.K c.args.page.now _ _ _ _ c.get_u64.ensures (omega arith) c.get_u64-2.ensures (c.read_updates.ensures.count ok) c.get_u16-count.ensures (c.read_updates.ensures.found ok) in
    record {
      lawful = read_batch_lawful g.row.K c.args.page.now _ read (omega (arith, c.read_updates.ensures.count ok, c.if-count-gt-MOST_UPDATES.false)) (c.is_spelled.ensures.lawful c.if-is_spelled.true);
      spelled = c.is_spelled.ensures.bytes c.if-is_spelled.true;
    }

pub returns-then-is_spelled-clause-only : goal.returns-then-is_spelled-clause-only
returns-then-is_spelled-clause-only g c = λ b s.
    let ok = c.if-not-read_updates.false in
    let read = batch_read g.row.K c.args.page.now _ _ _ _ c.get_u64.ensures (omega arith) c.get_u64-2.ensures (c.read_updates.ensures.count ok) c.get_u16-count.ensures (c.read_updates.ensures.found ok) in
    one_batch g.row.K c.args.page.now _ b read (batch_there g.row.K c.args.page.now b c.requires.few s.lawful s.spelled)

pub returns-else-is_spelled-clause-none : goal.returns-else-is_spelled-clause-none
returns-else-is_spelled-clause-none g c = λ b s.
    let ok = c.if-not-read_updates.false in
    let there = batch_there g.row.K c.args.page.now b c.requires.few s.lawful s.spelled in
    let found : LoggedBatch g.row.K = record { session = c.get_u64.result; first = c.get_u64-2.result; updates = c.read_updates.new.updates.items } in
    let read = batch_read g.row.K c.args.page.now _ _ _ _ c.get_u64.ensures (omega arith) c.get_u64-2.ensures (c.read_updates.ensures.count ok) c.get_u16-count.ensures (c.read_updates.ensures.found ok) in
    let same : b ≡ found = one_batch g.row.K c.args.page.now b found there read in
    let yes = c.is_spelled.ensures.all (subst AreLawfulBatchFields same (lawful_fields b s.lawful)) (s.spelled ∙ ap slot_spelling same) in
    false≢true (sym c.if-is_spelled.false ∙ yes)
