use Rattle.std.proofs.Common.{[]}
use Rattle.journal_slots.specs.Batches.{batch_of}
use Rattle.journal_slots.proofs.Parts.{head_written}
use Rattle.journal_slots.proofs.writing.put_head.Goals as goal

pub returns : goal.returns
returns g c = record {
  front = head_written (batch_of c.args.batch.now) [] _ _ _ _ _ _ c.len.result c.len.ensures.value c.put_bytes.ensures.front c.set_u16.ensures.front c.put_bytes-2.ensures.front c.set_u64.ensures.front
      c.set_u64-2.ensures.front c.put_zeros.ensures.front;
}
