use Rattle.std.proofs.Common.{◌≡◌, ◌∙◌, inl, length, ap, sym, arith}
use Rattle.std.proofs.lemmas.List.{with_items_is}
use Rattle.disk_memory.specs.Past.{Failed, with_change, contents_now}
use Rattle.disk_memory.proofs.Changes.{failed_same, failed_dirty, failed_crash, written_over, written_dirty, written_agrees, written_crash, elapses_push}
use Rattle.disk_memory.proofs.CallsAhead.{room_after, room_some, room_less}
use Rattle.disk_memory.proofs.memory.MemoryDisk.write.Goals as goal

pub record_failed_write-requires : goal.record_failed_write-requires
record_failed_write-requires c = record {
  inside = c.requires.inside;
  room = room_some _ _ (c.is_next_chosen.ensures.chosen.0 c.if-is_next_chosen.true) c.args.self.now.room;
}

pub invariant_of-self : goal.invariant_of-self
invariant_of-self c = record {
  kept = c.args.self.now.kept ∙ sym (failed_same _ _ _ _ (ap (λ r. r.past) c.record_failed_write.ensures));
  room = rw c.record_failed_write.ensures (room_less _ _ _ c.is_next_chosen.ensures.counted (c.is_next_chosen.ensures.chosen.0 c.if-is_next_chosen.true) c.args.self.now.room);
}

pub invariant_of-self-in-Ok : goal.invariant_of-self-in-Ok
invariant_of-self-in-Ok c = record {
  kept = with_items_is c.args.self.now.bytes c.overwrite.new.all (omega arith)
      ∙ written_over _ _ _ _ (ap (λ r. r.past) c.in-Ok.ensures.recorded) _ _ (c.deref_mut.ensures.value ∙ c.args.self.now.kept) c.overwrite.ensures;
  room = room_after _ _ _ _ c.is_next_chosen.ensures.counted c.args.self.now.room (omega (arith, ap (λ r. r.room) c.in-Ok.ensures.recorded));
}

pub invariant_of-self-in-Err : goal.invariant_of-self-in-Err
invariant_of-self-in-Err c = record {
  kept = c.args.self.now.kept ∙ sym (ap (λ r. (contents_now r.past).bytes) c.in-Err.ensures.refused);
  room = room_after _ _ _ _ c.is_next_chosen.ensures.counted c.args.self.now.room (omega (arith, ap (λ r. r.room) c.in-Err.ensures.refused));
}

-- what a write that was chosen to fail leaves of what is recorded
recorded : (c : goal.After-refuse_write) → c.refuse_write.new.self.history.past ≡ with_change c.args.self.now.history.past (Failed c.args.at (length c.args.bytes.now))
recorded c = rw c.refuse_write.ensures.counted (ap (λ r. r.past) c.record_failed_write.ensures)

pub returns-then-is_next_chosen-clause-crash : goal.returns-then-is_next_chosen-clause-crash
returns-then-is_next_chosen-clause-crash c = failed_crash _ _ _ _ (recorded c) c.requires.inside

pub returns-then-is_next_chosen-clause-time : goal.returns-then-is_next_chosen-clause-time
returns-then-is_next_chosen-clause-time c = elapses_push _ _ (Failed c.args.at (length c.args.bytes.now)) (recorded c)

pub returns-in-Ok-clause-outside : goal.returns-in-Ok-clause-outside
returns-in-Ok-clause-outside c = written_agrees _ _ _ _ (ap (λ r. r.past) c.in-Ok.ensures.recorded) c.requires.inside

pub returns-in-Ok-clause-crash : goal.returns-in-Ok-clause-crash
returns-in-Ok-clause-crash c = written_crash _ _ _ _ (ap (λ r. r.past) c.in-Ok.ensures.recorded) c.requires.inside

pub returns-in-Ok-clause-time : goal.returns-in-Ok-clause-time
returns-in-Ok-clause-time c = elapses_push _ _ _ (ap (λ r. r.past) c.in-Ok.ensures.recorded)

pub returns-in-Ok-clause-ranges : goal.returns-in-Ok-clause-ranges
returns-in-Ok-clause-ranges c = let dirty = written_dirty _ _ _ _ (ap (λ r. r.past) c.in-Ok.ensures.recorded) in record { written = dirty; torn = λ chosen. dirty; failed = tt }

pub returns-then-is_next_chosen-clause-ranges : goal.returns-then-is_next_chosen-clause-ranges
returns-then-is_next_chosen-clause-ranges c = let dirty = failed_dirty _ _ _ _ (recorded c) in record { written = tt; torn = λ chosen. dirty; failed = inl (c.is_next_chosen.ensures.chosen.0 c.if-is_next_chosen.true) }
