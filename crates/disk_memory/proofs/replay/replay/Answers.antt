use Rattle.std.proofs.Common.{◌∙◌, sym, ap, refl}
use Rattle.disk_memory.specs.Events.{change_of}
use Rattle.disk_memory.specs.Past.{Written, Failed, Synced}
use Rattle.disk_memory.proofs.Walks.{replay_write, replay_other}
use Rattle.disk_memory.proofs.replay.replay.Goals.{in-Write, in-FailedWrite, in-Sync}
use Rattle.disk_memory.proofs.replay.replay.Goals as goal

pub loop-event-preserved : goal.loop-event-preserved
loop-event-preserved c =
    let first = c.args.all.now in
    let events = c.args.events.now in
    let k = c.loop-event.event-index in
    let d = c.event-item.result in
    let item = sym c.event-item.is in
    elim c.match-event.branch [
      | in-Write w ↦ w.all-is ∙ replay_write first events k d w.in-Write.at w.deref.result.now c.loop-event.all w.overwrite.new.all c.loop-event-test.true (ap change_of (item ∙ w.in-Write.is) ∙ ap (Written w.in-Write.at) (sym w.deref.ensures.value)) c.loop-event.invariant w.overwrite.ensures
      | in-FailedWrite w ↦ w.all-is ∙ replay_other first events k d (Failed w.in-FailedWrite.at w.in-FailedWrite.size) c.loop-event.all (λ h. refl) c.loop-event-test.true (ap change_of (item ∙ w.in-FailedWrite.is)) c.loop-event.invariant
      | in-Sync w ↦ w.all-is ∙ replay_other first events k d Synced c.loop-event.all (λ h. refl) c.loop-event-test.true (ap change_of (item ∙ w.in-Sync.is)) c.loop-event.invariant
    ]
