use Rattle.std.proofs.Common.{◌≡◌, ◌∙◌, ◌+◌, ◌-◌, ◌<◌, ◌∷◌, [], get_or, sym, ap, subst, length, arith}
use Rattle.disk_trait.specs.Moments.{AgreesOutside}
use Rattle.disk_memory.specs.Events.{change_of}
use Rattle.disk_memory.specs.Past.{Written, Failed, Synced}
use Rattle.disk_memory.specs.OnDisk.{IsInside}
use Rattle.disk_memory.proofs.Changing.{IsChanging, changing_event, changing_done, dirty_after, dirty_next, dirty_all}
use Rattle.disk_memory.proofs.replay.change_unsynced.Goals.{in-Write, in-FailedWrite}
use Rattle.disk_memory.proofs.replay.change_unsynced.Goals as goal

pub returns-in-Sync-clause-outside : goal.returns-in-Sync-clause-outside
returns-in-Sync-clause-outside c = λ first. subst (λ rs. AgreesOutside rs c.args.image.now c.loop-back.image) (dirty_all first c.args.events.now (length c.args.events.now) (omega arith)) (c.loop-back.invariant.changing first).outside

pub returns-in-Sync-clause-inside : goal.returns-in-Sync-clause-inside
returns-in-Sync-clause-inside c = λ first i h.
    let events = c.args.events.now in
    let n = length events in
    let k = n - 1 - c.loop-back.back in
    let lt : k < n = omega (arith, c.loop-back-test.true) in
    let next : n - c.loop-back.back ≡ k + 1 = omega (arith, c.loop-back-test.true) in
    let none = dirty_next first events k (n - c.loop-back.back) c.index-events-events.result Synced lt next (ap change_of (sym c.index-events-events.is ∙ c.in-Sync.is)) in
    changing_done (dirty_after first events n) (dirty_after first events (n - c.loop-back.back)) c.args.bytes.now c.args.synced.now c.args.image.now c.loop-back.image (c.loop-back.invariant.changing first) none i
    (subst (λ rs. IsInside rs i) (sym (dirty_all first events n (omega arith))) h)

pub loop-back-preserved : goal.loop-back-preserved
loop-back-preserved c =
    let events = c.args.events.now in
    let n = length events in
    let k = n - (c.loop-back.back + 1) in
    let lt : k < n = omega (arith, c.loop-back-test.true) in
    let next : n - c.loop-back.back ≡ k + 1 = omega (arith, c.loop-back-test.true) in
    let at : n - 1 - c.loop-back.back ≡ k = omega arith in
    let there = sym (c.index-events-events.is ∙ ap (λ j. get_or events j c.index-events-events.result) at) in
    elim c.match-events-back.branch [
      | in-Write w ↦
          let size : w.len.result ≡ length w.in-Write.written.items = omega (arith, w.len.ensures) in
          record {
            len = ap length w.image-is ∙ w.change.ensures.length ∙ c.loop-back.invariant.len;
            changing = λ first.
                let left = dirty_next first events k (n - c.loop-back.back) c.index-events-events.result (Written w.in-Write.at w.in-Write.written.items) lt next (ap change_of (there ∙ w.in-Write.is)) ∙ ap (λ m. (w.in-Write.at, m) ∷ dirty_after first events k) (sym size) in
                subst (IsChanging (dirty_after first events n) (dirty_after first events k) c.args.bytes.now c.args.synced.now c.args.image.now) (sym w.image-is) (changing_event first events k (dirty_after first events n) (dirty_after first events (n - c.loop-back.back)) w.in-Write.at w.len.result c.args.bytes.now c.args.synced.now c.args.image.now c.loop-back.image w.change.new.image left (c.loop-back.invariant.changing first) w.change.ensures.length w.change.ensures.inside w.change.ensures.outside);
          }
      | in-FailedWrite w ↦
          record {
            len = ap length w.image-is ∙ w.change-in-FailedWrite.ensures.length ∙ c.loop-back.invariant.len;
            changing = λ first.
                let left = dirty_next first events k (n - c.loop-back.back) c.index-events-events.result (Failed w.in-FailedWrite.at w.in-FailedWrite.size) lt next (ap change_of (there ∙ w.in-FailedWrite.is)) in
                subst (IsChanging (dirty_after first events n) (dirty_after first events k) c.args.bytes.now c.args.synced.now c.args.image.now) (sym w.image-is) (changing_event first events k (dirty_after first events n) (dirty_after first events (n - c.loop-back.back)) w.in-FailedWrite.at w.in-FailedWrite.size c.args.bytes.now c.args.synced.now c.args.image.now c.loop-back.image w.change-in-FailedWrite.new.image left (c.loop-back.invariant.changing first) w.change-in-FailedWrite.ensures.length w.change-in-FailedWrite.ensures.inside w.change-in-FailedWrite.ensures.outside);
          }
    ]

pub returns-clause-outside : goal.returns-clause-outside
returns-clause-outside c = λ first. subst (λ rs. AgreesOutside rs c.args.image.now c.loop-back.image) (dirty_all first c.args.events.now (length c.args.events.now) (omega arith)) (c.loop-back.invariant.changing first).outside

pub returns-clause-inside : goal.returns-clause-inside
returns-clause-inside c = λ first i h.
    let events = c.args.events.now in
    let n = length events in
    let end : n - c.loop-back.back ≡ 0 = omega (arith, c.loop-back-test.false) in
    let none : dirty_after first events (n - c.loop-back.back) ≡ [] = ap (dirty_after first events) end in
    changing_done (dirty_after first events n) (dirty_after first events (n - c.loop-back.back)) c.args.bytes.now c.args.synced.now c.args.image.now c.loop-back.image (c.loop-back.invariant.changing first) none i
    (subst (λ rs. IsInside rs i) (sym (dirty_all first events n (omega arith))) h)
