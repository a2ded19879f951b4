use Rattle.std.proofs.Common.{◌≡◌, ◌∙◌, ◌+◌, ◌-◌, ◌<◌, sym, ap, get_or, length, arith}
use Rattle.disk_memory.specs.Events.{change_of}
use Rattle.disk_memory.specs.OnDisk.{is_sync}
use Rattle.disk_memory.proofs.Syncs.{sync_found, sync_before, not_sync}
use Rattle.disk_memory.proofs.replay.synced_count.Goals as goal

pub returns-in-Sync-clause-synced : goal.returns-in-Sync-clause-synced
returns-in-Sync-clause-synced c =
    let n = length c.args.events.now in
    let k = n - 1 - c.loop-back.back in
    let lt : k < n = omega (arith, c.loop-back-test.true) in
    let next : n - c.loop-back.back ≡ k + 1 = omega (arith, c.loop-back-test.true) in
    sym (sync_found c.args.events.now k (n - c.loop-back.back) c.index-events-events.result lt next (ap change_of (sym c.index-events-events.is ∙ c.in-Sync.is))) ∙ c.loop-back.invariant

pub loop-back-preserved : goal.loop-back-preserved
loop-back-preserved c =
    let n = length c.args.events.now in
    let k = n - (c.loop-back.back + 1) in
    let lt : k < n = omega (arith, c.loop-back-test.true) in
    let next : n - c.loop-back.back ≡ k + 1 = omega (arith, c.loop-back-test.true) in
    let at : n - 1 - c.loop-back.back ≡ k = omega arith in
    let other = not_sync c.index-events-events.result c.in_default.not-Sync in
    let there = c.index-events-events.is ∙ ap (λ j. get_or c.args.events.now j c.index-events-events.result) at in
    sync_before c.args.events.now k (n - c.loop-back.back) c.index-events-events.result lt next (ap (λ e. is_sync (change_of e)) (sym there) ∙ other) ∙ c.loop-back.invariant
