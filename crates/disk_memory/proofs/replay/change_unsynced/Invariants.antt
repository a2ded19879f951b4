use Rattle.std.proofs.Common.{◌≡◌, ◌-◌, ℕ, List, length}
use Rattle.disk_memory.proofs.Changing.{IsChanging, dirty_after}
use Rattle.disk_memory.proofs.replay.change_unsynced.Given as goal

abbrev pub invariant-loop-back : goal.invariant-loop-back
invariant-loop-back l = record {
  len : length l.image ≡ length l.initial.image;
  changing : (first : List ℕ) → IsChanging (dirty_after first l.events (length l.events)) (dirty_after first l.events (length l.events - l.back)) l.bytes l.synced l.initial.image l.image;
}
