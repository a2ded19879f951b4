use Rattle.std.proofs.Common.{◌≡◌, ◌≤◌, ◌<◌, ◌⊎◌, ℕ, length, slice_index}
use Rattle.disk_memory.specs.OnDisk.{IsOther}
use Rattle.disk_memory.proofs.replay.change.Given as goal

abbrev pub invariant-loop-i : goal.invariant-loop-i
invariant-loop-i l = record {
  len : length l.image ≡ length l.initial.image;
  inside : (k : ℕ) → l.at ≤ k → k < l.i → IsOther l.bytes l.synced l.image k;
  outside : (k : ℕ) → (k < l.at) ⊎ (l.i ≤ k) → slice_index l.image k ≡ slice_index l.initial.image k;
}
