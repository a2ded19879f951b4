use Rattle.std.proofs.Common.{◌≡◌, ◌+◌, ◌*◌, ◌<◌, ◌^◌, ℕ, drop, length, slice_index}
use Rattle.page_fields.specs.Fields.{number}
use Rattle.page_fields.proofs.corner.get_corner.Given as goal

abbrev pub invariant-loop-a : goal.invariant-loop-a
invariant-loop-a g l = record {
  len : length l.corner ≡ g.row.K;
  in_range : (k : ℕ) → slice_index l.corner k < 2 ^ 64;
  each : (k : ℕ) → k < l.a → slice_index l.corner k ≡ number 8 (drop (l.at + 8 * k) l.page);
}
