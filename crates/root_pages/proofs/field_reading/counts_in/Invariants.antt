use Rattle.std.proofs.Common.{◌≡◌, ◌+◌, ◌*◌, ◌<◌, ℕ, drop, length, get_or}
use Rattle.page_fields.specs.Fields.{number}
use Rattle.root_pages.proofs.field_reading.counts_in.Given as goal

abbrev pub invariant-loop-a : goal.invariant-loop-a
invariant-loop-a l = record {
  len : length l.counts.items ≡ l.a;
  each : (k d : ℕ) → k < length l.counts.items → get_or l.counts.items k d ≡ number 4 (drop (104 + 4 * k) l.page);
}
