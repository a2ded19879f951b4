use Rattle.std.proofs.Common.{◌≤◌, ◌<◌, ℕ, slice_index}
use Rattle.root_pages.proofs.lawful.are_at_most.Given as goal

abbrev pub invariant-loop-a : goal.invariant-loop-a
invariant-loop-a l = (k : ℕ) → k < l.a → slice_index l.numbers k ≤ l.limit
