use Rattle.std.proofs.Common.{◌≡◌, ◌<◌, ◌^◌, ◌+◌, ◌-◌, flat_map, length, map}
use Rattle.journal_slots.specs.Batches.{batch_of}
use Rattle.recovery.specs.Joins.{AreLawfulOrEmpty}
use Rattle.recovery.proofs.Taking.{IsTaking, AreFrom}
use Rattle.recovery.proofs.joining.join.Given as goal

abbrev pub invariant-loop-i : goal.invariant-loop-i
invariant-loop-i g l = record {
  small : l.place < 2 ^ 63;
  count : l.place ≡ l.initial.place + length (flat_map (λ b. b.updates) (map batch_of l.taken.items));
  among : AreFrom (map batch_of l.initial.left.items) (map batch_of l.taken.items) (map batch_of l.left.items);
  taking : AreLawfulOrEmpty (map batch_of l.initial.left.items) → IsTaking (map batch_of l.initial.left.items) l.initial.place (map batch_of l.taken.items) (map batch_of l.left.items) l.place;
}

abbrev pub decreases-loop-i : goal.decreases-loop-i
decreases-loop-i g l = 2 ^ 63 - l.place
