use Rattle.std.proofs.Common.{◌≡◌, ◌++◌, ◌+◌, ◌*◌, length, take}
use Rattle.grid_types.specs.declared.sizes.TheConstants.{HEAD_BYTES, UPDATE_BYTES}
use Rattle.std.specs.List.{flat_map}
use Rattle.grid_model.specs.Spellings.{update_bytes, slot_head}
use Rattle.journal_slots.specs.Batches.{batch_of}
use Rattle.journal_slots.proofs.writing.encode.Given as goal

abbrev pub invariant-loop-i : goal.invariant-loop-i
invariant-loop-i g l = record { long : length l.page ≡ 4096; front : take (HEAD_BYTES + UPDATE_BYTES * l.i) l.page ≡ slot_head (batch_of l.batch) ++ flat_map update_bytes (take l.i l.batch.updates.items) }
