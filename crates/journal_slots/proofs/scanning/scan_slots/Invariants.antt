use Rattle.std.proofs.Common.{◌≡◌, ◌<◌, ◌+◌, ℕ, length, slice_index}
use Rattle.std.specs.Prelude.{IsTrue}
use Rattle.grid_types.specs.Halves.{half_number}
use Rattle.grid_types.specs.Pages.{page_of}
use Rattle.grid_types.specs.Shapes.{slot_page}
use Rattle.disk_trait.specs.Calls.{OnlyReads}
use Rattle.journal_slots.specs.Scans.{AreBatchesOn, SpellsSome, AreLawfulOf}
use Rattle.journal_slots.proofs.OpenSlots.{open_below}
use Rattle.journal_slots.proofs.scanning.scan_slots.Given as goal

abbrev pub invariant-loop-slot : goal.invariant-loop-slot
invariant-loop-slot g l = record {
  same : OnlyReads g.D.Disk l.initial.disk l.disk;
  steps : l.steps ≡ l.initial.steps + length (open_below l.gates (half_number l.half) l.slot);
  found : IsTrue (g.D.Disk.honest l.initial.disk) → AreBatchesOn l.geometry.shape (g.D.Disk.seen l.initial.disk) (open_below l.gates (half_number l.half) l.slot) l.session l.found;
  before : IsTrue (g.D.Disk.honest l.initial.disk) → (i : ℕ) → i < l.slot → slice_index l.gates i ≡ 1 → SpellsSome g.row.K (page_of (slot_page l.geometry.shape (half_number l.half) i) (g.D.Disk.seen l.initial.disk));
  lawful : AreLawfulOf l.session l.initial.found → AreLawfulOf l.session l.found;
}
