use Rattle.std.proofs.Common.{◌≡◌, ◌≤◌, ◌+◌, length}
use Rattle.grid_model.specs.Script.{asked, meanings}
use Rattle.grid_script.specs.Reading.{so_far}
use Rattle.grid_script.specs.Taken.{AreTaken}
use Rattle.grid_script.proofs.Taking.{Follows}
use Rattle.grid_script.proofs.reader.read_lines.Given as goal

abbrev pub decreases-loop-rest : goal.decreases-loop-rest
decreases-loop-rest g l = length l.rest

abbrev pub invariant-loop-rest : goal.invariant-loop-rest
invariant-loop-rest g l = record {
  some : 1 ≤ l.reading.number;
  room : l.reading.number + length l.rest ≤ length l.bytes + 1;
  so_far : asked 1 1 (meanings g.row.K l.bytes) ≡ so_far l.reading.list.items (asked l.reading.number l.reading.client (meanings g.row.K l.rest));
  taken : AreTaken l.reading.list.items;
  follows : Follows {K = g.row.K} (meanings g.row.K l.bytes) l.reading.client (meanings g.row.K l.rest) l.reading.number;
}
