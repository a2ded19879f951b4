use Rattle.shadow_directory.proofs.PartLoop.{PartsWritten}
use Rattle.shadow_directory.proofs.writing.write_parts.Given as goal

abbrev pub invariant-loop-part : goal.invariant-loop-part
invariant-loop-part g l = PartsWritten g.P.ChangePages {K = g.row.K} l.dims.intervals l.change l.initial.pages l.pages l.held l.room.old_page l.initial.steps l.steps l.part
