use Rattle.std.proofs.Common.{sym, subst}
use Rattle.grid_file.specs.Files.{OpenFile}
use Rattle.grid_file.specs.Keeping.{KeepsReading}
use Rattle.grid_store.proofs.Counting.{reads_same}
use Rattle.grid_store.proofs.stating.count_file.Goals as goal
use Rattle.grid_store.proofs.stating.count_file.Goals.{then-not-stopped, else-not-stopped}

pub returns-clause-reading : goal.returns-clause-reading
returns-clause-reading g c = elim c.if-not-stopped.branch [
  | then-not-stopped w ↦ subst (λ (f : OpenFile g.row.D.Denot). KeepsReading c.args.file.now.books f.books) (sym w.file-is) w.sweep.ensures.reading
  | else-not-stopped w ↦ subst (λ (f : OpenFile g.row.D.Denot). KeepsReading c.args.file.now.books f.books) (sym w.file-is) (reads_same c.args.file.now.books)
]
