use Rattle.std.proofs.Common.{arith}
use Rattle.directory_pages.proofs.Setting.{cell_set}
use Rattle.directory_pages.proofs.cells.set_bucket.Goals as goal

pub returns-clause-cells : goal.returns-clause-cells
returns-clause-cells c = λ part cells s lt. cell_set part c.args.i c.args.bucket c.args.page.now c.set_u32.new.page cells c.set_u32.ensures.written (omega arith) s lt
