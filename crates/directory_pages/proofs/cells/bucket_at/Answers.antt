use Rattle.std.proofs.Common.{◌∙◌, sym}
use Rattle.directory_pages.proofs.Standing.{part_there}
use Rattle.directory_pages.proofs.cells.bucket_at.Goals as goal

pub returns-clause-cell : goal.returns-clause-cell
returns-clause-cell c = λ part cells s lt. c.get_u32.ensures ∙ sym ((part_there part c.args.page.now cells s).each c.args.i lt)
