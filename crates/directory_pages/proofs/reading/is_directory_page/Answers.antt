use Rattle.std.proofs.Common.{◌∙◌, sym, arith}
use Rattle.std.proofs.lemmas.Bool.{false≢true}
use Rattle.directory_pages.proofs.Joining.{directory_page-from_parts, head_there, zeros_there}
use Rattle.directory_pages.proofs.reading.is_directory_page.Goals as goal

pub returns-then-has_head : goal.returns-then-has_head
returns-then-has_head c = (
  λ yes. directory_page-from_parts c.args.part c.args.count c.args.page.now (omega arith) c.requires.few c.told-page c.fits-page (c.has_head.ensures.0 c.if-has_head.true) (c.zeros.ensures.0 yes),
  λ p. c.zeros.ensures.1 (zeros_there c.args.part c.args.count c.args.page.now p),
)

pub returns-else-has_head : goal.returns-else-has_head
returns-else-has_head c = (
  λ yes. absurd (false≢true (sym c.if-has_head.false ∙ yes)),
  λ p. c.has_head.ensures.1 (head_there c.args.part c.args.count c.args.page.now p),
)
