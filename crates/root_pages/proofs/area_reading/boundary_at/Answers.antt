use Rattle.std.proofs.Common.{◌∙◌, sym, refl, length}
use Rattle.root_pages.proofs.KindsOfPages.{scale_entries}
use Rattle.root_pages.proofs.area_reading.boundary_at.Goals as goal

pub returns-clause-boundary : goal.returns-clause-boundary
returns-clause-boundary c = λ root index boundaries s lt. c.get_u64.ensures ∙ sym ((scale_entries root index (length boundaries) c.args.page.now boundaries s refl).each c.args.i lt)
