use Rattle.std.proofs.Common.{◌∙◌, sym, drop}
use Rattle.root_pages.proofs.RootPlaces.{number_there, on_header}
use Rattle.root_pages.proofs.field_reading.root_number.Goals as goal

pub returns-clause-root : goal.returns-clause-root
returns-clause-root c = λ r e fit. c.get_u64.ensures ∙ sym (number_there 72 c.args.page.now r (drop 128 c.args.page.now) (on_header c.args.page.now r e) fit)
