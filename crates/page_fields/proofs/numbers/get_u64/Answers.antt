use Rattle.std.proofs.Common.{◌∙◌, ap}
use Rattle.page_fields.specs.Fields.{number}
use Rattle.page_fields.proofs.Parts.{rest_of}
use Rattle.page_fields.proofs.numbers.get_u64.Goals as goal

pub returns : goal.returns
unfolding number
returns c = c.read_u64.ensures ∙ ap (number 8) (rest_of c.args.at 4096 c.args.page.now c.told-page)
