use Rattle.std.proofs.Common.{◌∙◌, sym, arith}
use Rattle.root_pages.proofs.Heads.{table_is}
use Rattle.root_pages.proofs.area_writing.encode_table.Goals as goal

pub returns-clause-written : goal.returns-clause-written
returns-clause-written c = c.encode_pages.ensures ∙ sym (table_is c.args.root c.args.index c.args.pages.now)

pub returns-clause-spelled : goal.returns-clause-spelled
returns-clause-spelled c = record { root_in_range = omega arith; index_in_range = omega arith; in_range = λ i. omega (arith, c.type_inv.pages i); few = c.requires; bytes = returns-clause-written c }
