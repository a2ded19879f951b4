use Rattle.std.proofs.Common.{◌∙◌, sym, refl, length}
use Rattle.root_pages.proofs.KindsOfPages.{list_entries, table_entries}
use Rattle.root_pages.proofs.area_reading.entry_at.Goals as goal

pub returns-clause-list : goal.returns-clause-list
returns-clause-list c = λ root index pages s lt. c.get_u32.ensures ∙ sym ((list_entries root index (length pages) c.args.page.now pages s refl).each c.args.i lt)

pub returns-clause-table : goal.returns-clause-table
returns-clause-table c = λ root index pages s lt. c.get_u32.ensures ∙ sym ((table_entries root index (length pages) c.args.page.now pages s refl).each c.args.i lt)
