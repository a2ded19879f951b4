use Rattle.history_pages.proofs.Contents.{keeps-contents}
use Rattle.history_pages.proofs.HistoryLayouts.{makes-layouts}
use Rattle.history_pages.proofs.laws.content_law.Goals as goal

pub returns : goal.returns
returns g c = record { layouts = makes-layouts; contents = keeps-contents }
