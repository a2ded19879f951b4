use Rattle.file_roots.proofs.Exchange.{next_may_be_written, old_or_tried_is_newest, kept_is_older}
use Rattle.file_roots.proofs.Unique.{newest_is_among}
use Rattle.file_roots.proofs.laws.replacing_law.Goals as goal

pub returns : goal.returns
returns c = record { next = next_may_be_written; shown = old_or_tried_is_newest; older = kept_is_older; newest = newest_is_among }
