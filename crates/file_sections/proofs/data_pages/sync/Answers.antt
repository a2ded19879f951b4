use Rattle.std.proofs.lemmas.Result.{on_ok_weaker}
use Rattle.file_images.proofs.Covering.{settled_meets}
use Rattle.file_sections.proofs.Meeting.{stays_shown, meets_still}
use Rattle.file_sections.proofs.data_pages.sync.Goals as goal

pub returns-clause-moments : goal.returns-clause-moments
returns-clause-moments g c = λ K k was. stays_shown k c.sync_all.ensures.changes was

pub returns-clause-kept : goal.returns-clause-kept
returns-clause-kept g c = λ K k was. meets_still k c.sync_all.ensures.changes was

pub returns-clause-settled : goal.returns-clause-settled
returns-clause-settled g c = λ K k pages was. on_ok_weaker c.sync_all.result (λ synced. settled_meets g.D.Disk k pages c.sync_all.new.disk (meets_still k c.sync_all.ensures.changes was) synced) c.sync_all.ensures.durable
