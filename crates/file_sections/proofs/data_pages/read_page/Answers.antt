use Rattle.disk_trait.proofs.Calls.{changes_read}
use Rattle.file_sections.proofs.Meeting.{stays_shown, meets_still}
use Rattle.file_sections.proofs.data_pages.read_page.Goals as goal

pub returns-clause-moments : goal.returns-clause-moments
returns-clause-moments g c = λ K k was. stays_shown k (changes_read c.read_page.ensures.same) was

pub returns-clause-kept : goal.returns-clause-kept
returns-clause-kept g c = λ K k was. meets_still k (changes_read c.read_page.ensures.same) was
