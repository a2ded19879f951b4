use Rattle.file_images.proofs.Staying.{free-pages-say-nothing}
use Rattle.file_images.proofs.laws.free_page_law.Goals as goal

pub returns : goal.returns
returns g c = free-pages-say-nothing
