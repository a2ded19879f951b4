use Rattle.file_images.proofs.Standing.{stands-once}
use Rattle.file_images.proofs.laws.image_law.Goals as goal

pub returns : goal.returns
returns g c = stands-once
