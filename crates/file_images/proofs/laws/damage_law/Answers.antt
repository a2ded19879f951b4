use Rattle.file_images.proofs.Undamaged.{reads-undamaged}
use Rattle.file_images.proofs.laws.damage_law.Goals as goal

pub returns : goal.returns
returns g c = reads-undamaged
