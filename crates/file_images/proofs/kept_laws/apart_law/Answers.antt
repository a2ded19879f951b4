use Rattle.file_images.proofs.Frames.{shows_apart}
use Rattle.file_images.proofs.kept_laws.apart_law.Goals as goal

pub returns : goal.returns
returns g c = λ k q at n x y free low high a was. shows_apart q at n x y low high a k free was
