use Rattle.file_images.proofs.Standings.{shows_stands}
use Rattle.file_images.proofs.kept_laws.standing_law.Goals as goal

pub returns : goal.returns
returns g c = λ k image m was still leads. shows_stands k image m was still leads
