use Rattle.directory_pages.proofs.Standing.{part_there, one}
use Rattle.directory_pages.proofs.laws.spelling_law.Goals as goal

pub returns : goal.returns
returns c = λ part other page cells more x y. one part other page cells more (part_there part page cells x) (part_there other page more y)
