use Rattle.file_roots.proofs.Whole.{all_spelled}
use Rattle.file_roots.proofs.laws.area_law.Goals as goal

pub returns : goal.returns
returns c = all_spelled
