use Rattle.file_roots.proofs.Naming.{one_is_damaged}
use Rattle.file_roots.proofs.laws.damage_law.Goals as goal

pub returns : goal.returns
returns c = one_is_damaged
