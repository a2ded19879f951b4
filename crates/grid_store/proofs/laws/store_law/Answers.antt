use Rattle.grid_store.proofs.Law.{store_tells}
use Rattle.grid_store.proofs.laws.store_law.Goals as goal

pub returns : goal.returns
returns g c = store_tells g.D.Disk g.met.D.Disk.seen_now
