use Rattle.grid_model.proofs.Divided.{divides-table}
use Rattle.grid_model.proofs.buckets.bucket_law.Goals as goal

pub returns : goal.returns
returns g c = divides-table
