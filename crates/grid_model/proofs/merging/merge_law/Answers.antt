use Rattle.grid_model.proofs.Hulls.{hull-contains}
use Rattle.grid_model.proofs.Merged.{lawful-merge}
use Rattle.grid_model.proofs.merging.merge_law.Goals as goal

pub returns : goal.returns
returns g c = record {
  hull = record { hull = hull-contains };
  merge = record { merge = lawful-merge };
}
