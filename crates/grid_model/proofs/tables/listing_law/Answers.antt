use Rattle.grid_model.proofs.Listed.{rows-table, rows-are}
use Rattle.grid_model.proofs.tables.listing_law.Goals as goal

pub returns : goal.returns
returns g c = record { ascends = rows-table; matching = rows-are }
