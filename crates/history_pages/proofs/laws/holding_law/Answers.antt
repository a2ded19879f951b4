use Rattle.history_pages.proofs.Holding.{stays-held, carries-on}
use Rattle.history_pages.proofs.laws.holding_law.Goals as goal

pub returns : goal.returns
returns g c = record { stays = stays-held; carries = carries-on }
