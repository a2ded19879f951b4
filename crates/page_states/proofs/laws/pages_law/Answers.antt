use Rattle.page_states.proofs.PagesStay.{pages_stay}
use Rattle.page_states.proofs.laws.pages_law.Goals as goal

pub returns : goal.returns
returns c = pages_stay
