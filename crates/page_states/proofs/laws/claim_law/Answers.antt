use Rattle.page_states.proofs.ClaimedPages.{claimed_pages_are_the_seats}
use Rattle.page_states.proofs.laws.claim_law.Goals as goal

pub returns : goal.returns
returns c = claimed_pages_are_the_seats
