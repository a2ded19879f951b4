use Rattle.page_states.proofs.SettledPlaces.{start_settles, publication_settles, vanishing_settles, freeing_settles, claim_settles}
use Rattle.page_states.proofs.laws.front_law.Goals as goal

pub returns : goal.returns
returns c = record {
  start = start_settles;
  publication = publication_settles;
  vanishing = vanishing_settles;
  freeing = freeing_settles;
  claim = claim_settles;
}
