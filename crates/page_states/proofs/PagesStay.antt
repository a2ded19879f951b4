-- How many pages there are.
use Rattle.std.proofs.Common.{◌≡◌, ℕ, List, [], ◌∷◌, None, refl, ◌∙◌, map, length}
use Rattle.std.specs.Prelude.{slice_set}
use Rattle.std.proofs.lemmas.List.{length-set, length-map}
use Rattle.page_states.specs.declared.page_state.PageState.{PageState}
use Rattle.page_states.specs.declared.page_state.PageState.TheVariants.{Claimed, Live}
use Rattle.page_states.specs.Effects.{claim_all, with_end, freed}
use Rattle.page_states.specs.Laws.{PagesStay}

claimed_length : (seat : ℕ) (pages : List ℕ) (states : List PageState) → length (claim_all seat pages states) ≡ length states
claimed_length seat [] states = refl
claimed_length seat (q ∷ pages) states = claimed_length seat pages (slice_set states q (Claimed seat)) ∙ length-set states q (Claimed seat)

pub pages_stay : PagesStay
pages_stay = record {
  publication = λ page at owner states. length-set (map (with_end owner at) states) page (Live owner at None) ∙ length-map states (with_end owner at);
  vanishing = λ at owner states. length-map states (with_end owner at);
  claim = claimed_length;
  freeing = λ test states. length-map states (freed test);
}
