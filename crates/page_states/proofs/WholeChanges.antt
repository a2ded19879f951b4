-- A whole change, one publication and one owner after the other.
use Rattle.std.proofs.Common.{ℕ, suc, ◌<◌, ◌≤◌, List, [], ◌∷◌, Option, Some, None, ◌∙◌, map, arith}
use Rattle.std.specs.Prelude.{◌≢◌, slice_index}
use Rattle.grid_types.specs.declared.owner.Owner.{Owner}
use Rattle.page_states.specs.declared.page_state.PageState.{PageState}
use Rattle.page_states.specs.declared.page_state.PageState.TheVariants.{Live}
use Rattle.page_states.specs.Effects.{with_end, with_newest, vanished}
use Rattle.page_states.specs.Laws.{Serves, Settled, Keeps, with_content}
use Rattle.page_states.specs.Changes.{Publication, pages_of, all_published, all_vanished, with_pages, without_owners, ArePublishable, ChangeKeeps, ChangeServes, ChangeSettles}
use Rattle.page_states.proofs.Lists.{get_set_other}
use Rattle.page_states.proofs.KeptPlaces.{claimed_still, publication_keeps, vanishing_keeps}
use Rattle.page_states.proofs.SettledPlaces.{publication_settles, vanishing_settles}
use Rattle.page_states.proofs.ServedPlaces.{front_serves, publication_serves}
use Rattle.page_states.proofs.VanishedPlaces.{vanishing_serves}

-- the pages that are left can be published still
others : (page at : ℕ) (owner : Owner) (pages : List ℕ) (states : List PageState) → ArePublishable (page ∷ pages) states → ArePublishable pages (with_newest page owner at states)
others page at owner pages states ok = record {
  claimed = λ i low.
      let apart : slice_index pages i ≢ page = ok.distinct 0 (suc i) (omega arith) (omega (arith, low)) in
      let was = ok.claimed (suc i) (omega (arith, low)) in
      (was.0, get_set_other (map (with_end owner at) states) page (slice_index pages i) (Live owner at None) apart ∙ claimed_still owner at (slice_index pages i) was.0 states was.1);
  distinct = λ i j low high. ok.distinct (suc i) (suc j) (omega (arith, low)) (omega (arith, high));
}

publications_keep : (place at : ℕ) (xs : List Publication) (states : List PageState) → place < at → ArePublishable (pages_of xs) states → Keeps place states (all_published at xs states)
publications_keep place at [] states low ok content bytes served = served
publications_keep place at (x ∷ xs) states low ok content bytes served =
    let first = ok.claimed 0 (omega arith) in
    publications_keep place at xs (with_newest x.page x.owner at states) low (others x.page at x.owner (pages_of xs) states ok) content bytes
    (publication_keeps x.page first.0 at place x.owner states low first.1 content bytes served)

vanishings_keep : (place at : ℕ) (os : List Owner) (states : List PageState) → place < at → Keeps place states (all_vanished at os states)
vanishings_keep place at [] states low content bytes served = served
vanishings_keep place at (o ∷ os) states low content bytes served = vanishings_keep place at os (vanished o at states) low content bytes (vanishing_keeps at place o states low content bytes served)

pub change_keeps : ChangeKeeps
change_keeps place at xs os states low ok content bytes served = vanishings_keep place at os (all_published at xs states) low content bytes (publications_keep place at xs states low ok content bytes served)

publications_settle : (at : ℕ) (xs : List Publication) (states : List PageState) → Settled at states → Settled at (all_published at xs states)
publications_settle at [] states settled = settled
publications_settle at (x ∷ xs) states settled = publications_settle at xs (with_newest x.page x.owner at states) (publication_settles x.page at at x.owner states (omega arith) settled)

vanishings_settle : (at : ℕ) (os : List Owner) (states : List PageState) → Settled at states → Settled at (all_vanished at os states)
vanishings_settle at [] states settled = settled
vanishings_settle at (o ∷ os) states settled = vanishings_settle at os (vanished o at states) (vanishing_settles at at o states (omega arith) settled)

-- what is settled at a front is settled beyond it
later_settled : (front at : ℕ) (states : List PageState) → front ≤ at → Settled front states → Settled at states
later_settled front at states later settled = record {
  began = λ p o from has. let low : from ≤ front = settled.began p o from has in omega (arith, low, later);
  ended_by = λ p o from to has. let low : to ≤ front = settled.ended_by p o from to has in omega (arith, low, later);
}

pub change_settles : ChangeSettles
change_settles front at xs os states later settled = vanishings_settle at os (all_published at xs states) (publications_settle at xs states (later_settled front at states later settled))

publications_serve : (content : Owner → Option (List ℕ)) (bytes : ℕ → List ℕ) (at : ℕ) (xs : List Publication) (states : List PageState) → ArePublishable (pages_of xs) states → Settled at states → Serves content bytes at states
    → Serves (with_pages content bytes xs) bytes at (all_published at xs states)
publications_serve content bytes at [] states ok settled served = served
publications_serve content bytes at (x ∷ xs) states ok settled served =
    let first = ok.claimed 0 (omega arith) in
    publications_serve (with_content content x.owner (Some (bytes x.page))) bytes at xs (with_newest x.page x.owner at states) (others x.page at x.owner (pages_of xs) states ok)
    (publication_settles x.page at at x.owner states (omega arith) settled) (publication_serves content bytes x.page first.0 at x.owner states first.1 settled served)

vanishings_serve : (content : Owner → Option (List ℕ)) (bytes : ℕ → List ℕ) (at : ℕ) (os : List Owner) (states : List PageState) → Settled at states → Serves content bytes at states
    → Serves (without_owners content os) bytes at (all_vanished at os states)
vanishings_serve content bytes at [] states settled served = served
vanishings_serve content bytes at (o ∷ os) states settled served =
    vanishings_serve (with_content content o None) bytes at os (vanished o at states) (vanishing_settles at at o states (omega arith) settled) (vanishing_serves content bytes at o states settled served)

pub change_serves : ChangeServes
change_serves content bytes front at xs os states later ok settled served =
    let now = later_settled front at states later settled in
    vanishings_serve (with_pages content bytes xs) bytes at os (all_published at xs states) (publications_settle at xs states now)
    (publications_serve content bytes at xs states ok now (front_serves content bytes front at states later settled served))
