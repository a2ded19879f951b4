-- A change counts as a lone caller counts it.
use Rattle.std.proofs.Common.{◌≡◌, ℕ, ◌+◌, ◌≤◌, List, [], ◌∷◌, ◌++◌, ◌&&◌, Option, refl, sym, ◌∙◌, ap, subst, map, length, not, arith}
use Rattle.std.specs.List.{count_by, list_any}
use Rattle.grid_types.specs.declared.owner.Owner.{Owner}
use Rattle.grid_types.specs.Owners.{same_owner}
use Rattle.grid_model.specs.Layouts.{Layout}
use Rattle.grid_model.specs.Lists.{is_among, AreDistinct}
use Rattle.grid_model.specs.Lone.{Owners, among, outside, how_many, renewed, dropped, published}
use Rattle.grid_model.proofs.Counts.{filter-distinct}
use Rattle.history_pages.specs.OwnerPages.{has_owner, owner_page}
use Rattle.layout_pages.specs.Holding.{bytes_in}
use Rattle.layout_pages.specs.Steps.{publications, owners_renewed, owners_vanishing, published_states}
use Rattle.page_states.specs.declared.page_state.PageState.{PageState}
use Rattle.page_states.specs.States.{is_current_at}
use Rattle.page_states.specs.Laws.{Serves, Settled, is_of_root}
use Rattle.page_states.specs.Changes.{Publication, pages_of, changed, with_pages, without_owners, ArePublishable}
use Rattle.page_states.proofs.WholeChanges.{change_serves, change_settles}
use Rattle.kept_pages.specs.Counts.{is_still}
use Rattle.kept_pages.specs.CountLaws.{ChangeCounts}
use Rattle.kept_pages.proofs.Listed.{in-order-length}
use Rattle.kept_pages.proofs.Publications.{still-now, current-changed, now-changed}
use Rattle.kept_pages.proofs.Renewed.{renews-owners, drops-owners, outside-has, among-outside}
use Rattle.kept_pages.proofs.Rooted.{rooted-counted}

-- owners that get a page each are those of the publications, and the pages are theirs
published-owners : (os : List Owner) (pages : List ℕ) → length pages ≡ length os → map (λ x. x.owner) (publications os pages) ≡ os
published-owners [] pages many = refl
published-owners (o ∷ os) [] many = absurd (omega arith)
published-owners (o ∷ os) (p ∷ pages) many = λ i. o ∷ published-owners os pages (omega arith) i

published-pages : (os : List Owner) (pages : List ℕ) → length pages ≡ length os → pages_of (publications os pages) ≡ pages
published-pages [] [] many = refl
published-pages [] (p ∷ pages) many = absurd (omega arith)
published-pages (o ∷ os) [] many = absurd (omega arith)
published-pages (o ∷ os) (p ∷ pages) many = λ i. p ∷ published-pages os pages (omega arith) i

-- what is counted after a change whose owners are dropped
module _ (content : Owner → Option (List ℕ)) (bytes : ℕ → List ℕ) (states : List PageState) (front root kept : ℕ) (these drops : Owners) (xs : List Publication) (os : List Owner)
    (low : root ≤ front) (ok : ArePublishable (pages_of xs) states) (settled : Settled front states) (served : Serves content bytes front states)
    (rooted : (o : Owner) → has_owner these o ≡ list_any (is_still o front root) states) (buckets : AreDistinct these.buckets) (parts : AreDistinct these.parts)
    (counted : kept ≡ count_by (is_of_root root) states) (dropping : (o : Owner) → has_owner drops o ≡ list_any (same_owner o) (map (λ x. x.owner) xs ++ os)) where
  new : List PageState
  new = changed (front + 1) xs os states

  settled-new : Settled (front + 1) new
  unfolding new
  settled-new = change_settles front (front + 1) xs os states (omega arith) settled

  served-new : Serves (without_owners (with_pages content bytes xs) os) bytes (front + 1) new
  unfolding new
  served-new = change_serves content bytes front (front + 1) xs os states (omega arith) ok settled served

  -- the owners that stay rooted are those that are not dropped
  rooted-new : (o : Owner) → has_owner (outside drops these) o ≡ list_any (is_still o (front + 1) root) new
  unfolding new
  rooted-new o =
      outside-has drops these o ∙ (λ i. not (dropping o i) && (rooted o ∙ still-now o front root states settled) i)
      ∙ sym (now-changed root (front + 1) (omega arith) o xs os states ok) ∙ sym (still-now o (front + 1) root new settled-new)

  -- each dropped owner that was rooted leaves a page that the root keeps
  kept-new : kept + how_many (among drops these) ≡ count_by (is_of_root root) new
  unfolding new
  kept-new =
      let before : count_by (is_of_root root) states + how_many these ≡ count_by (is_current_at root) states = rooted-counted content bytes front root states these settled served rooted buckets parts in
      let after : count_by (is_of_root root) new + how_many (outside drops these) ≡ count_by (is_current_at root) new = rooted-counted (without_owners (with_pages content bytes xs) os) bytes (front + 1) root new (outside drops these) settled-new served-new rooted-new
      (filter-distinct (λ n. not (is_among drops.buckets n)) these.buckets buckets) (filter-distinct (λ n. not (is_among drops.parts n)) these.parts parts) in
      let same : count_by (is_current_at root) new ≡ count_by (is_current_at root) states = current-changed root (front + 1) (omega arith) xs os states ok in
      let both : how_many (among drops these) + how_many (outside drops these) ≡ how_many these = among-outside drops these in
      omega (arith, before, after, same, both, counted)

pub change-counts : {K : ℕ} → ChangeCounts K
unfolding published_states published new
change-counts {K = K} shape L t u n e states always front root pages s change same table low holds ok many counts = record {
  rooted = rooted-new content bytes states front root s.kept s.rooted drops xs os low publishable holds.settled holds.served counts.rooted counts.buckets counts.parts counts.kept dropping;
  buckets = filter-distinct (λ n. not (is_among drops.buckets n)) s.rooted.buckets counts.buckets;
  parts = filter-distinct (λ n. not (is_among drops.parts n)) s.rooted.parts counts.parts;
  kept = kept-new content bytes states front root s.kept s.rooted drops xs os low publishable holds.settled holds.served counts.rooted counts.buckets counts.parts counts.kept dropping;
}
  where
    content : Owner → Option (List ℕ)
    content = owner_page L t

    bytes : ℕ → List ℕ
    bytes = bytes_in always

    drops : Owners
    drops = dropped s.layout e n

    renews : List Owner
    renews = owners_renewed e.0 n (renewed L e n).parts

    xs : List Publication
    xs = publications renews pages

    os : List Owner
    os = owners_vanishing e.0 n

    as-many : length pages ≡ length renews
    as-many = many ∙ sym (in-order-length (renewed L e n)) ∙ ap length (renews-owners L e n)

    publishable : ArePublishable (pages_of xs) states
    publishable = subst (λ (ps : List ℕ). ArePublishable ps states) (sym (published-pages renews pages as-many)) ok

    dropping : (o : Owner) → has_owner drops o ≡ list_any (same_owner o) (map (λ x. x.owner) xs ++ os)
    dropping o = ap (λ (M : Layout K). has_owner (dropped M e n) o) same ∙ drops-owners L e n o ∙ ap (λ (rs : List Owner). list_any (same_owner o) (rs ++ os)) (sym (published-owners renews pages as-many))
