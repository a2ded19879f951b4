-- The publications of owners with the pages that they get.
use Rattle.std.proofs.Common.{◌≡◌, ◌<◌, ◌≤◌, ℕ, zero, suc, List, [], ◌∷◌, map, length, Some, refl, sym, ap, ◌∙◌, arith}
use Rattle.std.specs.Prelude.{slice_get, slice_index}
use Rattle.std.proofs.lemmas.Option.{same_Some}
use Rattle.grid_types.specs.declared.owner.Owner.{Owner}
use Rattle.page_states.specs.declared.page_state.PageState.{PageState}
use Rattle.page_states.specs.Changes.{Publication, pages_of, ArePublishable}
use Rattle.layout_pages.specs.Steps.{publications}

-- where there are as many pages as owners, all are published
pub all-pages : (os : List Owner) (pages : List ℕ) → length pages ≡ length os → pages_of (publications os pages) ≡ pages
all-pages [] [] same = refl
all-pages [] (p ∷ ps) same = absurd (omega (arith, same))
all-pages (o ∷ os) [] same = absurd (omega (arith, same))
all-pages (o ∷ os) (p ∷ ps) same = ap (λ (qs : List ℕ). p ∷ qs) (all-pages os ps (omega (arith, same)))

-- else the first of them are
few-pages : (os : List Owner) (pages : List ℕ) → length (pages_of (publications os pages)) ≤ length pages
few-pages [] pages = omega arith
few-pages (o ∷ os) [] = omega arith
few-pages (o ∷ os) (p ∷ ps) = omega (arith, few-pages os ps)

first-pages : (os : List Owner) (pages : List ℕ) (i : ℕ) → i < length (pages_of (publications os pages)) → slice_index (pages_of (publications os pages)) i ≡ slice_index pages i
first-pages [] pages i low = absurd (omega (arith, low))
first-pages (o ∷ os) [] i low = absurd (omega (arith, low))
first-pages (o ∷ os) (p ∷ ps) zero low = refl
first-pages (o ∷ os) (p ∷ ps) (suc i) low = first-pages os ps i (omega (arith, low))

-- pages that may be published for owners
pub less-publishable : (os : List Owner) (pages : List ℕ) (states : List PageState) → ArePublishable pages states → ArePublishable (pages_of (publications os pages)) states
less-publishable os pages states ok = record {
  claimed = λ i low.
      let was = ok.claimed i (omega (arith, low, few-pages os pages)) in
      (was.0, ap (slice_get states) (first-pages os pages i low) ∙ was.1);
  distinct = λ i j low high same. ok.distinct i j low (omega (arith, high, few-pages os pages)) (sym (first-pages os pages j high) ∙ same ∙ first-pages os pages i (omega (arith, low, high)));
}

-- and their owners are all owners
pub all-owners : (os : List Owner) (pages : List ℕ) → length pages ≡ length os → map (λ x. x.owner) (publications os pages) ≡ os
all-owners [] [] same = refl
all-owners [] (p ∷ ps) same = absurd (omega (arith, same))
all-owners (o ∷ os) [] same = absurd (omega (arith, same))
all-owners (o ∷ os) (p ∷ ps) same = ap (λ (ws : List Owner). o ∷ ws) (all-owners os ps (omega (arith, same)))

-- a publication has the owner and the page of its place
pub published-at : (os : List Owner) (pages : List ℕ) (i : ℕ) (x : Publication) → slice_get (publications os pages) i ≡ Some x → (slice_get os i ≡ Some x.owner) × (slice_get pages i ≡ Some x.page)
published-at [] pages i x has = absurd (cc)
published-at (o ∷ os) [] i x has = absurd (cc)
published-at (o ∷ os) (p ∷ ps) zero x has =
    let is : record { page = p; owner = o } ≡ x = same_Some (record { page = p; owner = o }) x has in
    (ap (λ (y : Publication). Some y.owner) is, ap (λ (y : Publication). Some y.page) is)
published-at (o ∷ os) (p ∷ ps) (suc i) x has = published-at os ps i x has
