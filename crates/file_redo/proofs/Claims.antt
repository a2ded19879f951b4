-- How many pages are claimed while a file is opened.
use Rattle.std.proofs.Common.{◌≡◌, ◌≢◌, ◌≤◌, ◌+◌, ℕ, zero, suc, Bool, true, false, cond, List, [], ◌∷◌, take, map, length, replicate, slice_index, Some, None, refl, sym, ap, subst, ◌∙◌, arith}
use Rattle.std.specs.Prelude.{slice_get, slice_set}
use Rattle.std.specs.List.{count_by}
use Rattle.std.proofs.lemmas.List.Sums.{sum_by-cons}
use Rattle.grid_types.specs.declared.owner.Owner.{Owner}
use Rattle.grid_types.specs.Owners.{same_owner}
use Rattle.page_states.specs.declared.page_state.PageState.{PageState}
use Rattle.page_states.specs.declared.page_state.PageState.TheVariants.{Free, Claimed, Live}
use Rattle.page_states.specs.Counts.{once}
use Rattle.page_states.specs.States.{is_free, is_claimed}
use Rattle.page_states.specs.Effects.{free_from, free_pages, claim_all, with_end, with_newest, freed, is_gone, swept, vanished}
use Rattle.page_states.specs.Changes.{Publication, pages_of, all_published, all_vanished, ArePublishable}
use Rattle.page_states.proofs.Claims.{free_length}
use Rattle.page_states.proofs.Counting.{count_set}
use Rattle.page_states.proofs.KeptPlaces.{claimed_still}
use Rattle.page_states.proofs.Lists.{get_set_other}
use Rattle.page_states.proofs.Shown.{count_same, map_same}
use Rattle.layout_pages.specs.Steps.{named_publications, opened_states, owners_renewed, owners_vanishing, publications, published_states}
use Rattle.layout_pages.proofs.Publishing.{all-pages}
use Rattle.file_books.specs.Effects.{parts_renewed}
use Rattle.file_redo.specs.RedoLaws.{ClaimsCount}

-- a sweep frees no claimed page
kept-claim : (places : List ℕ) (x : PageState) → is_claimed (freed (is_gone places) x) ≡ is_claimed x
kept-claim places Free = refl
kept-claim places (Claimed s) = refl
kept-claim places (Live o from None) = refl
kept-claim places (Live o from (Some to)) = by (is_gone places (Live o from (Some to)))
  where
    by : (b : Bool) → is_claimed (cond b Free (Live o from (Some to))) ≡ false
    by true = refl
    by false = refl

swept-claims : (places : List ℕ) (states : List PageState) → count_by is_claimed (swept places states) ≡ count_by is_claimed states
swept-claims places states = count_same is_claimed states (swept places states) (λ q. map_same is_claimed (freed (is_gone places)) states q (kept-claim places))

-- nor does an owner's page end that is claimed
ended-claim : (owner : Owner) (at : ℕ) (x : PageState) → is_claimed (with_end owner at x) ≡ is_claimed x
ended-claim owner at Free = refl
ended-claim owner at (Claimed s) = refl
ended-claim owner at (Live o from (Some to)) = refl
ended-claim owner at (Live o from None) = by (same_owner o owner)
  where
    by : (b : Bool) → is_claimed (cond b (Live o from (Some at)) (Live o from None)) ≡ false
    by true = refl
    by false = refl

ended-claims : (owner : Owner) (at : ℕ) (states : List PageState) → count_by is_claimed (vanished owner at states) ≡ count_by is_claimed states
ended-claims owner at states = count_same is_claimed states (vanished owner at states) (λ q. map_same is_claimed (with_end owner at) states q (ended-claim owner at))

vanished-claims : (at : ℕ) (os : List Owner) (states : List PageState) → count_by is_claimed (all_vanished at os states) ≡ count_by is_claimed states
vanished-claims at [] states = refl
vanished-claims at (o ∷ os) states = vanished-claims at os (vanished o at states) ∙ ended-claims o at states

-- a page that begins to be an owner's is claimed no more
fewer-claims : (states : List PageState) (p : ℕ) (o : Owner) (at : ℕ) → count_by is_claimed (slice_set states p (Live o at None)) ≤ count_by is_claimed states
fewer-claims [] p o at = omega arith
fewer-claims (x ∷ xs) zero o at = omega (arith, sum_by-cons (once is_claimed) x xs, sum_by-cons (once is_claimed) (Live o at None) xs)
fewer-claims (x ∷ xs) (suc p) o at = omega (arith, fewer-claims xs p o at, sum_by-cons (once is_claimed) x xs, sum_by-cons (once is_claimed) x (slice_set xs p (Live o at None)))

begun-claims : (at : ℕ) (xs : List Publication) (states : List PageState) → count_by is_claimed (all_published at xs states) ≤ count_by is_claimed states
begun-claims at [] states = omega arith
begun-claims at (x ∷ xs) states = omega (arith, begun-claims at xs (with_newest x.page x.owner at states), fewer-claims (vanished x.owner at states) x.page x.owner at, ended-claims x.owner at states)

none-claimed : (n : ℕ) → count_by is_claimed (replicate n Free) ≡ 0
none-claimed zero = refl
none-claimed (suc n) = omega (arith, none-claimed n, sum_by-cons (once is_claimed) Free (replicate n Free))

-- each claimed page that is published is claimed no more
left-publishable : (page at : ℕ) (owner : Owner) (pages : List ℕ) (states : List PageState) → ArePublishable (page ∷ pages) states → ArePublishable pages (with_newest page owner at states)
left-publishable page at owner pages states ok = record {
  claimed = λ i low.
      let apart : slice_index pages i ≢ page = ok.distinct 0 (suc i) (omega arith) (omega (arith, low)) in
      let was = ok.claimed (suc i) (omega (arith, low)) in
      (was.0, get_set_other (map (with_end owner at) states) page (slice_index pages i) (Live owner at None) apart ∙ claimed_still owner at (slice_index pages i) was.0 states was.1);
  distinct = λ i j low high. ok.distinct (suc i) (suc j) (omega (arith, low)) (omega (arith, high));
}

published-claims : (at : ℕ) (xs : List Publication) (states : List PageState) → ArePublishable (pages_of xs) states → count_by is_claimed (all_published at xs states) + length (pages_of xs) ≡ count_by is_claimed states
published-claims at [] states ok = omega arith
published-claims at (x ∷ xs) states ok =
    let first = ok.claimed 0 (omega arith) in
    let one : count_by is_claimed (with_newest x.page x.owner at states) + 1 ≡ count_by is_claimed (vanished x.owner at states) + 0 =
    count_set is_claimed (vanished x.owner at states) x.page (Claimed first.0) (Live x.owner at None) (claimed_still x.owner at x.page first.0 states first.1) in
    omega (arith, one, ended-claims x.owner at states, published-claims at xs (with_newest x.page x.owner at states) (left-publishable x.page at x.owner (pages_of xs) states ok))

-- the first of the free pages is free, and the others are left once it is claimed
record FirstFree (seat n : ℕ) (xs : List PageState) (p : ℕ) (ps : List ℕ) : Type 0 where
  page : ℕ
  number : n + page ≡ p
  free : slice_get xs page ≡ Some Free
  left : free_from n (slice_set xs page (Claimed seat)) ≡ ps

first-free : (seat n : ℕ) (xs : List PageState) (p : ℕ) (ps : List ℕ) → free_from n xs ≡ p ∷ ps → FirstFree seat n xs p ps
first-free seat n [] p ps e = absurd (cc)
first-free seat n (Free ∷ xs) p ps e =
    let here : n ≡ p = cc in
    let rest : free_from (n + 1) xs ≡ ps = cc in
    record { page = 0; number = omega (arith, here); free = refl; left = rest }
first-free seat n (Claimed s ∷ xs) p ps e = let f = first-free seat (n + 1) xs p ps e in record { page = suc f.page; number = omega (arith, f.number); free = f.free; left = f.left }
first-free seat n (Live o from to ∷ xs) p ps e = let f = first-free seat (n + 1) xs p ps e in record { page = suc f.page; number = omega (arith, f.number); free = f.free; left = f.left }

-- as many pages are claimed as a claim takes, where so many are free
taken-claims : (seat count : ℕ) (states : List PageState) → count ≤ count_by is_free states → count_by is_claimed (claim_all seat (take count (free_pages states)) states) ≡ count_by is_claimed states + count
taken-claims seat zero states enough = omega arith
taken-claims seat (suc c) states enough = by (free_pages states) refl (λ now low. taken-claims seat c now low)
  where
    by : (ps : List ℕ) → free_pages states ≡ ps → ((now : List PageState) → c ≤ count_by is_free now → count_by is_claimed (claim_all seat (take c (free_pages now)) now) ≡ count_by is_claimed now + c)
        → count_by is_claimed (claim_all seat (take (suc c) ps) states) ≡ count_by is_claimed states + suc c
    by [] e again = absurd (omega (arith, enough, free_length 0 states, ap (λ (ps : List ℕ). length ps) e))
    by (p ∷ ps) e again =
        let f : FirstFree seat 0 states p ps = first-free seat 0 states p ps e in
        let here : f.page ≡ p = omega (arith, f.number) in
        let free : slice_get states p ≡ Some Free = ap (slice_get states) (sym here) ∙ f.free in
        let left : free_pages (slice_set states p (Claimed seat)) ≡ ps = ap (λ (q : ℕ). free_pages (slice_set states q (Claimed seat))) (sym here) ∙ f.left in
        let fewer : count_by is_free (slice_set states p (Claimed seat)) + 1 ≡ count_by is_free states + 0 = count_set is_free states p Free (Claimed seat) free in
        let more : count_by is_claimed (slice_set states p (Claimed seat)) + 0 ≡ count_by is_claimed states + 1 = count_set is_claimed states p Free (Claimed seat) free in
        let later : count_by is_claimed (claim_all seat (take c ps) (slice_set states p (Claimed seat))) ≡ count_by is_claimed (slice_set states p (Claimed seat)) + c =
        ap (λ (qs : List ℕ). count_by is_claimed (claim_all seat (take c qs) (slice_set states p (Claimed seat)))) (sym left) ∙ again (slice_set states p (Claimed seat)) (omega (arith, enough, fewer)) in
        omega (arith, later, more)

pub claims-count : {K : ℕ} → ClaimsCount K
unfolding opened_states published_states
claims-count = record {
  opened = λ s w first second. omega (arith, begun-claims w.fields.front (named_publications w.area) (replicate s.pages Free), none-claimed s.pages);
  sweep = λ b. swept-claims _ b.pages;
  claim = λ b seat count enough. taken-claims seat count b.pages enough;
  published = λ b x may.
      let all : pages_of (publications (owners_renewed x.bucket x.note (parts_renewed b x)) x.pages) ≡ x.pages = all-pages (owners_renewed x.bucket x.note (parts_renewed b x)) x.pages may.count in
      omega (
        arith,
        vanished-claims (b.front + 1) (owners_vanishing x.bucket x.note) (all_published (b.front + 1) (publications (owners_renewed x.bucket x.note (parts_renewed b x)) x.pages) b.pages),
        published-claims (b.front + 1) (publications (owners_renewed x.bucket x.note (parts_renewed b x)) x.pages) b.pages (subst (λ (ps : List ℕ). ArePublishable ps b.pages) (sym all) may.claimed),
        ap (λ (ps : List ℕ). length ps) all,
      );
}
