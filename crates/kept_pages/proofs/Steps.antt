-- Sweeps, claims and what is given back count nothing else.
use Rattle.std.proofs.Common.{◌≡◌, ℕ, zero, suc, ◌+◌, ◌<◌, List, [], ◌∷◌, Bool, true, false, cond, refl, sym, ◌∙◌, ap, take, length, length-take, map, arith}
use Rattle.std.specs.Prelude.{Contains, slice_set, slice_index, min}
use Rattle.std.proofs.lemmas.Bool.{false_from_ne_true}
use Rattle.std.proofs.lemmas.List.{get_or-take}
use Rattle.grid_types.specs.declared.owner.Owner.{Owner}
use Rattle.grid_model.specs.Lone.{State}
use Rattle.page_states.specs.declared.page_state.PageState.{PageState}
use Rattle.page_states.specs.declared.page_state.PageState.TheVariants.{Free, Claimed, Live}
use Rattle.page_states.specs.Counts.{once_at}
use Rattle.page_states.specs.States.{is_claimed_by, is_current_at, is_replaced, shows}
use Rattle.page_states.specs.Effects.{free_from, free_pages, claim_all, freed, is_gone}
use Rattle.page_states.specs.Laws.{is_of_root}
use Rattle.page_states.proofs.Frees.{gone_no}
use Rattle.page_states.proofs.KeptPlaces.{kept_at}
use Rattle.page_states.proofs.Shown.{second_holds, map_same, count_same}
use Rattle.kept_pages.specs.Counts.{is_still, CountsRoot}
use Rattle.kept_pages.specs.CountLaws.{StepsCount}
use Rattle.kept_pages.proofs.Tallies.{any-same, unseen-set}

-- pages of which the tests of a count tell the same count as before
pub carried : {K : ℕ} (states new : List PageState) (front root : ℕ) (s : State K) → ((o : Owner) (q : ℕ) → once_at (is_still o front root) new q ≡ once_at (is_still o front root) states q)
    → ((q : ℕ) → once_at (is_of_root root) new q ≡ once_at (is_of_root root) states q) → CountsRoot states front root s → CountsRoot new front root s
carried states new front root s still kept counts = record {
  rooted = λ o. counts.rooted o ∙ sym (any-same (is_still o front root) states new (still o));
  buckets = counts.buckets;
  parts = counts.parts;
  kept = counts.kept ∙ sym (count_same (is_of_root root) states new kept);
}

-- a page that is freed was not seen, and is not
freed-unseen : (f test : PageState → Bool) → f Free ≡ false → ((x : PageState) → test x ≡ true → f x ≡ false) → (x : PageState) → f (freed test x) ≡ f x
freed-unseen f test free apart x = by (test x) refl
  where
    by : (t : Bool) → test x ≡ t → f (freed test x) ≡ f x
    by true e = ap (λ (b : Bool). f (cond b Free x)) e ∙ free ∙ sym (apart x e)
    by false e = ap (λ (b : Bool). f (cond b Free x)) e

-- a page that goes by a sweep was not current at a place that it keeps
gone-apart : (places : List ℕ) (root : ℕ) → Contains places root → (x : PageState) → is_gone places x ≡ true → is_current_at root x ≡ false
gone-apart places root within x gone = false_from_ne_true (is_current_at root x) (λ e.
    let kept : is_gone places x ≡ false = gone_no places x (kept_at places root within.0 x within.1 within.2 e) in
    let no : true ≡ false = sym gone ∙ kept in
    cc)

-- a test that asks whether a page is current at a place fails where it is not
not-current : (root : ℕ) (f : PageState → Bool) → ((x : PageState) → f x ≡ true → is_current_at root x ≡ true) → (x : PageState) → is_current_at root x ≡ false → f x ≡ false
not-current root f asks x apart = false_from_ne_true (f x) (λ e. let both : true ≡ false = sym (asks x e) ∙ apart in cc)

-- both tests of a count ask it
still-asks : (o : Owner) (front root : ℕ) (x : PageState) → is_still o front root x ≡ true → is_current_at root x ≡ true
still-asks o front root x e = second_holds (shows o front x) (is_current_at root x) e

kept-asks : (root : ℕ) (x : PageState) → is_of_root root x ≡ true → is_current_at root x ≡ true
kept-asks root x e = second_holds (is_replaced x) (is_current_at root x) e

swept-counts : {K : ℕ} (states : List PageState) (front root : ℕ) (s : State K) (places : List ℕ) → Contains places root → CountsRoot states front root s → CountsRoot (map (freed (is_gone places)) states) front root s
swept-counts states front root s places within counts = carried states (map (freed (is_gone places)) states) front root s
    (λ o q. map_same (is_still o front root) (freed (is_gone places)) states q (same (is_still o front root) refl (still-asks o front root)))
    (λ q. map_same (is_of_root root) (freed (is_gone places)) states q (same (is_of_root root) refl (kept-asks root)))
    counts
  where
    same : (f : PageState → Bool) → f Free ≡ false → ((x : PageState) → f x ≡ true → is_current_at root x ≡ true) → (x : PageState) → f (freed (is_gone places) x) ≡ f x
    same f free asks = freed-unseen f (is_gone places) free (λ x gone. not-current root f asks x (gone-apart places root within x gone))

-- a claimed page is current nowhere
claimed-apart : (seat root : ℕ) (x : PageState) → is_claimed_by seat x ≡ true → is_current_at root x ≡ false
claimed-apart seat root Free e = refl
claimed-apart seat root (Claimed s) e = refl
claimed-apart seat root (Live o from to) e = absurd cc

given-counts : {K : ℕ} (states : List PageState) (front root : ℕ) (s : State K) (seat : ℕ) → CountsRoot states front root s → CountsRoot (map (freed (is_claimed_by seat)) states) front root s
given-counts states front root s seat counts = carried states (map (freed (is_claimed_by seat)) states) front root s
    (λ o q. map_same (is_still o front root) (freed (is_claimed_by seat)) states q (same (is_still o front root) refl (still-asks o front root)))
    (λ q. map_same (is_of_root root) (freed (is_claimed_by seat)) states q (same (is_of_root root) refl (kept-asks root)))
    counts
  where
    same : (f : PageState → Bool) → f Free ≡ false → ((x : PageState) → f x ≡ true → is_current_at root x ≡ true) → (x : PageState) → f (freed (is_claimed_by seat) x) ≡ f x
    same f free asks = freed-unseen f (is_claimed_by seat) free (λ x claimed. not-current root f asks x (claimed-apart seat root x claimed))

-- a free page is one that does not pass
free-unseen : (f : PageState → Bool) → f Free ≡ false → (n i : ℕ) (xs : List PageState) → i < length (free_from n xs) → (k : ℕ) × (slice_index (free_from n xs) i ≡ n + k) × (once_at f xs k ≡ 0)
free-unseen f free n i [] inside = absurd (omega arith)
free-unseen f free n zero (Free ∷ xs) inside = (0, omega arith, ap (λ (b : Bool). cond {A = ℕ} b 1 0) free)
free-unseen f free n (suc i) (Free ∷ xs) inside = let rest = free-unseen f free (n + 1) i xs (omega arith) in (suc rest.0, omega (arith, rest.1), rest.2)
free-unseen f free n i (Claimed s ∷ xs) inside = let rest = free-unseen f free (n + 1) i xs inside in (suc rest.0, omega (arith, rest.1), rest.2)
free-unseen f free n i (Live o from to ∷ xs) inside = let rest = free-unseen f free (n + 1) i xs inside in (suc rest.0, omega (arith, rest.1), rest.2)

-- so is each page that a claim gives
taken-unseen : (f : PageState → Bool) → f Free ≡ false → (count i : ℕ) (states : List PageState) → i < length (take count (free_pages states)) → once_at f states (slice_index (take count (free_pages states)) i) ≡ 0
taken-unseen f free count i states inside =
    let long : length (take count (free_pages states)) ≡ min count (length (free_pages states)) = length-take count (free_pages states) in
    let low : i < count = omega (arith, long, inside) in
    let within : i < length (free_pages states) = omega (arith, long, inside) in
    let at = free-unseen f free 0 i states within in
    let is : slice_index (take count (free_pages states)) i ≡ slice_index (free_pages states) i = get_or-take count (free_pages states) i 0 low in
    let number : slice_index (take count (free_pages states)) i ≡ at.0 = omega (arith, is, at.1) in
    ap (once_at f states) number ∙ at.2

-- claims of pages that do not pass
claims-unseen : (f : PageState → Bool) (seat : ℕ) → f (Claimed seat) ≡ false → (pages : List ℕ) (states : List PageState) → ((i : ℕ) → i < length pages → once_at f states (slice_index pages i) ≡ 0) → (q : ℕ) → once_at f (claim_all seat pages states) q ≡ once_at f states q
claims-unseen f seat claimed [] states unseen q = refl
claims-unseen f seat claimed (p ∷ pages) states unseen q =
    claims-unseen f seat claimed pages (slice_set states p (Claimed seat)) (λ i low. one (slice_index pages i) ∙ unseen (suc i) (omega (arith, low))) q ∙ one q
  where
    one : (r : ℕ) → once_at f (slice_set states p (Claimed seat)) r ≡ once_at f states r
    one r = unseen-set f states p r (Claimed seat) (unseen 0 (omega arith)) claimed

claim-counts : {K : ℕ} (states : List PageState) (front root : ℕ) (s : State K) (seat count : ℕ) → CountsRoot states front root s → CountsRoot (claim_all seat (take count (free_pages states)) states) front root s
claim-counts states front root s seat count counts = carried states (claim_all seat (take count (free_pages states)) states) front root s
    (λ o. same (is_still o front root) refl refl)
    (same (is_of_root root) refl refl)
    counts
  where
    same : (f : PageState → Bool) → f Free ≡ false → f (Claimed seat) ≡ false → (q : ℕ) → once_at f (claim_all seat (take count (free_pages states)) states) q ≡ once_at f states q
    same f free claimed = claims-unseen f seat claimed (take count (free_pages states)) states (λ i low. taken-unseen f free count i states low)

pub steps-count : {K : ℕ} → StepsCount K
steps-count = record { sweep = swept-counts; claim = claim-counts; giving_back = given-counts }
