-- Pages that were current at a root's place are either replaced since, or those of the owners that still have them.
use Rattle.std.proofs.Common.{◌≡◌, ℕ, ◌+◌, ◌≤◌, List, [], Bool, true, false, ◌&&◌, cond, Option, Some, None, refl, sym, ◌∙◌, ap, map, length, not, is_some, nat_lt, arith}
use Rattle.std.specs.List.{count_by, list_any}
use Rattle.std.proofs.lemmas.List.Sums.{sum_by-le-sum_by}
use Rattle.std.proofs.lemmas.Map.Keys.{any_passes_from_place}
use Rattle.grid_types.specs.declared.owner.Owner.{Owner}
use Rattle.grid_types.specs.Owners.{same_owner}
use Rattle.grid_model.specs.Lists.{AreDistinct}
use Rattle.grid_model.specs.Lone.{Owners, how_many}
use Rattle.history_pages.specs.NewPages.{in_order}
use Rattle.history_pages.specs.OwnerPages.{has_owner}
use Rattle.page_states.specs.declared.page_state.PageState.{PageState}
use Rattle.page_states.specs.declared.page_state.PageState.TheVariants.{Free, Claimed, Live}
use Rattle.page_states.specs.Counts.{once}
use Rattle.page_states.specs.States.{is_current, is_current_at, shows}
use Rattle.page_states.specs.Effects.{freed}
use Rattle.page_states.specs.Laws.{Serves, Settled, is_of_root}
use Rattle.page_states.proofs.OwnersCounted.{current_pages_are_owners}
use Rattle.page_states.proofs.SettledPlaces.{freeing_settles}
use Rattle.page_states.proofs.Shown.{and_false, and_true}
use Rattle.kept_pages.specs.Counts.{is_still}
use Rattle.kept_pages.proofs.Tallies.{any-counts, at-most-one, count-mapped, count-sum}
use Rattle.kept_pages.proofs.Listed.{in-order-length, listed-once}

-- a page that is current now, and was at a root's place
abbrev pub is_standing : ℕ → PageState → Bool
is_standing root x = is_current x && is_current_at root x

-- of those that were current at the root's place each is replaced or stands
kept-or-standing : (root : ℕ) (x : PageState) → once (is_of_root root) x + once (is_standing root) x ≡ once (is_current_at root) x
kept-or-standing root Free = refl
kept-or-standing root (Claimed s) = refl
kept-or-standing root (Live o from None) = omega arith
kept-or-standing root (Live o from (Some to)) = omega arith

-- the pages that were not current at the root's place
abbrev is_since : ℕ → PageState → Bool
is_since root x = not (is_current_at root x)

-- without them a current page is one that stands
current-left : (root : ℕ) (x : PageState) → is_current (freed (is_since root) x) ≡ is_standing root x
current-left root x = by (is_current_at root x)
  where
    by : (b : Bool) → is_current (cond (not b) Free x) ≡ (is_current x && b)
    by true = sym (and_true (is_current x))
    by false = sym (and_false (is_current x))

-- and an owner's at the front is one that it still has
shown-left : (o : Owner) (front root : ℕ) (x : PageState) → shows o front (freed (is_since root) x) ≡ is_still o front root x
shown-left o front root x = by (is_current_at root x)
  where
    by : (b : Bool) → shows o front (cond (not b) Free x) ≡ (shows o front x && b)
    by true = sym (and_true (shows o front x))
    by false = sym (and_false (shows o front x))

-- two tests together pass at most as often as the first, and one test at most once
less-often : (a b : Bool) → cond {A = ℕ} (a && b) 1 0 ≤ cond a 1 0
less-often true true = omega arith
less-often true false = omega arith
less-often false b = omega arith

once-few : (b : Bool) → cond {A = ℕ} b 1 0 ≤ 1
once-few true = omega arith
once-few false = omega arith

-- there is something exactly where the test is true
some-where : (b : Bool) → once is_some (cond {A = Option (List ℕ)} b (Some []) None) ≡ cond b 1 0
some-where true = refl
some-where false = refl

module _ (content : Owner → Option (List ℕ)) (bytes : ℕ → List ℕ) (front root : ℕ) (states : List PageState) (these : Owners) (settled : Settled front states) (served : Serves content bytes front states)
    (rooted : (o : Owner) → has_owner these o ≡ list_any (is_still o front root) states) (buckets : AreDistinct these.buckets) (parts : AreDistinct these.parts) where
  -- the states without the pages that were not current at the root's place
  left : List PageState
  left = map (freed (is_since root)) states

  shown-count : (o : Owner) → count_by (shows o front) left ≡ count_by (is_still o front root) states
  unfolding left
  shown-count o = count-mapped (shows o front) (is_still o front root) (freed (is_since root)) states (shown-left o front root)

  has-count : (o : Owner) → has_owner these o ≡ nat_lt 0 (count_by (is_still o front root) states)
  has-count o = rooted o ∙ any-counts (is_still o front root) states

  -- each owner that is rooted has one page there
  one-left : (o : Owner) → count_by (shows o front) left ≡ cond (has_owner these o) 1 0
  one-left o =
      let fewer : count_by (is_still o front root) states ≤ count_by (shows o front) states = sum_by-le-sum_by (once (is_still o front root)) (once (shows o front)) states (λ x. less-often (shows o front x) (is_current_at root x)) in
      let one : count_by (shows o front) states ≡ once is_some (content o) = served.one o in
      let few : once is_some (content o) ≤ 1 = once-few (is_some (content o)) in
      shown-count o ∙ at-most-one (count_by (is_still o front root) states) (has_owner these o) (omega (arith, fewer, one, few)) (has-count o)

  -- the content of those that are rooted
  content_left : Owner → Option (List ℕ)
  content_left o = cond (has_owner these o) (Some []) None

  serves-left : Serves content_left (λ p. []) front left
  unfolding content_left
  serves-left = record {
    one = λ o. one-left o ∙ sym (some-where (has_owner these o));
    spelled = λ p o x has shown.
        let any : nat_lt 0 (count_by (shows o front) left) ≡ true = sym (any-counts (shows o front) left) ∙ any_passes_from_place (shows o front) left p x has shown in
        let is : has_owner these o ≡ true = has-count o ∙ ap (nat_lt 0) (sym (shown-count o)) ∙ any in
        ap (λ (b : Bool). cond {A = Option (List ℕ)} b (Some []) None) is;
  }

  settles-left : Settled front left
  unfolding left
  settles-left = freeing_settles (is_since root) front states settled

  listed-left : (o : Owner) → count_by (same_owner o) (in_order these) ≡ once is_some (content_left o)
  unfolding content_left
  listed-left o = listed-once these buckets parts o ∙ sym (some-where (has_owner these o))

  standing-count : count_by is_current left ≡ count_by (is_standing root) states
  unfolding left
  standing-count = count-mapped is_current (is_standing root) (freed (is_since root)) states (current-left root)

  -- the pages that a root keeps and the owners that are rooted are the pages that were current at its place
  pub rooted-counted : count_by (is_of_root root) states + how_many these ≡ count_by (is_current_at root) states
  rooted-counted =
      let all : count_by (is_of_root root) states + count_by (is_standing root) states ≡ count_by (is_current_at root) states = count-sum (is_of_root root) (is_standing root) (is_current_at root) states (kept-or-standing root) in
      let owned : count_by is_current left ≡ length (in_order these) = current_pages_are_owners content_left (λ p. []) front left (in_order these) settles-left serves-left listed-left in
      let many : length (in_order these) ≡ how_many these = in-order-length these in
      let standing : count_by is_current left ≡ count_by (is_standing root) states = standing-count in
      omega (arith, all, owned, many, standing)
