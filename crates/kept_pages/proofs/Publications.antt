-- What a change of pages leaves of those that were current at an earlier place.
use Rattle.std.proofs.Common.{◌≡◌, ℕ, suc, ◌<◌, List, [], ◌∷◌, ◌++◌, Bool, true, false, ◌&&◌, ◌||◌, cond, Some, None, refl, sym, ◌∙◌, ap, map, not, nat_le, arith}
use Rattle.std.specs.Prelude.{◌≢◌, slice_get, slice_index}
use Rattle.std.specs.List.{count_by, list_any}
use Rattle.std.proofs.lemmas.Bool.{lt-ltb, le-ltb, le-leb}
use Rattle.std.proofs.lemmas.List.Folds.{list_any-append}
use Rattle.grid_types.specs.declared.owner.Owner.{Owner}
use Rattle.grid_types.specs.Owners.{same_owner}
use Rattle.page_states.specs.declared.page_state.PageState.{PageState}
use Rattle.page_states.specs.declared.page_state.PageState.TheVariants.{Free, Claimed, Live}
use Rattle.page_states.specs.Counts.{once_at}
use Rattle.page_states.specs.States.{is_current, is_current_at, shows}
use Rattle.page_states.specs.Effects.{with_end, with_newest, vanished}
use Rattle.page_states.specs.Laws.{Settled}
use Rattle.page_states.specs.Changes.{Publication, pages_of, all_published, all_vanished, changed, ArePublishable}
use Rattle.page_states.proofs.Counting.{at_some}
use Rattle.page_states.proofs.Endings.{same_owner_is}
use Rattle.page_states.proofs.KeptPlaces.{claimed_still}
use Rattle.page_states.proofs.Lists.{get_set_other}
use Rattle.page_states.proofs.Shown.{and_false, and_true, le_no, map_same, count_same}
use Rattle.kept_pages.specs.Counts.{is_still}
use Rattle.kept_pages.proofs.Tallies.{any-same, any-alike, any-mapped, unseen-set}

-- a page that is the owner's now, and was at a root's place
abbrev pub is_now : Owner → ℕ → PageState → Bool
is_now o root x = is_current x && shows o root x

-- at the front these are the ones that are the owner's still
pub still-now : (o : Owner) (front root : ℕ) (states : List PageState) → Settled front states → list_any (is_still o front root) states ≡ list_any (is_now o root) states
still-now o front root states settled = any-alike (is_still o front root) (is_now o root) states same
  where
    tidy : (a b : Bool) → ((a && true) && b) ≡ (a && b)
    tidy true b = refl
    tidy false b = refl

    never : (a b c : Bool) → ((a && (b && false)) && c) ≡ false
    never true true c = refl
    never true false c = refl
    never false b c = refl

    same : (q : ℕ) (x : PageState) → slice_get states q ≡ Some x → is_still o front root x ≡ is_now o root x
    same q Free has = refl
    same q (Claimed s) has = refl
    same q (Live w from None) has = ap (λ (b : Bool). (same_owner w o && b) && nat_le from root) (le-leb from front (settled.began q w from has)) ∙ tidy (same_owner w o) (nat_le from root)
    same q (Live w from (Some to)) has =
        ap (λ (b : Bool). (same_owner w o && (nat_le from front && b)) && is_current_at root (Live w from (Some to))) (le-ltb front to (settled.ended_by q w from to has))
        ∙ never (same_owner w o) (nat_le from front) (is_current_at root (Live w from (Some to)))

-- where an owner's page ends, it has none now, and each other owner has its own
now-ended : (o owner : Owner) (at root : ℕ) (x : PageState) → is_now o root (with_end owner at x) ≡ (not (same_owner o owner) && is_now o root x)
now-ended o owner at root Free = sym (and_false (not (same_owner o owner)))
now-ended o owner at root (Claimed s) = sym (and_false (not (same_owner o owner)))
now-ended o owner at root (Live w from (Some to)) = sym (and_false (not (same_owner o owner)))
now-ended o owner at root (Live w from None) = by (same_owner w owner) refl
  where
    -- the page is the owner's that has its end: it was the other owner's only if both are one
    apart : (b : Bool) → same_owner w o ≡ b → same_owner w owner ≡ true → false ≡ (not (same_owner o owner) && (b && nat_le from root))
    apart false e own = sym (and_false (not (same_owner o owner)))
    apart true e own =
        let one : same_owner o owner ≡ true = ap (λ (z : Owner). same_owner z owner) (sym (same_owner_is w o e)) ∙ own in
        ap (λ (b : Bool). not b && nat_le from root) (sym one)

    -- the page is another owner's than the one whose page ends
    aside : (b : Bool) → same_owner w o ≡ b → same_owner w owner ≡ false → (b && nat_le from root) ≡ (not (same_owner o owner) && (b && nat_le from root))
    aside false e other = sym (and_false (not (same_owner o owner)))
    aside true e other =
        let one : same_owner o owner ≡ false = ap (λ (z : Owner). same_owner z owner) (sym (same_owner_is w o e)) ∙ other in
        ap (λ (b : Bool). not b && nat_le from root) (sym one)

    by : (b : Bool) → same_owner w owner ≡ b → is_now o root (cond (same_owner w owner) (Live w from (Some at)) (Live w from None)) ≡ (not (same_owner o owner) && is_now o root (Live w from None))
    by true e = ap (λ (b : Bool). is_now o root (cond b (Live w from (Some at)) (Live w from None))) e ∙ apart (same_owner w o) refl e
    by false e = ap (λ (b : Bool). is_now o root (cond b (Live w from (Some at)) (Live w from None))) e ∙ aside (same_owner w o) refl e

-- the end of a page is not seen from an earlier place
current-ended : (owner : Owner) (at root : ℕ) → root < at → (x : PageState) → is_current_at root (with_end owner at x) ≡ is_current_at root x
current-ended owner at root low Free = refl
current-ended owner at root low (Claimed s) = refl
current-ended owner at root low (Live w from (Some to)) = refl
current-ended owner at root low (Live w from None) = by (same_owner w owner)
  where
    by : (b : Bool) → is_current_at root (cond b (Live w from (Some at)) (Live w from None)) ≡ nat_le from root
    by true = ap (λ (b : Bool). nat_le from root && b) (lt-ltb root at low) ∙ and_true (nat_le from root)
    by false = refl

-- a claimed page that becomes an owner's at a later place passes a test of a root's place neither before nor then
newest-unseen : (test : PageState → Bool) (page seat at : ℕ) (owner : Owner) (states : List PageState) → slice_get states page ≡ Some (Claimed seat) → test (Claimed seat) ≡ false → test (Live owner at None) ≡ false
    → (q : ℕ) → once_at test (with_newest page owner at states) q ≡ once_at test (map (with_end owner at) states) q
newest-unseen test page seat at owner states has claimed live q = unseen-set test (map (with_end owner at) states) page q (Live owner at None)
    (at_some test (map (with_end owner at) states) page (Claimed seat) (claimed_still owner at page seat states has) ∙ ap (λ (b : Bool). cond {A = ℕ} b 1 0) claimed) live

-- the pages that are left can be published still
later : (page at : ℕ) (owner : Owner) (pages : List ℕ) (states : List PageState) → ArePublishable (page ∷ pages) states → ArePublishable pages (with_newest page owner at states)
later page at owner pages states ok = record {
  claimed = λ i low.
      let apart : slice_index pages i ≢ page = ok.distinct 0 (suc i) (omega arith) (omega (arith, low)) in
      let was = ok.claimed (suc i) (omega (arith, low)) in
      (was.0, get_set_other (map (with_end owner at) states) page (slice_index pages i) (Live owner at None) apart ∙ claimed_still owner at (slice_index pages i) was.0 states was.1);
  distinct = λ i j low high. ok.distinct (suc i) (suc j) (omega (arith, low)) (omega (arith, high));
}

-- what is neither the one nor the other
neither : (r s b : Bool) → (not r && (not s && b)) ≡ (not (s || r) && b)
neither true true b = refl
neither true false b = refl
neither false true b = refl
neither false false b = refl

module _ (root at : ℕ) (low : root < at) where
  -- no page that begins later was current at the root's place
  unseen-current : (owner : Owner) → is_current_at root (Live owner at None) ≡ false
  unseen-current owner = le_no at root low

  unseen-now : (o owner : Owner) → is_now o root (Live owner at None) ≡ false
  unseen-now o owner = ap (λ (b : Bool). same_owner owner o && b) (le_no at root low) ∙ and_false (same_owner owner o)

  -- as many pages were current at the root's place after publications, and after owners vanish
  current-published : (xs : List Publication) (states : List PageState) → ArePublishable (pages_of xs) states → count_by (is_current_at root) (all_published at xs states) ≡ count_by (is_current_at root) states
  current-published [] states ok = refl
  current-published (x ∷ xs) states ok =
      let first = ok.claimed 0 (omega arith) in
      current-published xs (with_newest x.page x.owner at states) (later x.page at x.owner (pages_of xs) states ok)
      ∙ count_same (is_current_at root) states (with_newest x.page x.owner at states) (λ q.
      newest-unseen (is_current_at root) x.page first.0 at x.owner states first.1 refl (unseen-current x.owner) q
      ∙ map_same (is_current_at root) (with_end x.owner at) states q (current-ended x.owner at root low))

  current-vanished : (os : List Owner) (states : List PageState) → count_by (is_current_at root) (all_vanished at os states) ≡ count_by (is_current_at root) states
  current-vanished [] states = refl
  current-vanished (o ∷ os) states = current-vanished os (vanished o at states)
      ∙ count_same (is_current_at root) states (vanished o at states) (λ q. map_same (is_current_at root) (with_end o at) states q (current-ended o at root low))

  pub current-changed : (xs : List Publication) (os : List Owner) (states : List PageState) → ArePublishable (pages_of xs) states → count_by (is_current_at root) (changed at xs os states) ≡ count_by (is_current_at root) states
  current-changed xs os states ok = current-vanished os (all_published at xs states) ∙ current-published xs states ok

  -- an owner whose page was replaced, or who vanished, has its page of the root's place no more; each other one has it as before
  now-published : (o : Owner) (xs : List Publication) (states : List PageState) → ArePublishable (pages_of xs) states
      → list_any (is_now o root) (all_published at xs states) ≡ (not (list_any (same_owner o) (map (λ x. x.owner) xs)) && list_any (is_now o root) states)
  now-published o [] states ok = refl
  now-published o (x ∷ xs) states ok =
      let first = ok.claimed 0 (omega arith) in
      now-published o xs (with_newest x.page x.owner at states) (later x.page at x.owner (pages_of xs) states ok)
      ∙ ap (λ (b : Bool). not (list_any (same_owner o) (map (λ x. x.owner) xs)) && b)
      (any-same (is_now o root) (map (with_end x.owner at) states) (with_newest x.page x.owner at states) (newest-unseen (is_now o root) x.page first.0 at x.owner states first.1 refl (unseen-now o x.owner))
      ∙ any-mapped (is_now o root) (with_end x.owner at) (not (same_owner o x.owner)) states (now-ended o x.owner at root))
      ∙ neither (list_any (same_owner o) (map (λ x. x.owner) xs)) (same_owner o x.owner) (list_any (is_now o root) states)

  now-vanished : (o : Owner) (os : List Owner) (states : List PageState) → list_any (is_now o root) (all_vanished at os states) ≡ (not (list_any (same_owner o) os) && list_any (is_now o root) states)
  now-vanished o [] states = refl
  now-vanished o (p ∷ os) states = now-vanished o os (vanished p at states)
      ∙ ap (λ (b : Bool). not (list_any (same_owner o) os) && b) (any-mapped (is_now o root) (with_end p at) (not (same_owner o p)) states (now-ended o p at root))
      ∙ neither (list_any (same_owner o) os) (same_owner o p) (list_any (is_now o root) states)

  pub now-changed : (o : Owner) (xs : List Publication) (os : List Owner) (states : List PageState) → ArePublishable (pages_of xs) states
      → list_any (is_now o root) (changed at xs os states) ≡ (not (list_any (same_owner o) (map (λ x. x.owner) xs ++ os)) && list_any (is_now o root) states)
  now-changed o xs os states ok =
      now-vanished o os (all_published at xs states)
      ∙ ap (λ (b : Bool). not (list_any (same_owner o) os) && b) (now-published o xs states ok)
      ∙ neither (list_any (same_owner o) os) (list_any (same_owner o) (map (λ x. x.owner) xs)) (list_any (is_now o root) states)
      ∙ ap (λ (b : Bool). not b && list_any (is_now o root) states) (sym (list_any-append (same_owner o) (map (λ x. x.owner) xs) os))
