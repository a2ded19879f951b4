-- The new place of a publication.
use Rattle.std.proofs.Common.{◌≡◌, ◌⊎◌, inl, inr, ℕ, suc, ◌+◌, ◌≤◌, List, [], ◌∷◌, Bool, true, false, ◌&&◌, cond, Option, Some, None, refl, sym, ◌∙◌, ap, map, arith}
use Rattle.std.specs.Prelude.{◌≢◌, slice_get, is_some, nat_le}
use Rattle.std.specs.Option.{option_map, option_map_or}
use Rattle.std.specs.List.{count_by}
use Rattle.std.proofs.lemmas.Option.{slice_get-map}
use Rattle.std.proofs.lemmas.Bool.{cases_eq, le-leb, le-ltb}
use Rattle.std.proofs.lemmas.List.Sums.{sum_by-cons}
use Rattle.grid_types.specs.declared.owner.Owner.{Owner}
use Rattle.page_states.specs.declared.page_state.PageState.{PageState}
use Rattle.page_states.specs.declared.page_state.PageState.TheVariants.{Free, Claimed, Live}
use Rattle.page_states.specs.Counts.{once, once_at}
use Rattle.grid_types.specs.Owners.{same_owner}
use Rattle.page_states.specs.States.{shows, is_current_at}
use Rattle.page_states.specs.Effects.{with_end, with_newest}
use Rattle.page_states.specs.Laws.{Serves, Settled, with_content, FrontServes, PublicationServes}
use Rattle.page_states.proofs.Counting.{none_pass, at_some, at_set_other, count_set}
use Rattle.page_states.proofs.Endings.{same_owner_refl, same_owner_is}
use Rattle.page_states.proofs.Shown.{and_false, count_same, passes_at, set_same, map_same}
use Rattle.page_states.proofs.KeptPlaces.{claimed_still}

-- a settled page shows beyond the front what it shows there
beyond : (front at : ℕ) → front ≤ at → (o : Owner) (x : PageState) → ((w : Owner) (from : ℕ) → x ≡ Live w from None → from ≤ front) → ((w : Owner) (from to : ℕ) → x ≡ Live w from (Some to) → to ≤ front) → shows o at x ≡ shows o front x
beyond front at later o Free began over = refl
beyond front at later o (Claimed s) began over = refl
beyond front at later o (Live w from None) began over =
    let low : from ≤ front = began w from refl in
    let high : from ≤ at = omega arith in
    ap (λ (b : Bool). same_owner w o && b) (le-leb from at high ∙ sym (le-leb from front low))
beyond front at later o (Live w from (Some to)) began over =
    let low : to ≤ front = over w from to refl in
    let high : to ≤ at = omega arith in
    ap (λ (b : Bool). same_owner w o && (nat_le from at && b)) (le-ltb at to high)
    ∙ ap (λ (b : Bool). same_owner w o && b) (and_false (nat_le from at) ∙ sym (and_false (nat_le from front)))
    ∙ ap (λ (b : Bool). same_owner w o && (nat_le from front && b)) (sym (le-ltb front to low))

-- a test that tells two places of no page apart
each_same : (test other : PageState → Bool) (xs : List PageState) → ((p : ℕ) (x : PageState) → slice_get xs p ≡ Some x → test x ≡ other x) → (q : ℕ) → once_at test xs q ≡ once_at other xs q
each_same test other xs same q = by (slice_get xs q) refl
  where
    by : (m : Option PageState) → slice_get xs q ≡ m → option_map_or (once test) m 0 ≡ option_map_or (once other) m 0
    by None e = refl
    by (Some x) e = ap (λ (b : Bool). cond b 1 0) (same q x e)

count_each : (test other : PageState → Bool) (xs : List PageState) → ((p : ℕ) (x : PageState) → slice_get xs p ≡ Some x → test x ≡ other x) → count_by test xs ≡ count_by other xs
count_each test other [] same = refl
count_each test other (x ∷ xs) same =
    let first : once test x ≡ once other x = ap (λ (b : Bool). cond b 1 0) (same 0 x refl) in
    let rest : count_by test xs ≡ count_by other xs = count_each test other xs (λ p y has. same (suc p) y has) in
    sum_by-cons (once test) x xs ∙ (λ i. first i + rest i) ∙ sym (sum_by-cons (once other) x xs)

pub front_serves : FrontServes
front_serves content bytes front at states later settled served =
    let same : (o : Owner) (p : ℕ) (x : PageState) → slice_get states p ≡ Some x → shows o at x ≡ shows o front x =
    λ o p x has. beyond front at later o x (λ w from e. settled.began p w from (has ∙ ap (λ (z : PageState). Some z) e)) (λ w from to e. settled.ended_by p w from to (has ∙ ap (λ (z : PageState). Some z) e)) in
    record {
      one = λ o. count_each (shows o at) (shows o front) states (same o) ∙ served.one o;
      spelled = λ p o x has shown. served.spelled p o x has (sym (same o p x has) ∙ shown);
    }

-- another owner's page shows the same after an end
pub ended_of_other : (o owner : Owner) (at place : ℕ) → same_owner o owner ≡ false → (x : PageState) → shows o place (with_end owner at x) ≡ shows o place x
ended_of_other o owner at place apart Free = refl
ended_of_other o owner at place apart (Claimed s) = refl
ended_of_other o owner at place apart (Live w from (Some to)) = refl
ended_of_other o owner at place apart (Live w from None) = by (same_owner w owner) refl
  where
    unseen : same_owner w owner ≡ true → same_owner w o ≡ false
    unseen e = hide (same_owner w o) refl
      where
        hide : (b : Bool) → same_owner w o ≡ b → same_owner w o ≡ false
        hide false is = is
        hide true is =
            let no : true ≡ false = sym e ∙ ap (λ (z : Owner). same_owner z owner) (same_owner_is w o is) ∙ apart in
            absurd cc

    by : (b : Bool) → same_owner w owner ≡ b → shows o place (cond (same_owner w owner) (Live w from (Some at)) (Live w from None)) ≡ shows o place (Live w from None)
    by false e = ap (λ (b : Bool). shows o place (cond b (Live w from (Some at)) (Live w from None))) e
    by true e =
        ap (λ (b : Bool). shows o place (cond b (Live w from (Some at)) (Live w from None))) e
        ∙ ap (λ (b : Bool). b && is_current_at place (Live w from (Some at))) (unseen e)
        ∙ ap (λ (b : Bool). b && is_current_at place (Live w from None)) (sym (unseen e))

-- after its end the owner's own page is not shown at that place
pub own_unseen : (owner : Owner) (at : ℕ) (x : PageState) → ((w : Owner) (from to : ℕ) → x ≡ Live w from (Some to) → to ≤ at) → shows owner at (with_end owner at x) ≡ false
own_unseen owner at Free over = refl
own_unseen owner at (Claimed s) over = refl
own_unseen owner at (Live w from (Some to)) over =
    ap (λ (b : Bool). same_owner w owner && (nat_le from at && b)) (le-ltb at to (over w from to refl))
    ∙ ap (λ (b : Bool). same_owner w owner && b) (and_false (nat_le from at)) ∙ and_false (same_owner w owner)
own_unseen owner at (Live w from None) over = by (same_owner w owner) refl
  where
    by : (b : Bool) → same_owner w owner ≡ b → shows owner at (cond (same_owner w owner) (Live w from (Some at)) (Live w from None)) ≡ false
    by false e =
        ap (λ (b : Bool). shows owner at (cond b (Live w from (Some at)) (Live w from None))) e
        ∙ ap (λ (b : Bool). b && nat_le from at) e
    by true e =
        ap (λ (b : Bool). shows owner at (cond b (Live w from (Some at)) (Live w from None))) e
        ∙ ap (λ (b : Bool). same_owner w owner && (nat_le from at && b)) (le-ltb at at (omega arith))
        ∙ ap (λ (b : Bool). same_owner w owner && b) (and_false (nat_le from at)) ∙ and_false (same_owner w owner)

module _ (content : Owner → Option (List ℕ)) (bytes : ℕ → List ℕ) (page seat at : ℕ) (owner : Owner) (states : List PageState) (has : slice_get states page ≡ Some (Claimed seat)) (settled : Settled at states)
    (served : Serves content bytes at states) where
  abbrev pub new : List PageState
  new = with_newest page owner at states

  abbrev pub middle : List PageState
  middle = map (with_end owner at) states

  still : slice_get middle page ≡ Some (Claimed seat)
  still = claimed_still owner at page seat states has

  -- the new page shows its owner
  fresh_shown : shows owner at (Live owner at None) ≡ true
  fresh_shown = ap (λ (b : Bool). b && nat_le at at) (same_owner_refl owner) ∙ le-leb at at (omega arith)

  -- no other page shows it
  middle_unseen : (q : ℕ) → once_at (shows owner at) middle q ≡ 0
  middle_unseen q = ap (λ (m : Option PageState). option_map_or (once (shows owner at)) m 0) (slice_get-map (with_end owner at) states q) ∙ by (slice_get states q) refl
    where
      by : (m : Option PageState) → slice_get states q ≡ m → option_map_or (once (shows owner at)) (option_map (with_end owner at) m) 0 ≡ 0
      by None e = refl
      by (Some x) e = ap (λ (b : Bool). cond b 1 0) (own_unseen owner at x (λ w from to is. settled.ended_by q w from to (e ∙ ap (λ (z : PageState). Some z) is)))

  own_one : count_by (shows owner at) new ≡ 1
  own_one =
      let none : count_by (shows owner at) middle ≡ 0 = none_pass (shows owner at) middle middle_unseen in
      let sum : count_by (shows owner at) new + 0 ≡ count_by (shows owner at) middle + once (shows owner at) (Live owner at None) = count_set (shows owner at) middle page (Claimed seat) (Live owner at None) still in
      let one : once (shows owner at) (Live owner at None) ≡ 1 = ap (λ (b : Bool). cond b 1 0) fresh_shown in
      omega (arith, none, sum, one)

  -- each other owner is shown as before
  other_same : (o : Owner) → same_owner o owner ≡ false → (q : ℕ) → once_at (shows o at) new q ≡ once_at (shows o at) states q
  other_same o apart q =
      let hidden : same_owner owner o ≡ false = hide (same_owner owner o) refl in
      set_same (shows o at) middle page (Claimed seat) (Live owner at None) q still (ap (λ (b : Bool). b && nat_le at at) hidden)
      ∙ map_same (shows o at) (with_end owner at) states q (ended_of_other o owner at at apart)
    where
      hide : (b : Bool) → same_owner owner o ≡ b → same_owner owner o ≡ false
      hide false is = is
      hide true is =
          let no : true ≡ false = sym (same_owner_refl o) ∙ ap (λ (z : Owner). same_owner o z) (sym (same_owner_is owner o is)) ∙ apart in
          absurd cc

  new_one : (o : Owner) → count_by (shows o at) new ≡ once is_some (with_content content owner (Some (bytes page)) o)
  new_one o = by (same_owner o owner) refl
    where
      by : (b : Bool) → same_owner o owner ≡ b → count_by (shows o at) new ≡ once is_some (cond (same_owner o owner) (Some (bytes page)) (content o))
      by true e =
          ap (λ (z : Owner). count_by (shows z at) new) (same_owner_is o owner e) ∙ own_one ∙ ap (λ (b : Bool). once is_some (cond b (Some (bytes page)) (content o))) (sym e)
      by false e =
          count_same (shows o at) states new (other_same o e) ∙ served.one o ∙ ap (λ (b : Bool). once is_some (cond b (Some (bytes page)) (content o))) (sym e)

  new_spelled : (p : ℕ) (o : Owner) (x : PageState) → slice_get new p ≡ Some x → shows o at x ≡ true → with_content content owner (Some (bytes page)) o ≡ Some (bytes p)
  new_spelled p o x there shown = by (same_owner o owner) refl
    where
      one : once_at (shows o at) new p ≡ 1
      one = at_some (shows o at) new p x there ∙ ap (λ (b : Bool). cond b 1 0) shown

      own : same_owner o owner ≡ true → (p ≡ page) ⊎ (p ≢ page) → p ≡ page
      own e (inl is) = is
      own e (inr n) =
          let none : once_at (shows owner at) new p ≡ 0 = at_set_other (shows owner at) middle page p (Live owner at None) n ∙ middle_unseen p in
          let same : once_at (shows o at) new p ≡ once_at (shows owner at) new p = ap (λ (z : Owner). once_at (shows z at) new p) (same_owner_is o owner e) in
          absurd (omega (arith, none, same, one))

      by : (b : Bool) → same_owner o owner ≡ b → cond (same_owner o owner) (Some (bytes page)) (content o) ≡ Some (bytes p)
      by true e = ap (λ (b : Bool). cond b (Some (bytes page)) (content o)) e ∙ ap (λ (k : ℕ). Some (bytes k)) (sym (own e (cases_eq p page)))
      by false e =
          let was = passes_at (shows o at) states p (sym (other_same o e p) ∙ one) in
          ap (λ (b : Bool). cond b (Some (bytes page)) (content o)) e ∙ served.spelled p o was.0 was.1 was.2

pub publication_serves : PublicationServes
publication_serves content bytes page seat at owner states has settled served = record {
  one = new_one content bytes page seat at owner states has settled served;
  spelled = new_spelled content bytes page seat at owner states has settled served;
}
