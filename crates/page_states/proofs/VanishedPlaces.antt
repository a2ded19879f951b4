-- The place from which an owner has no page.
use Rattle.std.proofs.Common.{◌≡◌, ℕ, zero, suc, List, Bool, true, false, cond, Option, Some, None, refl, sym, ◌∙◌, ap, map, replicate, arith}
use Rattle.std.specs.Prelude.{slice_get, is_some}
use Rattle.std.specs.Option.{option_map, option_map_or}
use Rattle.std.specs.List.{count_by}
use Rattle.std.proofs.lemmas.Option.{slice_get-map}
use Rattle.grid_types.specs.declared.owner.Owner.{Owner}
use Rattle.grid_types.specs.Owners.{same_owner}
use Rattle.page_states.specs.declared.page_state.PageState.{PageState}
use Rattle.page_states.specs.declared.page_state.PageState.TheVariants.{Free}
use Rattle.page_states.specs.Counts.{once, once_at}
use Rattle.page_states.specs.States.{shows}
use Rattle.page_states.specs.Effects.{with_end}
use Rattle.page_states.specs.Laws.{Serves, Settled, with_content, VanishingServes, StartServes}
use Rattle.page_states.proofs.Counting.{none_pass, at_some}
use Rattle.page_states.proofs.Endings.{same_owner_is}
use Rattle.page_states.proofs.Starts.{all_free}
use Rattle.page_states.proofs.Shown.{count_same, passes_at, map_same}
use Rattle.page_states.proofs.ServedPlaces.{own_unseen, ended_of_other}

module _ (content : Owner → Option (List ℕ)) (bytes : ℕ → List ℕ) (at : ℕ) (owner : Owner) (states : List PageState) (settled : Settled at states) (served : Serves content bytes at states) where
  abbrev pub after : List PageState
  after = map (with_end owner at) states

  -- no page shows the owner
  own_none : (q : ℕ) → once_at (shows owner at) after q ≡ 0
  own_none q = ap (λ (m : Option PageState). option_map_or (once (shows owner at)) m 0) (slice_get-map (with_end owner at) states q) ∙ by (slice_get states q) refl
    where
      by : (m : Option PageState) → slice_get states q ≡ m → option_map_or (once (shows owner at)) (option_map (with_end owner at) m) 0 ≡ 0
      by None e = refl
      by (Some x) e = ap (λ (b : Bool). cond b 1 0) (own_unseen owner at x (λ w from to is. settled.ended_by q w from to (e ∙ ap (λ (z : PageState). Some z) is)))

  other_same : (o : Owner) → same_owner o owner ≡ false → (q : ℕ) → once_at (shows o at) after q ≡ once_at (shows o at) states q
  other_same o apart q = map_same (shows o at) (with_end owner at) states q (ended_of_other o owner at at apart)

  after_one : (o : Owner) → count_by (shows o at) after ≡ once is_some (with_content content owner None o)
  after_one o = by (same_owner o owner) refl
    where
      by : (b : Bool) → same_owner o owner ≡ b → count_by (shows o at) after ≡ once is_some (cond (same_owner o owner) None (content o))
      by true e =
          ap (λ (z : Owner). count_by (shows z at) after) (same_owner_is o owner e) ∙ none_pass (shows owner at) after own_none ∙ ap (λ (b : Bool). once is_some (cond b None (content o))) (sym e)
      by false e =
          count_same (shows o at) states after (other_same o e) ∙ served.one o ∙ ap (λ (b : Bool). once is_some (cond b None (content o))) (sym e)

  after_spelled : (p : ℕ) (o : Owner) (x : PageState) → slice_get after p ≡ Some x → shows o at x ≡ true → with_content content owner None o ≡ Some (bytes p)
  after_spelled p o x there shown = by (same_owner o owner) refl
    where
      one : once_at (shows o at) after p ≡ 1
      one = at_some (shows o at) after p x there ∙ ap (λ (b : Bool). cond b 1 0) shown

      by : (b : Bool) → same_owner o owner ≡ b → cond (same_owner o owner) None (content o) ≡ Some (bytes p)
      by true e =
          let none : once_at (shows owner at) after p ≡ 0 = own_none p in
          let same : once_at (shows o at) after p ≡ once_at (shows owner at) after p = ap (λ (z : Owner). once_at (shows z at) after p) (same_owner_is o owner e) in
          absurd (omega (arith, none, same, one))
      by false e =
          let was = passes_at (shows o at) states p (sym (other_same o e p) ∙ one) in
          ap (λ (b : Bool). cond b None (content o)) e ∙ served.spelled p o was.0 was.1 was.2

pub vanishing_serves : VanishingServes
vanishing_serves content bytes at owner states settled served = record {
  one = after_one content bytes at owner states settled served;
  spelled = after_spelled content bytes at owner states settled served;
}

-- free pages show no owner
unseen : (o : Owner) (place n q : ℕ) → once_at (shows o place) (replicate n Free) q ≡ 0
unseen o place zero q = refl
unseen o place (suc n) zero = refl
unseen o place (suc n) (suc q) = unseen o place n q

pub start_serves : StartServes
start_serves bytes pages place = record {
  one = λ o. none_pass (shows o place) (replicate pages Free) (unseen o place pages);
  spelled = λ p o x has shown.
      let no : false ≡ true = sym (ap (shows o place) (all_free pages p x has)) ∙ shown in
      absurd cc;
}
