-- What is served, with another content or other bytes that are the same.
use Rattle.std.proofs.Common.{◌≡◌, ℕ, true, List, Option, Some, is_some, sym, ap, ◌∙◌}
use Rattle.std.specs.Prelude.{slice_get}
use Rattle.grid_types.specs.declared.owner.Owner.{Owner}
use Rattle.page_states.specs.declared.page_state.PageState.{PageState}
use Rattle.page_states.specs.Counts.{once}
use Rattle.page_states.specs.States.{shows}
use Rattle.page_states.specs.Laws.{Serves}

module _ (content : Owner → Option (List ℕ)) (bytes : ℕ → List ℕ) (place : ℕ) (states : List PageState) (served : Serves content bytes place states) where
  -- other bytes, the same on each page that is shown
  pub other-bytes : (other : ℕ → List ℕ) → ((p : ℕ) (o : Owner) (x : PageState) → slice_get states p ≡ Some x → shows o place x ≡ true → other p ≡ bytes p) → Serves content other place states
  other-bytes other same = record {
    one = served.one;
    spelled = λ p o x has shown. served.spelled p o x has shown ∙ ap (λ (b : List ℕ). Some b) (sym (same p o x has shown));
  }

  -- another content, the same of each owner
  pub other-content : (other : Owner → Option (List ℕ)) → ((o : Owner) → other o ≡ content o) → Serves other bytes place states
  other-content other same = record {
    one = λ o. served.one o ∙ ap (λ (m : Option (List ℕ)). once is_some m) (sym (same o));
    spelled = λ p o x has shown. same o ∙ served.spelled p o x has shown;
  }
