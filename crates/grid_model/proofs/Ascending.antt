-- Entries in the order of their keys: each of them is found.
use Rattle.std.proofs.Common.{◌≡◌, Bool, true, false, cond, T, List, [], ◌∷◌, All, Some, None, refl, sym, ap, ◌∙◌, is_eq, is_lt}
use Rattle.std.proofs.lemmas.List.Elements.{All-nil, All-cons}
use Rattle.std.specs.Ordering.{eq_by_cmp}
use Rattle.std.specs.declared.cmp.Ordering.{Ordering}
use Rattle.std.specs.Cmp.{IsTotalOrder, tied_itself}
use Rattle.std.specs.FinMap.{IsAntisymmetric}
use Rattle.std.specs.FinMap.Entries.{find, is_sorted, below_all}
use Rattle.grid_model.proofs.Boxes.{some-not-none}
use Rattle.grid_model.proofs.TableLaws.{equal_order}
use Rattle.grid_model.proofs.Truths.{part-one, part-two, less-not-equal}

module _ {A X : Type 0} (R : A → A → Ordering) where
  -- a key below those of all entries is none of theirs
  pub none-below : (k : A) (es : List (A × X)) → T (below_all R k es) → find R k es ≡ None
  none-below k [] h = refl
  none-below k (e ∷ es) h =
      ap (λ b. cond b (Some e.1) (find R k es)) (less-not-equal (R k e.0) (part-one (is_lt (R k e.0)) (below_all R k es) h))
      ∙ none-below k es (part-two (is_lt (R k e.0)) (below_all R k es) h)

  module _ (total : IsTotalOrder R) (one : IsAntisymmetric R) where
    -- the first entry is found
    pub first-found : (e : A × X) (es : List (A × X)) → find R e.0 (e ∷ es) ≡ Some e.1
    first-found e es = ap (λ o. cond (is_eq o) (Some e.1) (find R e.0 es)) (tied_itself total e.0)

    -- what is found behind the first entry is found
    pub behind-found : (e : A × X) (es : List (A × X)) (k : A) (x : X) → T (below_all R e.0 es) → find R k es ≡ Some x → find R k (e ∷ es) ≡ Some x
    behind-found e es k x below found = by (eq_by_cmp R k e.0) refl
      where
        by : (b : Bool) → eq_by_cmp R k e.0 ≡ b → cond b (Some e.1) (find R k es) ≡ Some x
        by true same = absurd (some-not-none x (sym found ∙ ap (λ q. find R q es) (one k e.0 (equal_order (R k e.0) same)) ∙ none-below e.0 es below))
        by false differ = found

    -- each entry is found under its key
    pub each-found : (es : List (A × X)) → T (is_sorted R es) → All (λ e. find R e.0 es ≡ Some e.1) es
    each-found [] s = All-nil (λ (e : A × X). find R e.0 [] ≡ Some e.1)
    each-found (e ∷ es) s =
        let below = part-one (below_all R e.0 es) (is_sorted R es) s in
        let rest = each-found es (part-two (below_all R e.0 es) (is_sorted R es) s) in
        All-cons (λ (x : A × X). find R x.0 (e ∷ es) ≡ Some x.1) e es (first-found e es) (λ i d l. behind-found e es _ _ below (rest i d l))
