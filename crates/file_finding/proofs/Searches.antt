-- What a search of a list finds, and what it means that it finds nothing.
use Rattle.std.proofs.Common.{◌≡◌, inl, inr, Bool, true, false, cond, List, [], ◌∷◌, refl, sym, ap, subst, ◌∙◌, true≢false}
use Rattle.std.specs.Prelude.{Some, None}
use Rattle.std.specs.List.{find}
use Rattle.std.proofs.lemmas.Option.{same_Some}
use Rattle.grid_model.proofs.Boxes.{some-not-none}
use Rattle.file_images.proofs.Elements.{Among, here, there, first_or}

-- what a search finds is an element that passes
pub found_passes : {X : Type 0} (test : X → Bool) (xs : List X) (x : X) → find test xs ≡ Some x → Among x xs × (test x ≡ true)
found_passes test [] x is = absurd (some-not-none x (sym is))
found_passes {X} test (y ∷ ys) x is = by (test y) refl is (found_passes test ys x)
  where
    by : (b : Bool) → test y ≡ b → cond b (Some y) (find test ys) ≡ Some x → (find test ys ≡ Some x → Among x ys × (test x ≡ true)) → Among x (y ∷ ys) × (test x ≡ true)
    by true e same others = let at : y ≡ x = same_Some y x same in (subst (λ (z : X). Among z (y ∷ ys)) at here, ap test (sym at) ∙ e)
    by false e rest others = let more = others rest in (there more.0, more.1)

-- where a search finds nothing, no element passes
pub none_passes : {X : Type 0} (test : X → Bool) (xs : List X) (x : X) → find test xs ≡ None → Among x xs → test x ≡ true → ⊥
none_passes test [] x none m is = elim m [ ]
none_passes {X} test (y ∷ ys) x none m is = by (test y) refl none (λ rest more. none_passes test ys x rest more is)
  where
    by : (b : Bool) → test y ≡ b → cond b (Some y) (find test ys) ≡ None → (find test ys ≡ None → Among x ys → ⊥) → ⊥
    by true e some others = some-not-none y some
    by false e rest others = elim (first_or y x ys m) [ inl same ↦ true≢false (sym is ∙ ap test same ∙ e) | inr more ↦ others rest more ]
