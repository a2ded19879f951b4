-- From a place on batches join in one way.
use Rattle.std.proofs.Common.{◌≡◌, ◌+◌, ℕ, List, [], ◌∷◌, length, refl, sym, subst, ◌∙◌}
use Rattle.grid_model.specs.Spellings.{LoggedBatch}
use Rattle.grid_model.specs.Images.{Join}
use Rattle.grid_model.proofs.Boxes.{one-value, some-not-none}

-- from a place on batches join up to one place, and these are the same ones
pub one_join : {K : ℕ} (batches : List (LoggedBatch K)) (place n m : ℕ) (xs ys : List (LoggedBatch K)) → Join batches place xs n → Join batches place ys m → (n ≡ m) × (xs ≡ ys)
one_join batches place n m [] [] x y = (x.0 ∙ sym y.0, refl)
one_join batches place n m [] (b ∷ ys) x y = absurd (some-not-none b (sym y.0 ∙ x.1))
one_join batches place n m (a ∷ xs) [] x y = absurd (some-not-none a (sym x.0 ∙ y.1))
one_join batches place n m (a ∷ xs) (b ∷ ys) x y =
    let same : a ≡ b = one-value a b (sym x.0 ∙ y.0) in
    let rest = one_join batches (place + length a.updates) n m xs ys x.1 (subst (λ c. Join batches (place + length c.updates) ys m) (sym same) y.1) in
    (rest.0, λ j. same j ∷ rest.1 j)
