-- The numbers of intervals with one more in an attribute.
use Rattle.std.proofs.Common.{◌≡◌, ◌<◌, ◌≤◌, ◌+◌, ◌*◌, ◌/◌, ℕ, zero, suc, List, [], ◌∷◌, length, slice_index, slice_set, refl, sym, ap, ◌∙◌, arith, IsTrue, false}
use Rattle.std.proofs.Math.Nat.{mul_assoc, mul_comm, mul-div_cancel_left}
use Rattle.std.proofs.lemmas.List.{map-set, get_or-map}
use Rattle.grid_model.specs.Lists.{product, is_among}
use Rattle.grid_model.specs.Scales.{scale_of, is_scale, intervals, refined, refined_at}
use Rattle.grid_model.specs.Cells.{dims}
use Rattle.grid_model.proofs.ScaleLaws.{refined-longer}
use Rattle.directory_changes.specs.Changes.{grown}

-- the product without the number of an attribute
without : List ℕ → ℕ → ℕ
without [] a = 1
without (n ∷ ns) zero = product ns
without (n ∷ ns) (suc a) = n * without ns a

moved : (n x y : ℕ) → n * (x * y) ≡ x * (n * y)
moved n x y = sym (mul_assoc n x y) ∙ ap (λ z. z * y) (mul_comm n x) ∙ mul_assoc x n y

of-one : (ns : List ℕ) (a : ℕ) → a < length ns → product ns ≡ slice_index ns a * without ns a
unfolding without
of-one [] a p = absurd (omega (arith, p))
of-one (n ∷ ns) zero p = refl
of-one (n ∷ ns) (suc a) p = ap (λ x. n * x) (of-one ns a (omega (arith, p))) ∙ moved n (slice_index ns a) (without ns a)

of-set : (ns : List ℕ) (a x : ℕ) → a < length ns → product (slice_set ns a x) ≡ x * without ns a
unfolding without
of-set [] a x p = absurd (omega (arith, p))
of-set (n ∷ ns) zero x p = refl
of-set (n ∷ ns) (suc a) x p = ap (λ y. n * y) (of-set ns a x (omega (arith, p))) ∙ moved n x (without ns a)

-- how many cells there are with one more interval
pub cells-grown : (ns : List ℕ) (a : ℕ) → a < length ns → 1 ≤ slice_index ns a → product ns / slice_index ns a * (slice_index ns a + 1) ≡ product (grown ns a)
cells-grown ns a p some =
    let rest : product ns / slice_index ns a ≡ without ns a = ap (λ x. x / slice_index ns a) (of-one ns a p) ∙ mul-div_cancel_left (without ns a) (omega (arith, some)) in
    ap (λ x. x * (slice_index ns a + 1)) rest ∙ mul_comm (without ns a) (slice_index ns a + 1) ∙ sym (of-set ns a (slice_index ns a + 1) p)

-- a fresh boundary is one interval more
pub dims-refined : (scales : List (List ℕ)) (a v : ℕ) → a < length scales → IsTrue (is_scale (scale_of scales a)) → is_among (scale_of scales a) v ≡ false → dims (refined_at scales a v) ≡ grown (dims scales) a
dims-refined scales a v p lawful fresh =
    let there : slice_index (dims scales) a ≡ intervals (scale_of scales a) = get_or-map intervals scales a [] 0 p in
    let longer : intervals (refined (scale_of scales a) v) ≡ slice_index (dims scales) a + 1 = omega (arith, refined-longer v 1 (scale_of scales a) lawful fresh, there) in
    map-set intervals scales a (refined (scale_of scales a) v) ∙ ap (slice_set (dims scales) a) longer
