-- When an attribute may have one boundary more.
use Rattle.std.proofs.Common.{◌≡◌, ◌<◌, ◌≤◌, ◌+◌, ◌*◌, ◌⊎◌, inl, inr, ℕ, zero, suc, false, List, [], ◌∷◌, length, slice_index, slice_set, drop, nat_le, sym, ap, arith}
use Rattle.std.proofs.Math.Nat.{one-le-mul, le-mul_of_pos_right}
use Rattle.std.proofs.lemmas.Bool.{lt-leb, cases_eq}
use Rattle.std.proofs.lemmas.List.{length-map, get_or-map, get_or-set_same, get_or-set_other}
use Rattle.grid_model.specs.Lists.{product}
use Rattle.grid_model.specs.Scales.{intervals}
use Rattle.grid_model.specs.Cells.{dims}

product-positive : (ns : List ℕ) → ((a : ℕ) → a < length ns → 1 ≤ slice_index ns a) → 1 ≤ product ns
product-positive [] h = omega arith
product-positive (n ∷ ns) h = one-le-mul (h zero (omega arith)) (product-positive ns (λ a p. h (suc a) (omega (arith, p))))

rest-positive : (ns : List ℕ) (k : ℕ) → ((a : ℕ) → a < length ns → 1 ≤ slice_index ns a) → 1 ≤ product (drop k ns)
rest-positive ns zero h = product-positive ns h
rest-positive [] (suc k) h = omega arith
rest-positive (n ∷ ns) (suc k) h = rest-positive ns k (λ a p. h (suc a) (omega (arith, p)))

-- a product is above a limit where one of its parts is, since no factor is 0
pub part-above : (ns : List ℕ) (c k limit : ℕ) → ((a : ℕ) → a < length ns → 1 ≤ slice_index ns a) → limit < c → c * product (drop k ns) ≡ product ns → false ≡ nat_le (product ns) limit
part-above ns c k limit h p e = sym (lt-leb (product ns) limit (omega (arith, p, e, le-mul_of_pos_right c (positive (product (drop k ns)) (rest-positive ns k h)))))
  where
    positive : (r : ℕ) → 1 ≤ r → 0 < r
    positive r p = omega (arith, p)

-- each attribute has an interval, also with one more boundary in one of them
pub each-positive : (scales : List (List ℕ)) (a n k : ℕ) → k < length scales → 1 ≤ slice_index (slice_set (dims scales) a (n + 2)) k
each-positive scales a n k p = by (cases_eq k a)
  where
    inside : k < length (dims scales)
    inside = omega (arith, p, length-map scales intervals)

    by : (k ≡ a) ⊎ (k ≡ a → ⊥) → 1 ≤ slice_index (slice_set (dims scales) a (n + 2)) k
    by (inl e) = omega (arith, ap (slice_index (slice_set (dims scales) a (n + 2))) e, get_or-set_same (dims scales) a (n + 2) 0 (omega (arith, e, inside)))
    by (inr e) = omega (arith, get_or-set_other (dims scales) a k (n + 2) 0 e, get_or-map intervals scales k [] 0 p)
