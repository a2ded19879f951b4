-- Tests of two lists, pair by pair.
use Rattle.std.proofs.Common.{◌≡◌, ◌<◌, ℕ, zero, suc, Bool, true, false, ◌&&◌, List, [], ◌∷◌, length, get_or, refl, ap, ◌∙◌, arith}
use lib.Pointwise.{pointwise}
use Rattle.std.specs.List.{list_all}

-- an item that is there is the same whatever stands for one that is not
pub any-default : {A : Type 0} (xs : List A) (i : ℕ) (d e : A) → i < length xs → get_or xs i d ≡ get_or xs i e
any-default [] i d e l = absurd (omega (arith, l))
any-default (x ∷ xs) zero d e l = refl
any-default (x ∷ xs) (suc i) d e l = any-default xs i d e (omega (arith, l))

-- each pair passes
pub each-pair : {A B : Type 0} (E : A → B → Bool) (xs : List A) (ys : List B) → length xs ≡ length ys
    → ((i : ℕ) (x : A) (y : B) → i < length xs → E (get_or xs i x) (get_or ys i y) ≡ true) → pointwise E xs ys ≡ true
each-pair E [] [] l h = refl
each-pair E [] (y ∷ ys) l h = absurd (omega (arith, l))
each-pair E (x ∷ xs) [] l h = absurd (omega (arith, l))
each-pair E (x ∷ xs) (y ∷ ys) l h =
    ap (λ b. b && pointwise E xs ys) (h zero x y (omega arith))
    ∙ each-pair E xs ys (omega (arith, l)) (λ i x y p. h (suc i) x y (omega (arith, p)))

-- a test fails with its last part
pub fails-last : (t u : Bool) → u ≡ false → (t && u) ≡ false
fails-last true u e = e
fails-last false u e = refl

-- one pair fails
pub one-pair : {A B : Type 0} (E : A → B → Bool) (xs : List A) (ys : List B) (i : ℕ) (x : A) (y : B) → i < length xs → E (get_or xs i x) (get_or ys i y) ≡ false → pointwise E xs ys ≡ false
one-pair E [] ys i x y l h = absurd (omega (arith, l))
one-pair E (a ∷ xs) [] i x y l h = refl
one-pair E (a ∷ xs) (b ∷ ys) zero x y l h = ap (λ t. t && pointwise E xs ys) h
one-pair E (a ∷ xs) (b ∷ ys) (suc i) x y l h = fails-last (E a b) (pointwise E xs ys) (one-pair E xs ys i x y (omega (arith, l)) h)

-- each item passes
pub each-item : {A : Type 0} (E : A → Bool) (xs : List A) → ((i : ℕ) (x : A) → i < length xs → E (get_or xs i x) ≡ true) → list_all E xs ≡ true
each-item E [] h = refl
each-item E (x ∷ xs) h = ap (λ b. b && list_all E xs) (h zero x (omega arith)) ∙ each-item E xs (λ i x p. h (suc i) x (omega (arith, p)))

-- one item fails
pub one-item : {A : Type 0} (E : A → Bool) (xs : List A) (i : ℕ) (x : A) → i < length xs → E (get_or xs i x) ≡ false → list_all E xs ≡ false
one-item E [] i x l h = absurd (omega (arith, l))
one-item E (a ∷ xs) zero x l h = ap (λ t. t && list_all E xs) h
one-item E (a ∷ xs) (suc i) x l h = fails-last (E a) (list_all E xs) (one-item E xs i x (omega (arith, l)) h)
