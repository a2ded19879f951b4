-- Numbers none of which stands twice in a list.
use Rattle.std.proofs.Common.{◌≡◌, ◌≤◌, ◌==◌, ◌||◌, ◌⊎◌, inl, inr, ℕ, suc, Bool, true, false, cond, List, [], ◌∷◌, length, filter, map, Contains, IsTrue, refl, sym, ap, ◌∙◌, subst, arith, true≢false, eqb-true, eq-eqb}
use Rattle.std.proofs.lemmas.Bool.{or_left, or_right, or_cases}
use Rattle.grid_model.specs.Lists.{is_among, AreDistinct}
use Rattle.grid_model.proofs.Members.{contains-first, contains-later, contains-split, contains-none}
use Rattle.grid_model.proofs.Counts.{few-among}

-- a number that is not among some is not the first of them, nor among the others
out-first : (m n : ℕ) (ns : List ℕ) → is_among (m ∷ ns) n ≡ false → ((m == n) ≡ false) × (is_among ns n ≡ false)
out-first m n ns e = by (m == n) (is_among ns n) e
  where
    by : (a b : Bool) → (a || b) ≡ false → (a ≡ false) × (b ≡ false)
    by true b h = absurd (true≢false h)
    by false b h = (refl, h)

-- a number that is not among some passes as none of them
none-passes : (n : ℕ) (ns : List ℕ) → is_among ns n ≡ false → length (filter (λ m. m == n) ns) ≡ 0
none-passes n [] e = refl
none-passes n (m ∷ ns) e =
    let both = out-first m n ns e in
    ap (λ b. length (cond b (m ∷ filter (λ k. k == n) ns) (filter (λ k. k == n) ns))) both.0 ∙ none-passes n ns both.1

-- one more number that is not among them stands among them once
pub distinct-more : (n : ℕ) (ns : List ℕ) → is_among ns n ≡ false → AreDistinct ns → AreDistinct (n ∷ ns)
distinct-more n ns out h = λ k. by k (n == k) refl
  where
    by : (k : ℕ) (b : Bool) → (n == k) ≡ b → length (cond b (n ∷ filter (λ m. m == k) ns) (filter (λ m. m == k) ns)) ≤ 1
    by k true e = let none = none-passes k ns (ap (is_among ns) (sym (eqb-true n k e)) ∙ out) in omega (arith, none)
    by k false e = h k

-- a number among one more is that one, or among the others
pub among-split : (n : ℕ) (ns : List ℕ) (k : ℕ) → IsTrue (is_among (n ∷ ns) k) → (n ≡ k) ⊎ IsTrue (is_among ns k)
among-split n ns k h = by (or_cases (n == k) (is_among ns k) h)
  where
    by : ((n == k) ≡ true) ⊎ (is_among ns k ≡ true) → (n ≡ k) ⊎ IsTrue (is_among ns k)
    by (inl e) = inl (eqb-true n k e)
    by (inr e) = inr e

pub among-first : (n : ℕ) (ns : List ℕ) → IsTrue (is_among (n ∷ ns) n)
among-first n ns = or_left (n == n) (is_among ns n) (eq-eqb n n refl)

pub among-later : (n : ℕ) (ns : List ℕ) (k : ℕ) → IsTrue (is_among ns k) → IsTrue (is_among (n ∷ ns) k)
among-later n ns k h = or_right (n == k) (is_among ns k) h

-- a number among those of some items is that of one of them
pub among-numbers : {X : Type 0} (f : X → ℕ) (xs : List X) (n : ℕ) → IsTrue (is_among (map f xs) n) → (x : X) × Contains xs x × (f x ≡ n)
among-numbers f [] n h = absurd (true≢false (sym h))
among-numbers f (x ∷ xs) n h = by (among-split (f x) (map f xs) n h) (among-numbers f xs n)
  where
    by : (f x ≡ n) ⊎ IsTrue (is_among (map f xs) n) → (IsTrue (is_among (map f xs) n) → (y : _) × Contains xs y × (f y ≡ n)) → (y : _) × Contains (x ∷ xs) y × (f y ≡ n)
    by (inl e) rest = (x, contains-first x xs, e)
    by (inr g) rest = let r = rest g in (r.0, contains-later x xs r.0 r.1, r.2)

-- the number of an item is among those of the items
pub number-among : {X : Type 0} (f : X → ℕ) (xs : List X) (x : X) → Contains xs x → IsTrue (is_among (map f xs) (f x))
number-among f [] x h = contains-none x h
number-among {X} f (y ∷ xs) x h = by (contains-split y xs x h) (number-among f xs x)
  where
    by : (y ≡ x) ⊎ Contains xs x → (Contains xs x → IsTrue (is_among (map f xs) (f x))) → IsTrue (is_among (map f (y ∷ xs)) (f x))
    by (inl e) rest = subst (λ (z : X). IsTrue (is_among (f y ∷ map f xs) (f z))) e (among-first (f y) (map f xs))
    by (inr g) rest = among-later (f y) (map f xs) (f x) (rest g)

all-pass : (p : ℕ → Bool) (ns : List ℕ) → ((n : ℕ) → IsTrue (is_among ns n) → p n ≡ true) → length (filter p ns) ≡ length ns
all-pass p [] h = refl
all-pass p (n ∷ ns) h =
    ap (λ b. length (cond b (n ∷ filter p ns) (filter p ns))) (h n (among-first n ns)) ∙ ap suc (all-pass p ns (λ k g. h k (among-later n ns k g)))

-- numbers of which none stands twice and each is among others are no more than these
pub no-more : (xs ys : List ℕ) → AreDistinct xs → ((n : ℕ) → IsTrue (is_among xs n) → IsTrue (is_among ys n)) → length xs ≤ length ys
no-more xs ys d h = omega (arith, few-among ys xs d, all-pass (is_among ys) xs h)
