-- What a list contains.
use Rattle.std.proofs.Common.{◌≡◌, ◌<◌, ◌≤◌, ◌+◌, ◌-◌, ◌==◌, ◌⊎◌, inl, inr, ℕ, zero, suc, Bool, true, false, cond, List, [], ◌∷◌, length, get_or, map, filter, flat_map, Contains, refl, sym, ap, ◌∙◌, subst, arith, true≢false}
use Rattle.std.specs.List.{range_with_len}
use Rattle.std.proofs.lemmas.Bool.{eqb-true, eq-eqb, or_cases, or_left, or_right}
use Rattle.std.proofs.lemmas.List.Elements.{Contains-append_left, Contains-append_right, Contains-append_cases}
use Rattle.std.proofs.lemmas.List.FromFn.{get_or-range_with_len, length-range_with_len}
use Rattle.grid_model.specs.Lists.{is_among}

module _ {X : Type 0} where
  -- the first item
  pub contains-first : (x : X) (xs : List X) → Contains (x ∷ xs) x
  contains-first x xs = (0, omega arith, refl)

  -- an item behind the first
  pub contains-later : (y : X) (xs : List X) (x : X) → Contains xs x → Contains (y ∷ xs) x
  contains-later y xs x h = (suc h.0, omega (arith, h.1), h.2)

  split-at : (y : X) (xs : List X) (x : X) (k : ℕ) → k < length (y ∷ xs) → get_or (y ∷ xs) k x ≡ x → (y ≡ x) ⊎ Contains xs x
  split-at y xs x zero p e = inl e
  split-at y xs x (suc k) p e = inr (k, omega (arith, p), e)

  -- an item is the first or one behind it
  pub contains-split : (y : X) (xs : List X) (x : X) → Contains (y ∷ xs) x → (y ≡ x) ⊎ Contains xs x
  contains-split y xs x h = split-at y xs x h.0 h.1 h.2

  -- no item is in the empty list
  pub contains-none : {A : Type 0} (x : X) → Contains [] x → A
  contains-none x h = absurd (omega (arith, h.1))

module _ {X : Type 0} (p : X → Bool) where
  kept-behind : (t : Bool) (y : X) (xs : List X) (x : X) → Contains xs x → Contains (cond t (y ∷ xs) xs) x
  kept-behind true y xs x h = contains-later y xs x h
  kept-behind false y xs x h = h

  -- an item that passes is kept
  pub contains-filter : (xs : List X) (x : X) → Contains xs x → p x ≡ true → Contains (filter p xs) x
  contains-filter [] x h e = contains-none x h
  contains-filter (y ∷ ys) x h e = by (contains-split y ys x h) (λ g. contains-filter ys x g e)
    where
      by : (y ≡ x) ⊎ Contains ys x → (Contains ys x → Contains (filter p ys) x) → Contains (filter p (y ∷ ys)) x
      by (inl s) rest = subst (λ (t : Bool). Contains (cond t (y ∷ filter p ys) (filter p ys)) x) (sym (ap p s ∙ e)) (subst (λ (z : X). Contains (z ∷ filter p ys) x) (sym s) (contains-first x (filter p ys)))
      by (inr g) rest = kept-behind (p y) y (filter p ys) x (rest g)

  -- an item that is kept passes, and was there
  pub contains-from-filter : (xs : List X) (x : X) → Contains (filter p xs) x → Contains xs x × (p x ≡ true)
  contains-from-filter [] x h = contains-none x h
  contains-from-filter (y ∷ ys) x h = by (p y) refl h (contains-from-filter ys x)
    where
      behind : Contains ys x × (p x ≡ true) → Contains (y ∷ ys) x × (p x ≡ true)
      behind g = (contains-later y ys x g.0, g.1)

      first : p y ≡ true → (y ≡ x) ⊎ Contains (filter p ys) x → (Contains (filter p ys) x → Contains ys x × (p x ≡ true)) → Contains (y ∷ ys) x × (p x ≡ true)
      first e (inl s) rest = (subst (λ (z : X). Contains (z ∷ ys) x) (sym s) (contains-first x ys), ap p (sym s) ∙ e)
      first e (inr g) rest = behind (rest g)

      by : (t : Bool) → p y ≡ t → Contains (cond t (y ∷ filter p ys) (filter p ys)) x → (Contains (filter p ys) x → Contains ys x × (p x ≡ true)) → Contains (y ∷ ys) x × (p x ≡ true)
      by true e g rest = first e (contains-split y (filter p ys) x g) rest
      by false e g rest = behind (rest g)

module _ {X Y : Type 0} (f : X → Y) where
  -- the image of an item is among the images
  pub contains-map : (xs : List X) (x : X) → Contains xs x → Contains (map f xs) (f x)
  contains-map [] x h = contains-none x h
  contains-map (y ∷ ys) x h = by (contains-split y ys x h) (contains-map ys x)
    where
      by : (y ≡ x) ⊎ Contains ys x → (Contains ys x → Contains (map f ys) (f x)) → Contains (map f (y ∷ ys)) (f x)
      by (inl s) rest = subst (λ (z : X). Contains (f z ∷ map f ys) (f x)) (sym s) (contains-first (f x) (map f ys))
      by (inr g) rest = contains-later (f y) (map f ys) (f x) (rest g)

  -- each of the images is one of an item
  pub contains-from-map : (xs : List X) (z : Y) → Contains (map f xs) z → (x : X) × Contains xs x × (f x ≡ z)
  contains-from-map [] z h = contains-none z h
  contains-from-map (y ∷ ys) z h = by (contains-split (f y) (map f ys) z h) (contains-from-map ys z)
    where
      by : (f y ≡ z) ⊎ Contains (map f ys) z → (Contains (map f ys) z → (x : X) × Contains ys x × (f x ≡ z)) → (x : X) × Contains (y ∷ ys) x × (f x ≡ z)
      by (inl s) rest = (y, contains-first y ys, s)
      by (inr g) rest = ((rest g).0, contains-later y ys (rest g).0 (rest g).1, (rest g).2)

module _ {X Y : Type 0} (f : X → List Y) where
  -- what the list of an item contains is in all lists one behind the other
  pub contains-flat : (xs : List X) (x : X) (z : Y) → Contains xs x → Contains (f x) z → Contains (flat_map f xs) z
  contains-flat [] x z h g = contains-none x h
  contains-flat (y ∷ ys) x z h g = by (contains-split y ys x h) (λ k. contains-flat ys x z k g)
    where
      by : (y ≡ x) ⊎ Contains ys x → (Contains ys x → Contains (flat_map f ys) z) → Contains (flat_map f (y ∷ ys)) z
      by (inl s) rest = Contains-append_left (f y) (flat_map f ys) z (subst (λ (w : X). Contains (f w) z) (sym s) g)
      by (inr k) rest = Contains-append_right (f y) (flat_map f ys) z (rest k)

  -- what they contain is in the list of an item
  pub contains-from-flat : (xs : List X) (z : Y) → Contains (flat_map f xs) z → (x : X) × Contains xs x × Contains (f x) z
  contains-from-flat [] z h = contains-none z h
  contains-from-flat (y ∷ ys) z h = by (Contains-append_cases (f y) (flat_map f ys) z h) (contains-from-flat ys z)
    where
      by : Contains (f y) z ⊎ Contains (flat_map f ys) z → (Contains (flat_map f ys) z → (x : X) × Contains ys x × Contains (f x) z) → (x : X) × Contains (y ∷ ys) x × Contains (f x) z
      by (inl g) rest = (y, contains-first y ys, g)
      by (inr g) rest = ((rest g).0, contains-later y ys (rest g).0 (rest g).1, (rest g).2)

-- a range has the numbers from its begin to below its end
pub contains-range : (a n i : ℕ) → a ≤ i → i < a + n → Contains (range_with_len a n) i
contains-range a n i p q = (i - a, omega (arith, p, q, length-range_with_len a n), get_or-range_with_len a n (i - a) i (omega (arith, p, q)) ∙ omega (arith, p))

-- and no others
pub contains-from-range : (a n i : ℕ) → Contains (range_with_len a n) i → (a ≤ i) × (i < a + n)
contains-from-range a n i h =
    let p : h.0 < n = omega (arith, h.1, length-range_with_len a n) in
    let e : a + h.0 ≡ i = sym (get_or-range_with_len a n h.0 i p) ∙ h.2 in
    (omega (arith, e), omega (arith, e, p))

-- a number that the test finds is in the list
pub contains-among : (ns : List ℕ) (n : ℕ) → is_among ns n ≡ true → Contains ns n
contains-among [] n e = absurd (true≢false (sym e))
contains-among (m ∷ ns) n e = by (or_cases (m == n) (is_among ns n) e) (contains-among ns n)
  where
    by : ((m == n) ≡ true) ⊎ (is_among ns n ≡ true) → (is_among ns n ≡ true → Contains ns n) → Contains (m ∷ ns) n
    by (inl s) rest = (0, omega arith, eqb-true m n s)
    by (inr g) rest = contains-later m ns n (rest g)

-- and the test finds each number of the list
pub among-from-contains : (ns : List ℕ) (n : ℕ) → Contains ns n → is_among ns n ≡ true
among-from-contains [] n h = contains-none n h
among-from-contains (m ∷ ns) n h = by (contains-split m ns n h) (among-from-contains ns n)
  where
    by : (m ≡ n) ⊎ Contains ns n → (Contains ns n → is_among ns n ≡ true) → is_among (m ∷ ns) n ≡ true
    by (inl s) rest = or_left (m == n) (is_among ns n) (eq-eqb m n s)
    by (inr g) rest = or_right (m == n) (is_among ns n) (rest g)
