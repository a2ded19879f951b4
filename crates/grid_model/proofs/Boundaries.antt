-- Boundaries that ascend, and where a number stands among them.
use Rattle.std.proofs.Common.{◌≡◌, ◌≢◌, ◌<◌, ◌≤◌, ◌+◌, ◌⊎◌, inl, inr, ℕ, zero, suc, Bool, true, false, cond, ◌||◌, ◌==◌, List, [], ◌∷◌, length, slice_index, nat_lt, take, drop, filter, refl, sym, ap, ◌∙◌, arith, true≢false, eqb-true}
use Rattle.std.proofs.lemmas.Bool.{cases_lt, lt-ltb, le-ltb, eq-eqb, ne_eqb, or_left, or_right, or_from}
use Rattle.grid_model.specs.Lists.{is_among}
use Rattle.grid_types.specs.Keys.{top}
use Rattle.grid_model.specs.Scales.{ascends_from, interval}
use Rattle.grid_model.proofs.ScaleLaws.{tops, goes-on, each-from, counted, uncounted}

-- each boundary is a number of the attribute
pub each-top : (l : ℕ) (bs : List ℕ) (i : ℕ) → ascends_from l bs ≡ true → slice_index bs i ≤ top
each-top l [] i e = omega arith
each-top l (b ∷ bs) zero e = tops l b bs e
each-top l (b ∷ bs) (suc i) e = each-top (b + 1) bs i (goes-on l b bs e)

-- a boundary is below each later one
pub ascends : (l : ℕ) (bs : List ℕ) (i j : ℕ) → ascends_from l bs ≡ true → i < j → j < length bs → slice_index bs i < slice_index bs j
ascends l [] i j e p q = absurd (omega (arith, q))
ascends l (b ∷ bs) i zero e p q = absurd (omega (arith, p))
ascends l (b ∷ bs) zero (suc j) e p q = omega (arith, each-from (b + 1) bs j (goes-on l b bs e) (omega (arith, q)))
ascends l (b ∷ bs) (suc i) (suc j) e p q = ascends (b + 1) bs i j (goes-on l b bs e) (omega (arith, p)) (omega (arith, q))

-- and at most itself and each later one
pub never-falls : (l : ℕ) (bs : List ℕ) (i j : ℕ) → ascends_from l bs ≡ true → i ≤ j → j < length bs → slice_index bs i ≤ slice_index bs j
never-falls l bs i j e p q = by (cases_lt i j)
  where
    by : (i < j) ⊎ (j ≤ i) → slice_index bs i ≤ slice_index bs j
    by (inl r) = omega (arith, ascends l bs i j e r q)
    by (inr r) =
        let same : i ≡ j = omega (arith, p, r) in
        omega (arith, ap (slice_index bs) same)

-- an index that parts those at most a number from those above it is the number's interval
pub interval-at : (bs : List ℕ) (v i : ℕ) → i ≤ length bs → ((k : ℕ) → k < i → slice_index bs k ≤ v) → ((k : ℕ) → i ≤ k → k < length bs → v < slice_index bs k) → interval bs v ≡ i
interval-at [] v i p below above = omega (arith, p)
interval-at (b ∷ bs) v zero p below above = uncounted b v bs (above zero (omega arith) (omega arith)) ∙ interval-at bs v zero (omega arith) (λ k q. absurd (omega (arith, q))) (λ k q r. above (suc k) (omega arith) (omega (arith, r)))
interval-at (b ∷ bs) v (suc i) p below above =
    counted b v bs (below zero (omega arith))
    ∙ ap suc (interval-at bs v i (omega (arith, p)) (λ k q. below (suc k) (omega (arith, q))) (λ k q r. above (suc k) (omega (arith, q)) (omega (arith, r))))

-- a number that stands at an index is among the numbers
pub among-at : (ns : List ℕ) (v i : ℕ) → i < length ns → slice_index ns i ≡ v → is_among ns v ≡ true
among-at [] v i p e = absurd (omega (arith, p))
among-at (n ∷ ns) v zero p e = or_left (n == v) (is_among ns v) (eq-eqb n v e)
among-at (n ∷ ns) v (suc i) p e = or_right (n == v) (is_among ns v) (among-at ns v i (omega (arith, p)) e)

-- and each number among them stands at one
pub among-index : (ns : List ℕ) (v : ℕ) → is_among ns v ≡ true → (i : ℕ) × (i < length ns) × (slice_index ns i ≡ v)
among-index [] v e = absurd (true≢false (sym e))
among-index (n ∷ ns) v e = by (n == v) refl e (among-index ns v)
  where
    by : (t : Bool) → (n == v) ≡ t → (t || is_among ns v) ≡ true → (is_among ns v ≡ true → (i : ℕ) × (i < length ns) × (slice_index ns i ≡ v)) → (i : ℕ) × (i < length (n ∷ ns)) × (slice_index (n ∷ ns) i ≡ v)
    by true d f rest = (zero, omega arith, eqb-true n v d)
    by false d f rest =
        let there = rest f in
        (suc there.0, omega (arith, there.1), there.2)

-- a number that stands at no index is not
pub absent : (ns : List ℕ) (v : ℕ) → ((k : ℕ) → k < length ns → slice_index ns k ≢ v) → is_among ns v ≡ false
absent [] v h = refl
absent (n ∷ ns) v h = or_from (n == v) (is_among ns v) (ne_eqb n v (h zero (omega arith))) (absent ns v (λ k p. h (suc k) (omega (arith, p))))

-- of boundaries that an index parts, those below the number are the first, and those above it the others
pub below-taken : (bs : List ℕ) (v i : ℕ) → i ≤ length bs → ((k : ℕ) → k < i → slice_index bs k < v) → ((k : ℕ) → i ≤ k → k < length bs → v < slice_index bs k) → filter (λ b. nat_lt b v) bs ≡ take i bs
below-taken [] v zero p below above = refl
below-taken [] v (suc i) p below above = absurd (omega (arith, p))
below-taken (b ∷ bs) v zero p below above =
    let q : v < b = above zero (omega arith) (omega arith) in
    ap (λ t. cond t (b ∷ filter (λ b. nat_lt b v) bs) (filter (λ b. nat_lt b v) bs)) (le-ltb b v (omega (arith, q)))
    ∙ below-taken bs v zero (omega arith) (λ k r. absurd (omega (arith, r))) (λ k r s. above (suc k) (omega arith) (omega (arith, s)))
below-taken (b ∷ bs) v (suc i) p below above =
    ap (λ t. cond t (b ∷ filter (λ b. nat_lt b v) bs) (filter (λ b. nat_lt b v) bs)) (lt-ltb b v (below zero (omega arith)))
    ∙ ap (λ xs. b ∷ xs) (below-taken bs v i (omega (arith, p)) (λ k q. below (suc k) (omega (arith, q))) (λ k q r. above (suc k) (omega (arith, q)) (omega (arith, r))))

pub above-left : (bs : List ℕ) (v i : ℕ) → i ≤ length bs → ((k : ℕ) → k < i → slice_index bs k < v) → ((k : ℕ) → i ≤ k → k < length bs → v < slice_index bs k) → filter (λ b. nat_lt v b) bs ≡ drop i bs
above-left [] v zero p below above = refl
above-left [] v (suc i) p below above = absurd (omega (arith, p))
above-left (b ∷ bs) v zero p below above =
    ap (λ t. cond t (b ∷ filter (λ b. nat_lt v b) bs) (filter (λ b. nat_lt v b) bs)) (lt-ltb v b (above zero (omega arith) (omega arith)))
    ∙ ap (λ xs. b ∷ xs) (above-left bs v zero (omega arith) (λ k r. absurd (omega (arith, r))) (λ k r s. above (suc k) (omega arith) (omega (arith, s))))
above-left (b ∷ bs) v (suc i) p below above =
    let q : b < v = below zero (omega arith) in
    ap (λ t. cond t (b ∷ filter (λ b. nat_lt v b) bs) (filter (λ b. nat_lt v b) bs)) (le-ltb v b (omega (arith, q)))
    ∙ above-left bs v i (omega (arith, p)) (λ k r. below (suc k) (omega (arith, r))) (λ k r s. above (suc k) (omega (arith, r)) (omega (arith, s)))
