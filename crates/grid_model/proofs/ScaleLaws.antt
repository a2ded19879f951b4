-- Scales part the numbers into intervals, and a new boundary makes a scale again.
use Rattle.std.proofs.Common.{◌≡◌, ◌<◌, ◌≤◌, ◌+◌, ◌⊎◌, ◌++◌, inl, inr, ℕ, zero, suc, pred, Bool, true, false, cond, ◌&&◌, ◌||◌, ◌==◌, ◌↔◌, List, [], ◌∷◌, length, slice_index, nat_lt, nat_le, filter, IsTrue, refl, sym, ap, ◌∙◌, subst, arith, true≢false}
use Rattle.std.proofs.lemmas.Bool.{leb-true, le-leb, lt-leb, lt-ltb, le-ltb, eq-eqb, cases_lt, cases_order, or_left, or_right, or_parts}
use Rattle.grid_types.proofs.Numbers.{both, first, second}
use Rattle.grid_types.specs.Keys.{top}
use Rattle.grid_model.specs.Lists.{is_among}
use Rattle.grid_model.specs.Scales.{ascends_from, is_scale, interval, low, high, lows, highs, is_drawn, refined}
use Rattle.grid_model.specs.ScaleLaws.{PartsNumbers}

-- the first boundary is at least the number from which the boundaries ascend
pub starts : (l b : ℕ) (bs : List ℕ) → ascends_from l (b ∷ bs) ≡ true → l ≤ b
starts l b bs e = leb-true l b (first (nat_le l b) (nat_le b top && ascends_from (b + 1) bs) e)

-- it is a number of the attribute
pub tops : (l b : ℕ) (bs : List ℕ) → ascends_from l (b ∷ bs) ≡ true → b ≤ top
tops l b bs e = leb-true b top (first (nat_le b top) (ascends_from (b + 1) bs) (second (nat_le l b) (nat_le b top && ascends_from (b + 1) bs) e))

-- the others ascend above it
pub goes-on : (l b : ℕ) (bs : List ℕ) → ascends_from l (b ∷ bs) ≡ true → ascends_from (b + 1) bs ≡ true
goes-on l b bs e = second (nat_le b top) (ascends_from (b + 1) bs) (second (nat_le l b) (nat_le b top && ascends_from (b + 1) bs) e)

-- these three make it ascend
pub ascending : (l b : ℕ) (bs : List ℕ) → l ≤ b → b ≤ top → ascends_from (b + 1) bs ≡ true → ascends_from l (b ∷ bs) ≡ true
ascending l b bs p q e = both (nat_le l b) (nat_le b top && ascends_from (b + 1) bs) (le-leb l b p) (both (nat_le b top) (ascends_from (b + 1) bs) (le-leb b top q) e)

-- each boundary is at least the number from which they ascend
pub each-from : (l : ℕ) (bs : List ℕ) (i : ℕ) → ascends_from l bs ≡ true → i < length bs → l ≤ slice_index bs i
each-from l [] i e p = absurd (omega (arith, p))
each-from l (b ∷ bs) zero e p = starts l b bs e
each-from l (b ∷ bs) (suc i) e p = omega (arith, starts l b bs e, each-from (b + 1) bs i (goes-on l b bs e) (omega (arith, p)))

-- the tests of the definitions at boundaries that ascend from above a number: none of them is at most it, none below it, all above it
none-at-most : (l v : ℕ) (bs : List ℕ) → ascends_from l bs ≡ true → v < l → filter (λ b. nat_le b v) bs ≡ []
none-at-most l v [] e p = refl
none-at-most l v (b ∷ bs) e p =
    let q : l ≤ b = starts l b bs e in
    ap (λ t. cond t (b ∷ filter (λ b. nat_le b v) bs) (filter (λ b. nat_le b v) bs)) (lt-leb b v (omega arith)) ∙ none-at-most (b + 1) v bs (goes-on l b bs e) (omega arith)

none-under : (l v : ℕ) (bs : List ℕ) → ascends_from l bs ≡ true → v ≤ l → filter (λ b. nat_lt b v) bs ≡ []
none-under l v [] e p = refl
none-under l v (b ∷ bs) e p =
    let q : l ≤ b = starts l b bs e in
    ap (λ t. cond t (b ∷ filter (λ b. nat_lt b v) bs) (filter (λ b. nat_lt b v) bs)) (le-ltb b v (omega arith)) ∙ none-under (b + 1) v bs (goes-on l b bs e) (omega arith)

all-above : (l v : ℕ) (bs : List ℕ) → ascends_from l bs ≡ true → v < l → filter (λ b. nat_lt v b) bs ≡ bs
all-above l v [] e p = refl
all-above l v (b ∷ bs) e p =
    let q : l ≤ b = starts l b bs e in
    ap (λ t. cond t (b ∷ filter (λ b. nat_lt v b) bs) (filter (λ b. nat_lt v b) bs)) (lt-ltb v b (omega arith)) ∙ ap (λ bs. b ∷ bs) (all-above (b + 1) v bs (goes-on l b bs e) (omega arith))

-- a boundary at most the number is counted in its interval
pub counted : (b v : ℕ) (bs : List ℕ) → b ≤ v → interval (b ∷ bs) v ≡ suc (interval bs v)
counted b v bs p = ap (λ t. length (cond t (b ∷ filter (λ b. nat_le b v) bs) (filter (λ b. nat_le b v) bs))) (le-leb b v p)

-- one above it is not
pub uncounted : (b v : ℕ) (bs : List ℕ) → v < b → interval (b ∷ bs) v ≡ interval bs v
uncounted b v bs p = ap (λ t. length (cond t (b ∷ filter (λ b. nat_le b v) bs) (filter (λ b. nat_le b v) bs))) (lt-leb b v p)

-- a number below all boundaries is in the first interval
pub in-first : (l v : ℕ) (bs : List ℕ) → ascends_from l bs ≡ true → v < l → interval bs v ≡ 0
in-first l v bs e p = ap length (none-at-most l v bs e p)

-- a number's interval is one of the scale's
pub few-intervals : (bs : List ℕ) (v : ℕ) → interval bs v ≤ length bs
few-intervals [] v = omega arith
few-intervals (b ∷ bs) v = by (cases_lt v b) (few-intervals bs v)
  where
    by : (v < b) ⊎ (b ≤ v) → interval bs v ≤ length bs → interval (b ∷ bs) v ≤ length (b ∷ bs)
    by (inl p) few = omega (arith, uncounted b v bs p, few)
    by (inr p) few = omega (arith, counted b v bs p, few)

-- a greater number is in no lower interval
pub interval-grows : (bs : List ℕ) (x y : ℕ) → x ≤ y → interval bs x ≤ interval bs y
interval-grows [] x y p = omega arith
interval-grows (b ∷ bs) x y p = by (cases_lt x b) (cases_lt y b) (interval-grows bs x y p)
  where
    by : (x < b) ⊎ (b ≤ x) → (y < b) ⊎ (b ≤ y) → interval bs x ≤ interval bs y → interval (b ∷ bs) x ≤ interval (b ∷ bs) y
    by (inl q) (inl r) rest = omega (arith, uncounted b x bs q, uncounted b y bs r, rest)
    by (inl q) (inr r) rest = omega (arith, uncounted b x bs q, counted b y bs r, rest)
    by (inr q) (inl r) rest = absurd (omega (arith, p, q, r))
    by (inr q) (inr r) rest = omega (arith, counted b x bs q, counted b y bs r, rest)

at-most-pred : (v b : ℕ) → v < b → v ≤ pred b
at-most-pred v zero p = absurd (omega (arith, p))
at-most-pred v (suc b) p = omega (arith, p)

below-from-pred : (v b : ℕ) → 1 ≤ b → v ≤ pred b → v < b
below-from-pred v zero o p = absurd (omega (arith, o))
below-from-pred v (suc b) o p = omega (arith, p)

-- a number lies within the bounds of its interval, where the first interval begins at s
within-bounds : (s l : ℕ) (bs : List ℕ) (v : ℕ) → ascends_from l bs ≡ true → s ≤ v → v ≤ top → (slice_index (s ∷ bs) (interval bs v) ≤ v) × (v ≤ high bs (interval bs v))
within-bounds s l [] v e p q = (p, q)
within-bounds s l (b ∷ bs) v e p q = by (cases_lt v b) (λ r. within-bounds b (b + 1) bs v (goes-on l b bs e) r q)
  where
    by : (v < b) ⊎ (b ≤ v) → (b ≤ v → (slice_index (b ∷ bs) (interval bs v) ≤ v) × (v ≤ high bs (interval bs v)))
        → (slice_index (s ∷ b ∷ bs) (interval (b ∷ bs) v) ≤ v) × (v ≤ high (b ∷ bs) (interval (b ∷ bs) v))
    by (inl r) rest =
        let none : interval (b ∷ bs) v ≡ 0 = uncounted b v bs r ∙ in-first (b + 1) v bs (goes-on l b bs e) (omega (arith, r)) in
        subst (λ (n : ℕ). (slice_index (s ∷ b ∷ bs) n ≤ v) × (v ≤ high (b ∷ bs) n)) (sym none) (p, at-most-pred v b r)
    by (inr r) rest = subst (λ (n : ℕ). (slice_index (s ∷ b ∷ bs) n ≤ v) × (v ≤ high (b ∷ bs) n)) (sym (counted b v bs r)) (rest r)

-- the interval whose bounds have a number is its interval
from-bounds : (s l : ℕ) (bs : List ℕ) (v i : ℕ) → ascends_from l bs ≡ true → 1 ≤ l → i ≤ length bs → slice_index (s ∷ bs) i ≤ v → v ≤ high bs i → interval bs v ≡ i
from-bounds s l [] v i e o n p q = omega (arith, n)
from-bounds s l (b ∷ bs) v zero e o n p q =
    let r : v < b = below-from-pred v b (omega (arith, starts l b bs e, o)) q in
    uncounted b v bs r ∙ in-first (b + 1) v bs (goes-on l b bs e) (omega (arith, r))
from-bounds s l (b ∷ bs) v (suc i) e o n p q =
    let r : b ≤ v = omega (arith, each-from b (b ∷ bs) i (ascending b b bs (omega arith) (tops l b bs e) (goes-on l b bs e)) (omega (arith, n)), p) in
    counted b v bs r ∙ ap suc (from-bounds b (b + 1) bs v i (goes-on l b bs e) (omega arith) (omega (arith, n)) p q)

-- an interval's bounds contain a number exactly where it is the number's interval
pub has-bounds : (scale : List ℕ) (v i : ℕ) → IsTrue (is_scale scale) → v ≤ top → i ≤ length scale → ((low scale i ≤ v) × (v ≤ high scale i)) ↔ (interval scale v ≡ i)
has-bounds scale v i e p n = (
  λ h. from-bounds 0 1 scale v i e (omega arith) n h.0 h.1,
  λ here. subst (λ (i : ℕ). (low scale i ≤ v) × (v ≤ high scale i)) here (within-bounds 0 1 scale v e (omega arith) p),
)

-- a new boundary below all others stands first, one that is there already changes nothing, and one above the first stands behind it
stands-first : (l v : ℕ) (bs : List ℕ) → ascends_from l bs ≡ true → v < l → refined bs v ≡ v ∷ bs
stands-first l v bs e p = ap (λ (xs : List ℕ). xs ++ v ∷ filter (λ b. nat_lt v b) bs) (none-under l v bs e (omega (arith, p))) ∙ ap (λ xs. v ∷ xs) (all-above l v bs e p)

by-tests : (v b : ℕ) (bs : List ℕ) (t u : Bool) → nat_lt b v ≡ t → nat_lt v b ≡ u
    → refined (b ∷ bs) v ≡ cond t (b ∷ filter (λ b. nat_lt b v) bs) (filter (λ b. nat_lt b v) bs) ++ v ∷ cond u (b ∷ filter (λ b. nat_lt v b) bs) (filter (λ b. nat_lt v b) bs)
by-tests v b bs t u p q i = cond (p i) (b ∷ filter (λ b. nat_lt b v) bs) (filter (λ b. nat_lt b v) bs) ++ v ∷ cond (q i) (b ∷ filter (λ b. nat_lt v b) bs) (filter (λ b. nat_lt v b) bs)

stands-there : (v : ℕ) (bs : List ℕ) → ascends_from (v + 1) bs ≡ true → refined (v ∷ bs) v ≡ v ∷ bs
stands-there v bs e = by-tests v v bs false false (le-ltb v v (omega arith)) (le-ltb v v (omega arith)) ∙ stands-first (v + 1) v bs e (omega arith)

-- a new boundary above the first one stands behind it
pub stands-later : (v b : ℕ) (bs : List ℕ) → b < v → refined (b ∷ bs) v ≡ b ∷ refined bs v
stands-later v b bs p = by-tests v b bs true false (lt-ltb b v p) (le-ltb v b (omega (arith, p)))

-- what holds of a scale and its refinement holds by the place of the new boundary: alone, known, before the first boundary, or behind it. P is said of the number from which the scale ascends, the scale, and the refined scale
module _ (v : ℕ) (P : ℕ → List ℕ → List ℕ → Type 0)
    (alone : (l : ℕ) → P l [] (v ∷ []))
    (known : (l : ℕ) (bs : List ℕ) → ascends_from l (v ∷ bs) ≡ true → P l (v ∷ bs) (v ∷ bs))
    (before : (l b : ℕ) (bs : List ℕ) → ascends_from l (b ∷ bs) ≡ true → v < b → P l (b ∷ bs) (v ∷ b ∷ bs))
    (behind : (l b : ℕ) (bs rs : List ℕ) → ascends_from l (b ∷ bs) ≡ true → b < v → P (b + 1) bs rs → P l (b ∷ bs) (b ∷ rs)) where
  -- by the place of the new boundary
  pub by-place : (l : ℕ) (bs : List ℕ) → ascends_from l bs ≡ true → P l bs (refined bs v)
  by-place l [] e = alone l
  by-place l (b ∷ bs) e = by (cases_order v b) (by-place (b + 1) bs (goes-on l b bs e))
    where
      by : (v ≡ b) ⊎ ((v < b) ⊎ (b < v)) → P (b + 1) bs (refined bs v) → P l (b ∷ bs) (refined (b ∷ bs) v)
      by (inl p) rest = subst (λ (b : ℕ). ascends_from l (b ∷ bs) ≡ true → P l (b ∷ bs) (refined (b ∷ bs) v)) p (λ e. subst (P l (v ∷ bs)) (sym (stands-there v bs (goes-on l v bs e))) (known l bs e)) e
      by (inr (inl p)) rest = subst (P l (b ∷ bs)) (sym (stands-first b v (b ∷ bs) (ascending b b bs (omega arith) (tops l b bs e) (goes-on l b bs e)) p)) (before l b bs e p)
      by (inr (inr p)) rest = subst (P l (b ∷ bs)) (sym (stands-later v b bs p)) (behind l b bs (refined bs v) e p rest)

-- a scale with a new boundary is a scale
pub refined-ascends : (v l : ℕ) (bs : List ℕ) → v ≤ top → ascends_from l bs ≡ true → l ≤ v → ascends_from l (refined bs v) ≡ true
refined-ascends v l bs q = by-place v (λ l bs rs. l ≤ v → ascends_from l rs ≡ true)
    (λ l p. ascending l v [] p q refl)
    (λ l bs e p. e)
    (λ l b bs e r p. ascending l v (b ∷ bs) p q (ascending (v + 1) b bs (omega (arith, r)) (tops l b bs e) (goes-on l b bs e)))
    (λ l b bs rs e r rest p. ascending l b rs (starts l b bs e) (tops l b bs e) (rest (omega (arith, r)))) l bs

not-among-itself : {X : Type 0} (v : ℕ) (bs : List ℕ) → is_among (v ∷ bs) v ≡ false → X
not-among-itself v bs e = absurd (true≢false (sym (or_left (v == v) (is_among bs v) (eq-eqb v v refl)) ∙ e))

not-among-rest : (v b : ℕ) (bs : List ℕ) → is_among (b ∷ bs) v ≡ false → is_among bs v ≡ false
not-among-rest v b bs e = (or_parts (b == v) (is_among bs v) e).1

-- it has one boundary more
pub refined-longer : (v l : ℕ) (bs : List ℕ) → ascends_from l bs ≡ true → is_among bs v ≡ false → length (refined bs v) ≡ length bs + 1
refined-longer v = by-place v (λ l bs rs. is_among bs v ≡ false → length rs ≡ length bs + 1)
    (λ l e. refl)
    (λ l bs a e. not-among-itself v bs e)
    (λ l b bs a p e. omega arith)
    (λ l b bs rs a p rest e. omega (arith, rest (not-among-rest v b bs e)))

-- from the new boundary on each interval is one further up
pub interval-above : (v x l : ℕ) (bs : List ℕ) → v ≤ x → ascends_from l bs ≡ true → is_among bs v ≡ false → interval (refined bs v) x ≡ interval bs x + 1
interval-above v x l bs p = by-place v (λ l bs rs. is_among bs v ≡ false → interval rs x ≡ interval bs x + 1)
    (λ l e. counted v x [] p)
    (λ l bs a e. not-among-itself v bs e)
    (λ l b bs a q e. counted v x (b ∷ bs) p ∙ omega arith)
    (λ l b bs rs a q rest e. omega (arith, counted b x rs (omega (arith, p, q)), counted b x bs (omega (arith, p, q)), rest (not-among-rest v b bs e))) l bs

length-where : (t : Bool) (b : ℕ) (xs ys : List ℕ) → length xs ≡ length ys → length (cond t (b ∷ xs) xs) ≡ length (cond t (b ∷ ys) ys)
length-where true b xs ys e = ap suc e
length-where false b xs ys e = e

-- and below it the intervals stay
pub interval-below : (v x l : ℕ) (bs : List ℕ) → x < v → ascends_from l bs ≡ true → interval (refined bs v) x ≡ interval bs x
interval-below v x l bs p = by-place v (λ l bs rs. interval rs x ≡ interval bs x)
    (λ l. uncounted v x [] p)
    (λ l bs a. refl)
    (λ l b bs a q. uncounted v x (b ∷ bs) p)
    (λ l b bs rs a q rest. length-where (nat_le b x) b (filter (λ b. nat_le b x) rs) (filter (λ b. nat_le b x) bs) rest) l bs

or-again : (a b : Bool) → (a || b) ≡ ((a || b) || a)
or-again true b = refl
or-again false true = refl
or-again false false = refl

or-turned : (a b : Bool) → (a || b) ≡ (b || a)
or-turned true true = refl
or-turned true false = refl
or-turned false true = refl
or-turned false false = refl

or-grouped : (a b c : Bool) → (a || (b || c)) ≡ ((a || b) || c)
or-grouped true b c = refl
or-grouped false b c = refl

-- its boundaries are those of the scale and the new one
pub refined-has : (v x l : ℕ) (bs : List ℕ) → ascends_from l bs ≡ true → is_among (refined bs v) x ≡ (is_among bs x || (v == x))
refined-has v x = by-place v (λ l bs rs. is_among rs x ≡ (is_among bs x || (v == x)))
    (λ l. or-turned (v == x) false)
    (λ l bs a. or-again (v == x) (is_among bs x))
    (λ l b bs a q. or-turned (v == x) (is_among (b ∷ bs) x))
    (λ l b bs rs a q rest. ap (λ t. (b == x) || t) rest ∙ or-grouped (b == x) (is_among bs x) (v == x))

or-onward : (a b c : Bool) → (b ≡ true → c ≡ true) → (a || b) ≡ true → (a || c) ≡ true
or-onward true b c f e = refl
or-onward false b c f e = f e

-- each end of an interval is one still
pub highs-stay : (v x l : ℕ) (bs : List ℕ) → ascends_from l bs ≡ true → is_among (highs bs) x ≡ true → is_among (highs (refined bs v)) x ≡ true
highs-stay v x = by-place v (λ l bs rs. is_among (highs bs) x ≡ true → is_among (highs rs) x ≡ true)
    (λ l e. or_right (pred v == x) (is_among (highs []) x) e)
    (λ l bs a e. e)
    (λ l b bs a q e. or_right (pred v == x) (is_among (highs (b ∷ bs)) x) e)
    (λ l b bs rs a q rest e. or-onward (pred b == x) (is_among (highs bs) x) (is_among (highs rs) x) rest e)

-- each begin of an interval is one still
pub lows-stay : (v x l : ℕ) (bs : List ℕ) → ascends_from l bs ≡ true → is_among (lows bs) x ≡ true → is_among (lows (refined bs v)) x ≡ true
lows-stay v x l bs a e = or-onward (0 == x) (is_among bs x) (is_among (refined bs v) x) (λ h. refined-has v x l bs a ∙ or_left (is_among bs x) (v == x) h) e

-- bounds that are ends of intervals are ends still
pub drawn-stays : (scale : List ℕ) (v lo hi : ℕ) → IsTrue (is_scale scale) → IsTrue (is_drawn scale lo hi) → IsTrue (is_drawn (refined scale v) lo hi)
drawn-stays scale v lo hi e h = both (is_among (lows (refined scale v)) lo) (is_among (highs (refined scale v)) hi)
    (lows-stay v lo 1 scale e (first (is_among (lows scale) lo) (is_among (highs scale) hi) h))
    (highs-stay v hi 1 scale e (second (is_among (lows scale) lo) (is_among (highs scale) hi) h))

-- a scale parts the numbers into intervals
pub parts-numbers : PartsNumbers
parts-numbers = record {
  bounds = has-bounds;
  few = few-intervals;
  scale = λ scale v e fresh p q. refined-ascends v 1 scale q e p;
  longer = λ scale v e fresh. refined-longer v 1 scale e fresh;
  has = λ scale v b e. let same : is_among (refined scale v) b ≡ (is_among scale b || (v == b)) = refined-has v b 1 scale e in (λ h. sym same ∙ h, λ h. same ∙ h);
  above = λ scale v x e fresh p. interval-above v x 1 scale p e fresh;
  below = λ scale v x e fresh p. interval-below v x 1 scale p e;
  drawn = drawn-stays;
}
