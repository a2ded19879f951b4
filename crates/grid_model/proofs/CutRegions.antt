-- A cut parts a region: the left part has its keys below the boundary, the right part the others.
use Rattle.std.proofs.Common.{◌≡◌, ◌<◌, ◌≤◌, ◌-◌, ℕ, zero, suc, Bool, true, false, ◌&&◌, List, [], ◌∷◌, length, slice_index, slice_set, nat_lt, nat_le, refl, sym, ap, ◌∙◌, arith, IsTrue, leb-true, le-leb, ltb-true, lt-ltb}
use lib.Pointwise.{pointwise}
use Rattle.grid_types.specs.declared.layout_change.Cut.{Cut}
use Rattle.grid_types.specs.Regions.{contains, IsRegion, is_within}
use Rattle.grid_types.proofs.Numbers.{both, first, second}
use Rattle.grid_types.proofs.Parted.{above-low, up-to-high}
use Rattle.grid_model.specs.Layouts.{BucketBox}
use Rattle.grid_model.specs.Notes.{left_of, right_of}
use Rattle.grid_model.specs.LayoutLaws.{PartsRegion}

and_assoc : (a b c : Bool) → (a && (b && c)) ≡ ((a && b) && c)
and_assoc true b c = refl
and_assoc false b c = refl

same_truth : (a b : Bool) → (a ≡ true → b ≡ true) → (b ≡ true → a ≡ true) → a ≡ b
same_truth true b f g = sym (f refl)
same_truth false true f g = g refl
same_truth false false f g = refl

-- below a bound that is in the interval: the interval's bound says no more
fall : (x h v : ℕ) (rest : Bool) → 1 ≤ v → v ≤ h → (nat_le x (v - 1) && rest) ≡ ((nat_le x h && rest) && nat_lt x v)
fall x h v rest p q =
    same_truth (nat_le x (v - 1) && rest) ((nat_le x h && rest) && nat_lt x v)
    (λ e. let le : x ≤ v - 1 = leb-true _ _ (first (nat_le x (v - 1)) rest e) in
    both (nat_le x h && rest) (nat_lt x v) (both (nat_le x h) rest (le-leb _ _ (omega (arith, le, p, q))) (second (nat_le x (v - 1)) rest e)) (lt-ltb _ _ (omega (arith, le, p))))
    (λ e. let lt : x < v = ltb-true _ _ (second (nat_le x h && rest) (nat_lt x v) e) in
    both (nat_le x (v - 1)) rest (le-leb _ _ (omega (arith, lt))) (second (nat_le x h) rest (first (nat_le x h && rest) (nat_lt x v) e)))

rise : (x l v : ℕ) (rest : Bool) → l < v → (nat_le v x && rest) ≡ ((nat_le l x && rest) && nat_le v x)
rise x l v rest p =
    same_truth (nat_le v x && rest) ((nat_le l x && rest) && nat_le v x)
    (λ e. let le : v ≤ x = leb-true _ _ (first (nat_le v x) rest e) in
    both (nat_le l x && rest) (nat_le v x) (both (nat_le l x) rest (le-leb _ _ (omega (arith, le, p))) (second (nat_le v x) rest e)) (le-leb _ _ le))
    (λ e. both (nat_le v x) rest (second (nat_le l x && rest) (nat_le v x) e) (second (nat_le l x) rest (first (nat_le l x && rest) (nat_le v x) e)))

high_part : (k hi : List ℕ) (a v : ℕ) → 1 ≤ v → v ≤ slice_index hi a → pointwise nat_le k (slice_set hi a (v - 1)) ≡ (pointwise nat_le k hi && nat_lt (slice_index k a) v)
high_part [] [] a v p q = absurd (omega (arith, p, q))
high_part [] (h ∷ hi) zero v p q = refl
high_part [] (h ∷ hi) (suc a) v p q = refl
high_part (x ∷ k) [] a v p q = absurd (omega (arith, p, q))
high_part (x ∷ k) (h ∷ hi) zero v p q = fall x h v (pointwise nat_le k hi) p q
high_part (x ∷ k) (h ∷ hi) (suc a) v p q = ap (λ b. nat_le x h && b) (high_part k hi a v p q) ∙ and_assoc (nat_le x h) (pointwise nat_le k hi) (nat_lt (slice_index k a) v)

low_part : (lo k : List ℕ) (a v : ℕ) → slice_index lo a < v → a < length lo → pointwise nat_le (slice_set lo a v) k ≡ (pointwise nat_le lo k && nat_le v (slice_index k a))
low_part [] k a v p q = absurd (omega (arith, q))
low_part (l ∷ lo) [] zero v p q = refl
low_part (l ∷ lo) [] (suc a) v p q = refl
low_part (l ∷ lo) (x ∷ k) zero v p q = rise x l v (pointwise nat_le lo k) p
low_part (l ∷ lo) (x ∷ k) (suc a) v p q =
    ap (λ b. nat_le l x && b) (low_part lo k a v p (omega (arith, q)))
    ∙ and_assoc (nat_le l x) (pointwise nat_le lo k) (nat_le v (slice_index k a))

move_and : (a b c : Bool) → ((a && c) && b) ≡ ((a && b) && c)
move_and true true true = refl
move_and true true false = refl
move_and true false true = refl
move_and true false false = refl
move_and false b c = refl

-- the left part has the keys of the box below the boundary
pub left-contains : {K : ℕ} (b : BucketBox K) (c : Cut) (k : List ℕ) → IsRegion K b.region → c.attribute < K → IsTrue (is_within b.region c.attribute c.value)
    → contains (left_of b c).region k ≡ (contains b.region k && nat_lt (slice_index k c.attribute) c.value)
left-contains b c k r i w =
    let lo : slice_index b.region.lo c.attribute < c.value = above-low b.region c.attribute c.value w in
    ap (λ t. pointwise nat_le b.region.lo k && t) (high_part k b.region.hi c.attribute c.value (omega (arith, lo)) (up-to-high b.region c.attribute c.value w))
    ∙ and_assoc (pointwise nat_le b.region.lo k) (pointwise nat_le k b.region.hi) (nat_lt (slice_index k c.attribute) c.value)

-- the right part has the others
pub right-contains : {K : ℕ} (b : BucketBox K) (c : Cut) (k : List ℕ) → IsRegion K b.region → c.attribute < K → IsTrue (is_within b.region c.attribute c.value)
    → contains (right_of b c).region k ≡ (contains b.region k && nat_le c.value (slice_index k c.attribute))
right-contains b c k r i w =
    let count : length b.region.lo ≡ _ = r.low.count in
    ap (λ t. t && pointwise nat_le k b.region.hi) (low_part b.region.lo k c.attribute c.value (above-low b.region c.attribute c.value w) (omega (arith, count, i)))
    ∙ move_and (pointwise nat_le b.region.lo k) (pointwise nat_le k b.region.hi) (nat_le c.value (slice_index k c.attribute))

-- a cut parts a region
pub parts-region : {K : ℕ} → PartsRegion K
parts-region = record { left = left-contains; right = right-contains }
