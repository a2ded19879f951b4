-- The cell of a key: it is among the cells of a region that has the key, and it is the image of the key's cell in a refined directory.
use Rattle.std.proofs.Common.{◌≡◌, ◌<◌, ◌≤◌, ◌+◌, ◌-◌, ◌⊎◌, inl, inr, ℕ, zero, suc, true, false, cond, List, [], ◌∷◌, length, slice_index, slice_set, nat_le, map, Contains, IsTrue, refl, sym, ap, ◌∙◌, arith, true≢false, leb-true}
use Rattle.std.proofs.lemmas.Bool.{cases_lt, lt-ltb, le-ltb}
use lib.Pointwise.{pointwise}
use Rattle.grid_types.proofs.Numbers.{first, second}
use Rattle.grid_types.specs.Lists.{zip_with}
use Rattle.grid_model.specs.Lists.{from_to, choices, is_among}
use Rattle.grid_model.specs.Scales.{scale_of, is_scale, interval, refined}
use Rattle.grid_model.specs.Cells.{dims, cell_of, image_of, interval_before}
use Rattle.grid_model.specs.ScaleLaws.{IsCell, HaveIndices}
use Rattle.grid_model.proofs.ScaleLaws.{few-intervals, interval-grows, interval-above, interval-below}
use Rattle.grid_model.proofs.Members.{contains-first, contains-map, contains-flat, contains-range}
use Rattle.grid_model.proofs.Indices.{cells-counted, cell-there, index-there}

key-count : (scales : List (List ℕ)) (k : List ℕ) → length k ≡ length scales → length (cell_of scales k) ≡ length (dims scales)
key-count [] k l = refl
key-count (s ∷ scales) [] l = absurd (omega (arith, l))
key-count (s ∷ scales) (x ∷ k) l = ap suc (key-count scales k (omega (arith, l)))

key-each : (scales : List (List ℕ)) (k : List ℕ) → length k ≡ length scales → (a : ℕ) → a < length (dims scales) → slice_index (cell_of scales k) a < slice_index (dims scales) a
key-each [] k l a p = absurd (omega (arith, p))
key-each (s ∷ scales) [] l a p = absurd (omega (arith, l))
key-each (s ∷ scales) (x ∷ k) l zero p = omega (arith, few-intervals s x)
key-each (s ∷ scales) (x ∷ k) l (suc a) p = key-each scales k (omega (arith, l)) a (omega (arith, p))

-- a key has a cell
pub key-has-cell : (scales : List (List ℕ)) (k : List ℕ) → length k ≡ length scales → IsCell (dims scales) (cell_of scales k)
key-has-cell scales k l = record { count = key-count scales k l; each = key-each scales k l }

-- the cell of a key between two corners is among the cells between theirs
pub cell-between : (scales : List (List ℕ)) (lo k hi : List ℕ) → length k ≡ length scales → pointwise nat_le lo k ≡ true → pointwise nat_le k hi ≡ true
    → Contains (choices (zip_with from_to (cell_of scales lo) (cell_of scales hi))) (cell_of scales k)
cell-between [] lo k hi l p q = contains-first [] []
cell-between (s ∷ scales) lo [] hi l p q = absurd (omega (arith, l))
cell-between (s ∷ scales) [] (x ∷ k) hi l p q = absurd (true≢false (sym p))
cell-between (s ∷ scales) (b ∷ lo) (x ∷ k) [] l p q = absurd (true≢false (sym q))
cell-between (s ∷ scales) (b ∷ lo) (x ∷ k) (t ∷ hi) l p q =
    let rest = choices (zip_with from_to (cell_of scales lo) (cell_of scales hi)) in
    let begins : interval s b ≤ interval s x = interval-grows s b x (leb-true b x (first (nat_le b x) (pointwise nat_le lo k) p)) in
    let ends : interval s x ≤ interval s t = interval-grows s x t (leb-true x t (first (nat_le x t) (pointwise nat_le k hi) q)) in
    contains-flat (λ i. map (λ cell. i ∷ cell) rest) (from_to (interval s b) (interval s t)) (interval s x) (interval s x ∷ cell_of scales k)
    (contains-range (interval s b) (interval s t + 1 - interval s b) (interval s x) begins (omega (arith, begins, ends)))
    (contains-map (λ cell. interval s x ∷ cell) rest (cell_of scales k)
    (cell-between scales lo k hi (omega (arith, l)) (second (nat_le b x) (pointwise nat_le lo k) p) (second (nat_le x t) (pointwise nat_le k hi) q)))

-- the interval that a number had before its scale was refined
pub before-refined : (s : List ℕ) (v x : ℕ) → IsTrue (is_scale s) → is_among s v ≡ false → interval_before (interval s v) (interval (refined s v) x) ≡ interval s x
before-refined s v x e fresh = by (cases_lt x v)
  where
    by : (x < v) ⊎ (v ≤ x) → interval_before (interval s v) (interval (refined s v) x) ≡ interval s x
    by (inl p) =
        ap (interval_before (interval s v)) (interval-below v x 1 s p e)
        ∙ ap (λ t. cond t (interval s x - 1) (interval s x)) (le-ltb (interval s v) (interval s x) (interval-grows s x v (omega (arith, p))))
    by (inr p) =
        ap (interval_before (interval s v)) (interval-above v x 1 s p e fresh)
        ∙ ap (λ t. cond t (interval s x + 1 - 1) (interval s x + 1)) (lt-ltb (interval s v) (interval s x + 1) (omega (arith, interval-grows s v x p)))
        ∙ omega arith

-- the cell of a key in a refined directory has the key's old cell as its image
pub old-cell : (scales : List (List ℕ)) (k : List ℕ) (a v : ℕ) → length k ≡ length scales → a < length scales → IsTrue (is_scale (scale_of scales a)) → is_among (scale_of scales a) v ≡ false
    → image_of (cell_of (slice_set scales a (refined (scale_of scales a) v)) k) a (interval (scale_of scales a) v) ≡ cell_of scales k
old-cell [] k a v l p e fresh = absurd (omega (arith, p))
old-cell (s ∷ scales) [] a v l p e fresh = absurd (omega (arith, l))
old-cell (s ∷ scales) (x ∷ k) zero v l p e fresh = ap (λ i. i ∷ cell_of scales k) (before-refined s v x e fresh)
old-cell (s ∷ scales) (x ∷ k) (suc a) v l p e fresh = ap (λ cell. interval s x ∷ cell) (old-cell scales k a v (omega (arith, l)) (omega (arith, p)) e fresh)

-- cells have indices
pub have-indices : (K : ℕ) → HaveIndices K
have-indices K = record {
  count = λ scales. cells-counted (dims scales);
  cell_there = λ scales. cell-there (dims scales);
  index_of = λ scales. index-there (dims scales);
  key = key-has-cell;
  region = λ scales r k l h. cell-between scales r.lo k r.hi l (first (pointwise nat_le r.lo k) (pointwise nat_le k r.hi) h) (second (pointwise nat_le r.lo k) (pointwise nat_le k r.hi) h);
  image = old-cell;
}
