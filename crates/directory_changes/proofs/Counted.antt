-- How many parts a change renews, and that they are the directory's.
use Rattle.std.proofs.Common.{◌≡◌, ◌<◌, ◌≤◌, ◌+◌, ◌++◌, ℕ, zero, suc, Bool, true, false, cond, List, [], ◌∷◌, length, slice_index, filter, drop, refl, sym, ap, ◌∙◌, arith, true≢false, length-append, IsTrue}
use Rattle.std.specs.List.{range_with_len}
use Rattle.std.specs.Cmp.{both_ways}
use Rattle.std.proofs.Math.Nat.{le-mul_of_pos_right}
use Rattle.std.proofs.lemmas.List.Elements.{filter-append}
use Rattle.std.proofs.lemmas.List.FromFn.{length-range_with_len}
use Rattle.grid_types.specs.declared.cell_box.CellBox.{CellBox}
use Rattle.grid_types.specs.Shapes.{word_pages}
use Rattle.grid_model.specs.Lists.{below, product, is_among}
use Rattle.grid_model.proofs.Counts.{among-filter, among-range, range-among, length-part}
use Rattle.grid_model.proofs.Members.{contains-filter, contains-range, among-from-contains}
use Rattle.grid_cells.specs.Dims.{IsDims}
use Rattle.grid_cells.proofs.Products.{product-rest, rest-positive}
use Rattle.directory_changes.specs.Changes.{holds_cell, parts_of_box, parts_after, parts_changed, grown}
use Rattle.directory_changes.specs.declared.change.DirectoryChange.{DirectoryChange}
use Rattle.directory_changes.specs.declared.change.DirectoryChange.TheVariants.{Nothing, Patch, Grow}
use Rattle.directory_changes.proofs.Walked.{rest-few}

-- an attribute has no more intervals than there are cells
pub few-intervals : (ns : List ℕ) (a : ℕ) → IsDims ns → a < length ns → slice_index ns a ≤ 1000000
few-intervals ns a d p =
    let some : 0 < product (drop (a + 1) ns) = omega (arith, rest-positive ns (a + 1) d.each) in
    omega (arith, le-mul_of_pos_right (slice_index ns a) some, product-rest ns a p, rest-few ns a d.each, d.few)

range-more : (a n : ℕ) → range_with_len a (n + 1) ≡ range_with_len a n ++ (a + n) ∷ []
range-more a zero = ap (λ x. x ∷ []) (omega arith)
range-more a (suc n) =
    let next : suc n + 1 ≡ suc (n + 1) = omega arith in
    ap (range_with_len a) next ∙ ap (λ xs. a ∷ xs) (range-more (a + 1) n ∙ ap (λ x. range_with_len (a + 1) n ++ x ∷ []) (omega arith))

-- one number more among those that pass a test
pub filter-more : (p : ℕ → Bool) (n : ℕ) → filter p (below (n + 1)) ≡ filter p (below n) ++ cond (p n) (n ∷ []) []
filter-more p n =
    ap (filter p) (range-more 0 n ∙ ap (λ x. below n ++ x ∷ []) (omega arith))
    ∙ filter-append p (below n) (n ∷ [])

pub count-more : (p : ℕ → Bool) (n : ℕ) → length (filter p (below (n + 1))) ≡ length (filter p (below n)) + cond (p n) 1 0
count-more p n =
    ap length (filter-more p n)
    ∙ length-append (filter p (below n)) (cond (p n) (n ∷ []) [])
    ∙ ap (λ x. length (filter p (below n)) + x) (by (p n))
  where
    by : (t : Bool) → length (cond t (n ∷ []) []) ≡ cond t 1 0
    by true = refl
    by false = refl

-- tests that agree on the numbers from one on pass the same ones
alike-from : (p q : ℕ → Bool) (a n : ℕ) → ((k : ℕ) → a ≤ k → k < a + n → p k ≡ q k) → filter p (range_with_len a n) ≡ filter q (range_with_len a n)
alike-from p q a zero h = refl
alike-from p q a (suc n) h =
    let here : p a ≡ q a = h a (omega arith) (omega arith) in
    let rest : filter p (range_with_len (a + 1) n) ≡ filter q (range_with_len (a + 1) n) = alike-from p q (a + 1) n (λ k le lt. h k (omega (arith, le)) (omega (arith, lt))) in
    λ i. cond (here i) (a ∷ rest i) (rest i)

every-from : (a n : ℕ) → filter (λ k. true) (range_with_len a n) ≡ range_with_len a n
every-from a zero = refl
every-from a (suc n) = ap (λ xs. a ∷ xs) (every-from (a + 1) n)

-- the parts of a box are at most all
pub few-parts : {K : ℕ} (ns : List ℕ) (b : CellBox K) → length (parts_of_box ns b) ≤ word_pages (product ns)
few-parts ns b = omega (arith, length-part (holds_cell ns b) (below (word_pages (product ns))), length-range_with_len 0 (word_pages (product ns)))

-- a part that a change renews is one of the directory after it
pub changed-below : {K : ℕ} (ns : List ℕ) (change : DirectoryChange K) (p : ℕ) → IsTrue (is_among (parts_changed ns change) p) → p < parts_after ns change
unfolding parts_changed
changed-below ns Nothing p e = absurd (true≢false (sym e))
changed-below ns (Patch b x) p e = omega (arith, (among-range 0 (word_pages (product ns)) p (among-filter (holds_cell ns b) (below (word_pages (product ns))) p e).0).1)
changed-below ns (Grow a i b x) p e = omega (arith, (among-range 0 (word_pages (product (grown ns a))) p e).1)

pub none-past : {K : ℕ} (ns : List ℕ) (change : DirectoryChange K) (p : ℕ) → parts_after ns change ≤ p → is_among (parts_changed ns change) p ≡ false
none-past ns change p le = by (is_among (parts_changed ns change) p) refl
  where
    by : (t : Bool) → is_among (parts_changed ns change) p ≡ t → t ≡ false
    by true e = absurd (omega (arith, changed-below ns change p e, le))
    by false e = refl

-- how many they are, by the change
pub count-nothing : {K : ℕ} (ns : List ℕ) (change : DirectoryChange K) → change ≡ Nothing → length (parts_changed ns change) ≡ 0
unfolding parts_changed
count-nothing ns change e = ap (λ x. length (parts_changed ns x)) e

pub count-patch : {K : ℕ} (ns : List ℕ) (change : DirectoryChange K) (b : CellBox K) (x : ℕ) → change ≡ Patch b x → length (parts_changed ns change) ≡ length (parts_of_box ns b)
unfolding parts_changed
count-patch ns change b x e = ap (λ y. length (parts_changed ns y)) e

pub count-grow : {K : ℕ} (ns : List ℕ) (change : DirectoryChange K) (a i : ℕ) (b : CellBox K) (x : ℕ) → change ≡ Grow a i b x → length (parts_changed ns change) ≡ parts_after ns change
unfolding parts_changed
count-grow ns change a i b x e = ap (λ y. length (parts_changed ns y)) e ∙ length-range_with_len 0 (word_pages (product (grown ns a))) ∙ sym (ap (parts_after ns) e)

-- a number below another one is among those that pass exactly where it passes
among-passing : (p : ℕ → Bool) (n k : ℕ) → k < n → is_among (filter p (below n)) k ≡ p k
among-passing p n k lt = both_ways (is_among (filter p (below n)) k) (p k) (λ e. (among-filter p (below n) k e).1)
    (λ e. among-from-contains (filter p (below n)) k (contains-filter p (below n) k (contains-range 0 n k (omega arith) (omega (arith, lt))) e))

-- the parts that a change renews are those of the directory after it that it renews
pub changed-filter : {K : ℕ} (ns : List ℕ) (change : DirectoryChange K) → filter (is_among (parts_changed ns change)) (below (parts_after ns change)) ≡ parts_changed ns change
unfolding parts_changed
changed-filter ns Nothing = none-from 0 (word_pages (product ns))
  where
    none-from : (a n : ℕ) → filter (λ k. false) (range_with_len a n) ≡ []
    none-from a zero = refl
    none-from a (suc n) = none-from (a + 1) n
changed-filter ns (Patch b x) = alike-from (is_among (parts_of_box ns b)) (holds_cell ns b) 0 (word_pages (product ns)) (λ k le lt. among-passing (holds_cell ns b) (word_pages (product ns)) k (omega (arith, lt)))
changed-filter ns (Grow a i b x) =
    alike-from (is_among (below (word_pages (product (grown ns a))))) (λ k. true) 0 (word_pages (product (grown ns a))) (λ k le lt. range-among 0 (word_pages (product (grown ns a))) k (omega arith) (omega (arith, lt)))
    ∙ every-from 0 (word_pages (product (grown ns a)))
