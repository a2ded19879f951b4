-- The layout of a new file is sound for the empty table.
use Rattle.std.proofs.Common.{◌≡◌, ◌<◌, ◌≤◌, ◌^◌, ℕ, zero, suc, Bool, true, false, cond, ◌&&◌, List, [], length, replicate, slice_index, Some, None, refl, sym, ap, subst, arith, IsTrue, is_some, nat_cmp, nat_le, nat_lt, leb-true, ltb-true, ltb-false}
use Rattle.std.proofs.lemmas.List.{length-replicate, get_or-replicate, get_or_past}
use Rattle.std.specs.Ordering.{eq_by_cmp}
use lib.Pointwise.{pointwise}
use Rattle.grid_types.specs.declared.sizes.TheConstants.{LEAST_RECORDS, MOST_RECORDS, MOST_ATTRIBUTES}
use Rattle.grid_types.specs.declared.shape.Shape.{Shape}
use Rattle.grid_types.specs.Keys.{IsKey, top}
use Rattle.grid_types.specs.Regions.{contains, IsRegion}
use Rattle.grid_types.specs.Shapes.{is_shape, is_from_to, has_lawful_buckets, has_lawful_pages, has_lawful_bounds}
use Rattle.grid_types.proofs.Numbers.{both, first, second, all-at-most}
use Rattle.grid_model.specs.Scales.{scale_of, is_scale, is_drawn}
use Rattle.grid_model.specs.Cells.{cells}
use Rattle.grid_model.specs.Layouts.{BucketBox, box, holder, whole, new_layout}
use Rattle.grid_model.specs.LayoutLaws.{StandsOver}
use Rattle.grid_model.proofs.Found.{one-number}
use Rattle.grid_model.proofs.Boxes.{one-value, some-not-none}

-- what a lawful shape has at least
pub record HasLeasts (s : Shape) : Type 0 where
  pub attributes : 1 ≤ s.k
  pub pages : 8 ≤ s.pages
  pub cells : 1 ≤ s.cells

at_least : (lo hi n : ℕ) → is_from_to lo hi n ≡ true → lo ≤ n
at_least lo hi n e = leb-true lo n (first (nat_le lo n) (nat_le n hi) e)

-- a lawful shape has these
pub has-leasts : (s : Shape) → IsTrue (is_shape s) → HasLeasts s
unfolding is_shape
has-leasts s e =
    let rest : (has_lawful_pages s && has_lawful_bounds s) ≡ true = second (has_lawful_buckets s) (has_lawful_pages s && has_lawful_bounds s) e in
    record {
      attributes = at_least 1 MOST_ATTRIBUTES s.k (first (is_from_to 1 MOST_ATTRIBUTES s.k) (is_from_to LEAST_RECORDS MOST_RECORDS s.capacity) (first (has_lawful_buckets s) (has_lawful_pages s && has_lawful_bounds s) e));
      pages = at_least 8 65536 s.pages (first (is_from_to 8 65536 s.pages) (is_from_to 1 4000 s.slots) (first (has_lawful_pages s) (has_lawful_bounds s) rest));
      cells = at_least 1 1000000 s.cells (second (is_from_to 1 1000 s.boundaries) (is_from_to 1 1000000 s.cells) (second (has_lawful_pages s) (has_lawful_bounds s) rest));
    }

-- scales without boundaries have one cell
pub one_cell : (K : ℕ) → cells (replicate K []) ≡ 1
one_cell zero = refl
one_cell (suc K) = let rest : cells (replicate K []) ≡ 1 = one_cell K in omega (arith, rest)

-- a number as often as there are attributes is a key
pub alike_key : (K x : ℕ) → x < 2 ^ 64 → IsKey K (replicate K x)
alike_key K x h = record { count = length-replicate K x; in_range = λ a. by a (nat_lt a K) refl }
  where
    by : (a : ℕ) (b : Bool) → nat_lt a K ≡ b → slice_index (replicate K x) a < 2 ^ 64
    by a true e = let is : slice_index (replicate K x) a ≡ x = get_or-replicate K a x 0 (ltb-true a K e) in omega (arith, is, h)
    by a false e =
        let long : length (replicate K x) ≡ K = length-replicate K x in
        let is : slice_index (replicate K x) a ≡ 0 = get_or_past (replicate K x) a 0 (omega (arith, long, ltb-false a K e)) in
        omega (arith, is)

-- the region of every key has each key
pub whole_has : (K : ℕ) (k : List ℕ) → IsKey K k → contains (whole K) k ≡ true
whole_has K k key =
    let count : length k ≡ K = key.count in
    let lows : length {A = ℕ} (replicate K 0) ≡ K = length-replicate K 0 in
    let highs : length {A = ℕ} (replicate K top) ≡ K = length-replicate K top in
    both (pointwise nat_le (replicate K 0) k) (pointwise nat_le k (replicate K top))
    (all-at-most (replicate K 0) k (omega (arith, count, lows)) (λ a h. let is : slice_index (replicate K 0) a ≡ 0 = get_or-replicate K a 0 0 (omega (arith, h, lows)) in omega (arith, is)))
    (all-at-most k (replicate K top) (omega (arith, count, highs)) (λ a h.
    let is : slice_index (replicate K top) a ≡ top = get_or-replicate K a top 0 (omega (arith, h, count)) in
    let most : slice_index k a < 2 ^ 64 = key.in_range a in
    omega (arith, is, most)))

-- the one box of a new layout
record IsFirst {K : ℕ} (n : ℕ) (b : BucketBox K) : Type 0 where
  number : n ≡ 0
  here : record { region = whole K; turn = 0 } ≡ b

first_box : (K n : ℕ) (b : BucketBox K) → box (new_layout K) n ≡ Some b → IsFirst n b
unfolding new_layout
first_box K n b e = by (eq_by_cmp nat_cmp n 0) refl e
  where
    by : (t : Bool) → eq_by_cmp nat_cmp n 0 ≡ t → cond t (Some (record { region = whole K; turn = 0 })) None ≡ Some b → IsFirst n b
    by true p e = record { number = one-number n 0 p; here = one-value (record { region = whole K; turn = 0 }) b e }
    by false p e = absurd (some-not-none b (sym e))

-- the layout of a new file is sound for the empty table
pub new-stands : {K : ℕ} (shape : Shape) → IsTrue (is_shape shape) → shape.k ≡ K → StandsOver shape (new_layout K) []
unfolding new_layout holder
new-stands {K} shape lawful attributes = record {
  lawful = lawful;
  attributes = attributes;
  table = tt;
  keys = λ k d e. absurd (some-not-none d (sym e));
  values = λ k d e. absurd (some-not-none d (sym e));
  sound = record {
    attributes = length-replicate K [];
    scales = λ a h. subst (λ s. IsTrue (is_scale s)) (sym (no_boundary a h)) refl;
    few_boundaries = λ a h. subst (λ s. length s ≤ shape.boundaries) (sym (no_boundary a h)) (omega arith);
    few_cells = let one = one_cell K in let least = leasts.cells in omega (arith, one, least);
    numbered = tt;
    regions = λ n b e. subst (λ (d : BucketBox K). IsRegion K d.region) (first_box K n b e).here (record { low = alike_key K 0 (omega arith); high = alike_key K top (omega arith); not_empty = λ a h. between a h });
    turns = λ n b e. subst (λ (d : BucketBox K). d.turn < K) (first_box K n b e).here (let least = leasts.attributes in omega (arith, least, attributes));
    drawn = λ n b e a h. subst (λ (d : BucketBox K). IsTrue (is_drawn (scale_of (replicate K []) a) (slice_index d.region.lo a) (slice_index d.region.hi a))) (first_box K n b e).here (ends a h);
    covers = λ k key. ap (λ t. is_some (cond t (Some first_entry) None)) (whole_has K k key);
    apart = λ k n m b c there here _ _. let n_is = (first_box K n b there).number in let m_is = (first_box K m c here).number in omega (arith, n_is, m_is);
    room = λ n b e. omega arith;
    below_pages = λ n b e. let is = (first_box K n b e).number in let least = leasts.pages in omega (arith, is, least);
  };
}
  where
    leasts : HasLeasts shape
    leasts = has-leasts shape lawful

    first_one : BucketBox K
    first_one = record { region = whole K; turn = 0 }

    first_entry : ℕ × BucketBox K
    first_entry = (0, first_one)

    no_boundary : (a : ℕ) → a < K → scale_of (replicate K []) a ≡ []
    no_boundary a h = get_or-replicate K a [] [] h

    lowest : (a : ℕ) → a < K → slice_index (replicate K 0) a ≡ 0
    lowest a h = get_or-replicate K a 0 0 h

    highest : (a : ℕ) → a < K → slice_index (replicate K top) a ≡ top
    highest a h = get_or-replicate K a top 0 h

    between : (a : ℕ) → a < K → slice_index (replicate K 0) a ≤ slice_index (replicate K top) a
    between a h = let low = lowest a h in let high = highest a h in omega (arith, low, high)

    ends : (a : ℕ) → a < K → IsTrue (is_drawn (scale_of (replicate K []) a) (slice_index (replicate K 0) a) (slice_index (replicate K top) a))
    ends a h = (λ i. is_drawn (no_boundary a h i) (lowest a h i) (highest a h i))
