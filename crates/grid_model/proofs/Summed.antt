-- How many records the boxes have, taken together.
use Rattle.std.proofs.Common.{◌≡◌, ℕ, ◌+◌, Bool, true, false, cond, T, List, [], ◌∷◌, length, slice_index_or, All, Some, refl, sym, ap, ◌∙◌, arith, true≢false, nat_cmp, is_some}
use Rattle.std.proofs.lemmas.List.Elements.{All-head, All-tail}
use Rattle.std.proofs.lemmas.List.Sums.{sum_by-cons}
use Rattle.std.specs.List as lists
use Rattle.std.specs.List.{sum_by, count_by}
use Rattle.std.specs.Cmp.{nat_cmp_total}
use Rattle.std.specs.FinMap.{nat_cmp-IsAntisymmetric}
use Rattle.std.specs.FinMap.Entries.{find, is_sorted, below_all}
use Rattle.grid_types.specs.declared.region.Region.{Region}
use Rattle.grid_types.specs.declared.shape.Shape.{Shape}
use Rattle.grid_types.specs.Regions.{contains}
use Rattle.grid_model.specs.Tables.{Table, get}
use Rattle.grid_model.specs.Layouts.{BucketBox, Layout, holder, records_inside}
use Rattle.grid_model.specs.LayoutLaws.{StandsOver}
use Rattle.grid_model.proofs.Boxes.{some-not-none}
use Rattle.grid_model.proofs.Truths.{part-one, part-two}
use Rattle.grid_model.proofs.Ascending.{none-below, first-found, behind-found, each-found}
use Rattle.grid_model.proofs.Gathered.{each-entry, has}

module _ {X : Type 0} where
  -- the sum of two numbers of each item is the sum of the ones and the sum of the others
  pub sum-of-both : (f g : X → ℕ) (xs : List X) → sum_by (λ x. f x + g x) xs ≡ sum_by f xs + sum_by g xs
  sum-of-both f g [] = refl
  sum-of-both f g (x ∷ xs) = omega (arith, sum_by-cons (λ y. f y + g y) x xs, sum_by-cons f x xs, sum_by-cons g x xs, sum-of-both f g xs)

  -- where each item has 0, the sum is 0
  pub sum-of-nothing : (xs : List X) → sum_by (λ x. 0) xs ≡ 0
  sum-of-nothing [] = refl
  sum-of-nothing (x ∷ xs) = sum-of-nothing xs

  -- where no item passes, none is counted
  pub none-counted : (p : X → Bool) (xs : List X) → All (λ x. p x ≡ false) xs → count_by p xs ≡ 0
  none-counted p [] h = refl
  none-counted p (x ∷ xs) h =
      let first : ◌≡◌ {A = ℕ} (cond (p x) 1 0) 0 = ap (λ b. cond b 1 0) (All-head (λ y. p y ≡ false) x xs h) in
      omega (arith, sum_by-cons (λ y. cond (p y) 1 0) x xs, first, none-counted p xs (All-tail (λ y. p y ≡ false) x xs h))

module _ {K : ℕ} where
  -- no two of these boxes have the key
  abbrev pub ApartAt : List ℕ → List (ℕ × BucketBox K) → Type 0
  ApartAt k es = (n m : ℕ) (b c : BucketBox K) → find nat_cmp n es ≡ Some b → find nat_cmp m es ≡ Some c → contains b.region k ≡ true → contains c.region k ≡ true → n ≡ m

  -- where the first box has the key, no other has it
  pub no-other-box : (k : List ℕ) (x : ℕ × BucketBox K) (es : List (ℕ × BucketBox K)) → T (is_sorted nat_cmp (x ∷ es)) → ApartAt k (x ∷ es) → has k x ≡ true → All (λ y. has k y ≡ false) es
  no-other-box k x es s apart here i d l = by (slice_index_or es i d) (each-found nat_cmp nat_cmp_total nat_cmp-IsAntisymmetric es sorted i d l) (has k (slice_index_or es i d)) refl
    where
      below : T (below_all nat_cmp x.0 es)
      below = part-one (below_all nat_cmp x.0 es) (is_sorted nat_cmp es) s

      sorted : T (is_sorted nat_cmp es)
      sorted = part-two (below_all nat_cmp x.0 es) (is_sorted nat_cmp es) s

      by : (y : ℕ × BucketBox K) → find nat_cmp y.0 es ≡ Some y.1 → (b : Bool) → has k y ≡ b → b ≡ false
      by y found true has_it =
          let same : x.0 ≡ y.0 = apart x.0 y.0 x.1 y.1 (first-found nat_cmp nat_cmp_total nat_cmp-IsAntisymmetric x es) (behind-found nat_cmp nat_cmp_total nat_cmp-IsAntisymmetric x es y.0 y.1 below found) here has_it in
          absurd (some-not-none y.1 (sym found ∙ ap (λ n. find nat_cmp n es) (sym same) ∙ none-below nat_cmp x.0 es below))
      by y found false has_not = refl

  -- a key that some box has, and no two, is in one box
  pub one-box-has : (k : List ℕ) (es : List (ℕ × BucketBox K)) → T (is_sorted nat_cmp es) → ApartAt k es → is_some (lists.find (has k) es) ≡ true → count_by (has k) es ≡ 1
  one-box-has k [] s apart some = absurd (true≢false (sym some))
  one-box-has k (x ∷ es) s apart some = by (has k x) refl some (one-box-has k es sorted (λ n m b c p q. apart n m b c (behind n b p) (behind m c q)))
    where
      below : T (below_all nat_cmp x.0 es)
      below = part-one (below_all nat_cmp x.0 es) (is_sorted nat_cmp es) s

      sorted : T (is_sorted nat_cmp es)
      sorted = part-two (below_all nat_cmp x.0 es) (is_sorted nat_cmp es) s

      behind : (n : ℕ) (b : BucketBox K) → find nat_cmp n es ≡ Some b → find nat_cmp n (x ∷ es) ≡ Some b
      behind n b found = behind-found nat_cmp nat_cmp_total nat_cmp-IsAntisymmetric x es n b below found

      counted : (b : Bool) → has k x ≡ b → count_by (has k) (x ∷ es) ≡ cond b 1 0 + count_by (has k) es
      counted b is = sum_by-cons (λ y. cond (has k y) 1 0) x es ∙ ap (λ c. cond c 1 0 + count_by (has k) es) is

      by : (b : Bool) → has k x ≡ b → is_some (cond b (Some x) (lists.find (has k) es)) ≡ true → (is_some (lists.find (has k) es) ≡ true → count_by (has k) es ≡ 1) → count_by (has k) (x ∷ es) ≡ 1
      by true is some rest = omega (arith, counted true is, none-counted (has k) es (no-other-box k x es s apart is))
      by false is some rest = omega (arith, counted false is, rest some)

  -- how many records the regions of the boxes have together
  abbrev pub records_in_all : Table → List (ℕ × BucketBox K) → ℕ
  records_in_all t es = sum_by (λ e. length (records_inside t e.1.region)) es

  -- a region has one record more where it has the key of one entry more
  pub one-inside : (e : List ℕ × List ℕ) (t : Table) (r : Region K) → length (records_inside (e ∷ t) r) ≡ cond (contains r e.0) 1 0 + length (records_inside t r)
  one-inside e t r = by (contains r e.0)
    where
      by : (b : Bool) → length (cond b (e ∷ records_inside t r) (records_inside t r)) ≡ cond b 1 0 + length (records_inside t r)
      by true = omega arith
      by false = omega arith

  -- all boxes together have one record more for each box that has the key of one entry more
  pub one-more-in-all : (e : List ℕ × List ℕ) (t : Table) (es : List (ℕ × BucketBox K)) → records_in_all (e ∷ t) es ≡ count_by (has e.0) es + records_in_all t es
  one-more-in-all e t es =
      ap (λ (f : ℕ × BucketBox K → ℕ). sum_by f es) (λ i x. one-inside e t x.1.region i)
      ∙ sum-of-both (λ (x : ℕ × BucketBox K). cond (has e.0 x) 1 0) (λ (x : ℕ × BucketBox K). length (records_inside t x.1.region)) es

  -- where each entry's key is in one box, the boxes together have as many records as the table
  pub as-many-in-all : (t : Table) (es : List (ℕ × BucketBox K)) → All (λ e. count_by (has e.0) es ≡ 1) t → records_in_all t es ≡ length t
  as-many-in-all [] es h = sum-of-nothing es
  as-many-in-all (e ∷ t) es h =
      omega (
        arith,
        one-more-in-all e t es,
        All-head (λ (x : List ℕ × List ℕ). count_by (has x.0) es ≡ 1) e t h,
        as-many-in-all t es (All-tail (λ (x : List ℕ × List ℕ). count_by (has x.0) es ≡ 1) e t h),
      )

  -- the boxes of a layout have together as many records as the table over which it stands
  pub all-counted : (shape : Shape) (L : Layout K) (t : Table) → StandsOver shape L t → records_in_all t L.boxes ≡ length t
  unfolding holder
  all-counted shape L t h = as-many-in-all t L.boxes (λ i d l. in_one _ _ (each-entry t h.table i d l))
    where
      in_one : (k d : List ℕ) → get t k ≡ Some d → count_by (has k) L.boxes ≡ 1
      in_one k d there = one-box-has k L.boxes h.sound.numbered (h.sound.apart k) (h.sound.covers k (h.keys k d there))
