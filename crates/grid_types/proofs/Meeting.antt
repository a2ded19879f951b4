-- A region and a query that have a key in common.
use Rattle.std.proofs.Common.{◌≡◌, ◌<◌, ◌≤◌, ◌^◌, ◌↔◌, ◌⊎◌, inl, inr, ℕ, zero, suc, max, true, true≢false, List, [], ◌∷◌, length, get_or, slice_index, map, nat_le, IsTrue, refl, sym, ap, ◌∙◌, arith, le-leb, leb-true}
use Rattle.std.proofs.lemmas.Bool.{eqb-true, eq-eqb, cases_lt}
use Rattle.std.proofs.lemmas.List.{length-map, get_or-map, get_or_past}
use Rattle.std.specs.List.{list_all}
use lib.Pointwise.{pointwise}
use Rattle.grid_types.specs.declared.query.Side.{Side}
use Rattle.grid_types.specs.declared.query.Side.TheVariants.{Any, Exactly, Between}
use Rattle.grid_types.specs.declared.region.Region.{Region}
use Rattle.grid_types.specs.Lists.{zip_with}
use Rattle.grid_types.specs.Queries.{admits, begin_of, end_of, is_straight, is_lawful, matches}
use Rattle.grid_types.specs.Regions.{IsRegion, meets, HaveKeyInCommon}
use Rattle.grid_types.proofs.Each.{each-pair, any-default}
use Rattle.grid_types.proofs.Numbers.{both, first, second, all-at-most, each-at-most, as-long}
use Rattle.grid_types.proofs.Zipped.{long-zip, zip-at}

-- a side asks for each number between its ends
between-ends : (e : Side) (n : ℕ) → begin_of e ≤ n → n ≤ end_of e → admits e n ≡ true
between-ends Any n p q = refl
between-ends (Exactly m) n p q = eq-eqb n m (omega (arith, p, q))
between-ends (Between lo hi) n p q = both (nat_le lo n) (nat_le n hi) (le-leb lo n p) (le-leb n hi q)

-- and for no other one
within-ends : (e : Side) (n : ℕ) → n < 2 ^ 64 → admits e n ≡ true → (begin_of e ≤ n) × (n ≤ end_of e)
within-ends Any n r h = (omega arith, omega (arith, r))
within-ends (Exactly m) n r h = (omega (arith, eqb-true n m h), omega (arith, eqb-true n m h))
within-ends (Between lo hi) n r h = (leb-true lo n (first (nat_le lo n) (nat_le n hi) h), leb-true n hi (second (nat_le lo n) (nat_le n hi) h))

-- a straight side does not end below its begin
straight : (e : Side) → is_straight e ≡ true → begin_of e ≤ end_of e
straight Any h = omega arith
straight (Exactly m) h = omega arith
straight (Between lo hi) h = leb-true lo hi h

-- lists that are compared pair by pair are of one length
as-many : (sides : List Side) (ns : List ℕ) → pointwise admits sides ns ≡ true → length sides ≡ length ns
as-many [] [] h = refl
as-many [] (n ∷ ns) h = absurd (true≢false (sym h))
as-many (e ∷ sides) [] h = absurd (true≢false (sym h))
as-many (e ∷ sides) (n ∷ ns) h = omega (arith, as-many sides ns (second (admits e n) (pointwise admits sides ns) h))

open-matches : (sides : List Side) (k : List ℕ) → matches sides k ≡ true → pointwise admits sides k ≡ true
unfolding matches
open-matches sides k e = e

-- each item passes, so does one
all-pass : (sides : List Side) (i : ℕ) (d : Side) → list_all is_straight sides ≡ true → i < length sides → is_straight (get_or sides i d) ≡ true
all-pass [] i d h l = absurd (omega (arith, l))
all-pass (e ∷ sides) zero d h l = first (is_straight e) (list_all is_straight sides) h
all-pass (e ∷ sides) (suc i) d h l = all-pass sides i d (second (is_straight e) (list_all is_straight sides) h) (omega (arith, l))

-- each pair passes, so does one
pair-passes : (sides : List Side) (ns : List ℕ) (i : ℕ) (d : Side) → pointwise admits sides ns ≡ true → i < length sides → admits (get_or sides i d) (slice_index ns i) ≡ true
pair-passes [] ns i d h l = absurd (omega (arith, l))
pair-passes (e ∷ sides) [] i d h l = absurd (true≢false (sym h))
pair-passes (e ∷ sides) (n ∷ ns) zero d h l = first (admits e n) (pointwise admits sides ns) h
pair-passes (e ∷ sides) (n ∷ ns) (suc i) d h l = pair-passes sides ns i d (second (admits e n) (pointwise admits sides ns) h) (omega (arith, l))

module _ {K : ℕ} (r : Region K) (sides : List Side) (f : IsRegion K r) (count : length sides ≡ K) where
  abbrev begins : List ℕ
  begins = map begin_of sides

  abbrev ends : List ℕ
  ends = map end_of sides

  begin-at : (a : ℕ) → a < K → slice_index begins a ≡ begin_of (get_or sides a Any)
  begin-at a l = get_or-map begin_of sides a Any 0 (omega (arith, l, count))

  end-at : (a : ℕ) → a < K → slice_index ends a ≡ end_of (get_or sides a Any)
  end-at a l = get_or-map end_of sides a Any 0 (omega (arith, l, count))

  begins-long : length begins ≡ K
  begins-long = length-map sides begin_of ∙ count

  ends-long : length ends ≡ K
  ends-long = length-map sides end_of ∙ count

  -- the greater one of the region's low bound and the least number that is asked for, in each attribute
  abbrev candidate : List ℕ
  candidate = zip_with max r.lo begins

  candidate-long : length candidate ≡ K
  candidate-long = long-zip max r.lo begins (f.low.count ∙ sym begins-long) ∙ f.low.count

  candidate-at : (a : ℕ) → slice_index candidate a ≡ max (slice_index r.lo a) (slice_index begins a)
  candidate-at a = zip-at max refl r.lo begins a (f.low.count ∙ sym begins-long)

  module _ (straight-all : is_lawful sides ≡ true) (low : pointwise nat_le r.lo ends ≡ true) (high : pointwise nat_le begins r.hi ≡ true) where
    low-at : (a : ℕ) → a < K → slice_index r.lo a ≤ slice_index ends a
    low-at a l = each-at-most r.lo ends a low (omega (arith, l, f.low.count))

    high-at : (a : ℕ) → a < K → slice_index begins a ≤ slice_index r.hi a
    high-at a l = each-at-most begins r.hi a high (omega (arith, l, begins-long))

    straight-at : (a : ℕ) → a < K → slice_index begins a ≤ slice_index ends a
    straight-at a l = omega (arith, straight (get_or sides a Any) (all-pass sides a Any straight-all (omega (arith, l, count))), begin-at a l, end-at a l)

    below-high : (a : ℕ) → a < K → slice_index candidate a ≤ slice_index r.hi a
    below-high a l = omega (arith, candidate-at a, high-at a l, f.not_empty a l)

    asked-at : (a : ℕ) (e : Side) (n : ℕ) → a < length sides → admits (get_or sides a e) (get_or candidate a n) ≡ true
    asked-at a e n l =
        let inside : a < K = omega (arith, l, count) in
        let asked = between-ends (get_or sides a Any) (slice_index candidate a) (omega (arith, candidate-at a, begin-at a inside))
        (omega (arith, candidate-at a, low-at a inside, straight-at a inside, end-at a inside)) in
        ap (λ f. admits f (get_or candidate a n)) (any-default sides a e Any l)
        ∙ ap (admits (get_or sides a Any)) (any-default candidate a n 0 (omega (arith, inside, candidate-long))) ∙ asked

    in-range : (a : ℕ) → slice_index candidate a < 2 ^ 64
    in-range a = by (cases_lt a K)
      where
        by : (a < K) ⊎ (K ≤ a) → slice_index candidate a < 2 ^ 64
        by (inl l) = omega (arith, below-high a l, f.high.in_range a)
        by (inr l) = omega (arith, get_or_past candidate a 0 (omega (arith, l, candidate-long)))

    all-asked : matches sides candidate ≡ true
    unfolding matches
    all-asked = each-pair admits sides candidate (count ∙ sym candidate-long) asked-at

    pub in-common : HaveKeyInCommon r sides
    in-common = record {
      key = candidate;
      is_key = record { count = candidate-long; in_range = in-range };
      inside = both (pointwise nat_le r.lo candidate) (pointwise nat_le candidate r.hi)
          (all-at-most r.lo candidate (f.low.count ∙ sym candidate-long) (λ a l. omega (arith, candidate-at a)))
          (all-at-most candidate r.hi (candidate-long ∙ sym f.high.count) (λ a l. below-high a (omega (arith, l, candidate-long))));
      asked = all-asked;
    }

  module _ (h : HaveKeyInCommon r sides) where
    asked : pointwise admits sides h.key ≡ true
    asked = open-matches sides h.key h.asked

    ends-at : (a : ℕ) → a < K → (begin_of (get_or sides a Any) ≤ slice_index h.key a) × (slice_index h.key a ≤ end_of (get_or sides a Any))
    ends-at a l = within-ends (get_or sides a Any) (slice_index h.key a) (h.is_key.in_range a) (pair-passes sides h.key a Any asked (omega (arith, l, count)))

    pub before-ends : pointwise nat_le r.lo ends ≡ true
    before-ends = all-at-most r.lo ends (f.low.count ∙ sym ends-long) (λ a l.
        let inside : a < K = omega (arith, l, f.low.count) in
        omega (arith, each-at-most r.lo h.key a (first (pointwise nat_le r.lo h.key) (pointwise nat_le h.key r.hi) h.inside) l, (ends-at a inside).1, end-at a inside))

    pub behind-begins : pointwise nat_le begins r.hi ≡ true
    behind-begins = all-at-most begins r.hi (begins-long ∙ sym f.high.count) (λ a l.
        let inside : a < K = omega (arith, l, begins-long) in
        omega (arith, each-at-most h.key r.hi a (second (pointwise nat_le r.lo h.key) (pointwise nat_le h.key r.hi) h.inside) (omega (arith, inside, h.is_key.count)), (ends-at a inside).0, begin-at a inside))

-- a region meets a lawful query exactly where they have a key in common
pub met : {K : ℕ} (r : Region K) (sides : List Side) → IsRegion K r → is_lawful sides ≡ true → IsTrue (meets r sides) ↔ HaveKeyInCommon r sides
met {K} r sides f lawful = (forth, back)
  where
    forth : meets r sides ≡ true → HaveKeyInCommon r sides
    forth m =
        let low = first (pointwise nat_le r.lo (map end_of sides)) (pointwise nat_le (map begin_of sides) r.hi) m in
        let high = second (pointwise nat_le r.lo (map end_of sides)) (pointwise nat_le (map begin_of sides) r.hi) m in
        let count : length sides ≡ K = sym (length-map sides end_of) ∙ sym (as-long r.lo (map end_of sides) low) ∙ f.low.count in
        in-common r sides f count lawful low high

    back : HaveKeyInCommon r sides → meets r sides ≡ true
    back h =
        let count : length sides ≡ K = as-many sides h.key (open-matches sides h.key h.asked) ∙ h.is_key.count in
        both (pointwise nat_le r.lo (map end_of sides)) (pointwise nat_le (map begin_of sides) r.hi) (before-ends r sides f count h) (behind-begins r sides f count h)
