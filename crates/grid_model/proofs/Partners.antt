-- Which merges are lawful: those of the box that has the key with the box of a key beside it.
use Rattle.std.proofs.Common.{◌≡◌, ◌<◌, ◌+◌, ◌-◌, ℕ, zero, suc, Bool, true, false, cond, List, [], ◌∷◌, length, slice_index, slice_set, nat_lt, nat_le, Option, is_some, ◌||◌, map, ◌≢◌, Some, None, Contains, refl, sym, ap, ◌∙◌, arith, T, nat_cmp, true≢false, ltb-true, filter_map, flat_map}
use Rattle.std.proofs.lemmas.Bool.{and_left}
use Rattle.std.specs.Option.{IfSome, option_and_then, option_map_or, option_map}
use Rattle.std.specs.Bool.{⊤}
use Rattle.std.specs.List.{range_with_len, All, AllByRecursion, cons_option}
use Rattle.std.proofs.lemmas.List.{get_or-set_same, length-set}
use Rattle.std.proofs.lemmas.List.Elements.{All-from_recursion, All-contains, All-map}
use Rattle.std.specs.FinMap.Entries.{is_sorted}
use lib.Pointwise.{pointwise}
use Rattle.grid_types.specs.declared.region.Region.{Region}
use Rattle.grid_types.specs.declared.shape.Shape.{Shape}
use Rattle.grid_types.specs.declared.layout_change.Cut.{Cut}
use Rattle.grid_types.specs.declared.layout_change.LayoutChange.{LayoutChange}
use Rattle.grid_types.specs.declared.layout_change.LayoutChange.TheVariants as note
use Rattle.grid_types.specs.Regions.{contains, make_a_box}
use Rattle.grid_types.proofs.Each.{fails-last}
use Rattle.grid_types.proofs.Numbers.{first, second, one-above}
use Rattle.grid_types.specs.Keys.{top}
use Rattle.grid_model.specs.Tables.{Table, get, without}
use Rattle.grid_model.specs.Layouts.{BucketBox, Layout, box, holder, records_inside}
use Rattle.grid_model.specs.Neighbours.{Direction, Below, Above, directions_of, directions, probe, fit_together, can_join, if_joins, joins, partners}
use Rattle.grid_model.specs.Cuts.{cut}
use Rattle.grid_model.specs.Notes.{merges, merges_at, put_note, put_note_at, cut_note, keys_with}
use Rattle.grid_model.proofs.Boxes.{one-box}
use Rattle.grid_model.proofs.Holders.{holder-box}

-- a number of a box that the region joins with: the box has a key that the region does not have
record IsPartner {K : ℕ} (shape : Shape) (L : Layout K) (t : Table) (r : Region K) (m : ℕ) : Type 0 where
  pub here : BucketBox K
  pub key : List ℕ
  pub outside : contains r key ≡ false
  pub found : holder L key ≡ Some (m, here)
  pub fits : can_join shape t r here.region ≡ true

-- the probe below an attribute is no key of the region
below-outside : {K : ℕ} (r : Region K) (a : ℕ) → a < length r.lo → IfSome (probe r (Below a)) (λ k. contains r k ≡ false)
below-outside r a p = by (nat_lt 0 (slice_index r.lo a)) refl
  where
    by : (t : Bool) → nat_lt 0 (slice_index r.lo a) ≡ t → IfSome (cond t (Some (slice_set r.lo a (slice_index r.lo a - 1))) None) (λ k. contains r k ≡ false)
    by true e =
        let k = slice_set r.lo a (slice_index r.lo a - 1) in
        let here : slice_index k a ≡ slice_index r.lo a - 1 = get_or-set_same r.lo a (slice_index r.lo a - 1) 0 p in
        and_left (pointwise nat_le r.lo k) (pointwise nat_le k r.hi) (one-above r.lo k a p (omega (arith, here, ltb-true 0 (slice_index r.lo a) e)))
    by false e = tt

-- nor is the one above it
above-outside : {K : ℕ} (r : Region K) (a : ℕ) → a < length r.lo → IfSome (probe r (Above a)) (λ k. contains r k ≡ false)
above-outside r a p = by (nat_lt (slice_index r.hi a) top) refl
  where
    by : (t : Bool) → nat_lt (slice_index r.hi a) top ≡ t → IfSome (cond t (Some (slice_set r.lo a (slice_index r.hi a + 1))) None) (λ k. contains r k ≡ false)
    by true e =
        let k = slice_set r.lo a (slice_index r.hi a + 1) in
        let here : slice_index k a ≡ slice_index r.hi a + 1 = get_or-set_same r.lo a (slice_index r.hi a + 1) 0 p in
        let long : length k ≡ length r.lo = length-set r.lo a (slice_index r.hi a + 1) in
        fails-last (pointwise nat_le r.lo k) (pointwise nat_le k r.hi) (one-above k r.hi a (omega (arith, long, p)) (omega (arith, here)))
    by false e = tt

module _ {K : ℕ} (shape : Shape) (L : Layout K) (t : Table) (r : Region K) where
  abbrev Partner : ℕ → Type 0
  Partner m = IsPartner shape L t r m

  -- the box of a key that the region does not have, where it joins
  box-of-key : (k : List ℕ) → contains r k ≡ false → IfSome (option_and_then (if_joins shape t r) (holder L k)) Partner
  box-of-key k outside = by (holder L k) refl
    where
      joined : (e : ℕ × BucketBox K) → holder L k ≡ Some e → (s : Bool) → can_join shape t r e.1.region ≡ s → IfSome (cond s (Some e.0) None) (IsPartner shape L t r)
      joined e h true f = record { here = e.1; key = k; outside = outside; found = h; fits = f }
      joined e h false f = tt

      by : (o : Option (ℕ × BucketBox K)) → holder L k ≡ o → IfSome (option_and_then (if_joins shape t r) o) (IsPartner shape L t r)
      by None h = tt
      by (Some e) h = joined e h (can_join shape t r e.1.region) refl

  -- the neighbour at a probe, where there is one and it joins
  at-probe : (o : Option (List ℕ)) → IfSome o (λ k. contains r k ≡ false) → IfSome (option_and_then (if_joins shape t r) (option_and_then (holder L) o)) Partner
  at-probe None h = tt
  at-probe (Some k) h = box-of-key k h

  -- each side of an attribute has no neighbour that joins, or a partner
  each-side : (i n : ℕ) → i + n ≡ length r.lo → AllByRecursion (λ side. IfSome (joins shape L t r side) Partner) (flat_map directions_of (range_with_len i n))
  each-side i zero e = tt
  each-side i (suc n) e = (at-probe (probe r (Below i)) (below-outside r i (omega (arith, e))), (at-probe (probe r (Above i)) (above-outside r i (omega (arith, e))), each-side (i + 1) n (omega (arith, e))))

  what-joins : (xs : List Direction) → AllByRecursion (λ side. IfSome (joins shape L t r side) Partner) xs → AllByRecursion Partner (filter_map (joins shape L t r) xs)
  what-joins [] h = tt
  what-joins (x ∷ xs) (p, h) = by (joins shape L t r x) p (what-joins xs h)
    where
      by : (o : Option ℕ) → IfSome o (IsPartner shape L t r) → AllByRecursion (IsPartner shape L t r) (filter_map (joins shape L t r) xs) → AllByRecursion (IsPartner shape L t r) (cons_option o (filter_map (joins shape L t r) xs))
      by None q rest = rest
      by (Some m) q rest = (q, rest)

  -- each of the partners is one
  each-partner : All Partner (partners shape L t r)
  unfolding partners
  each-partner = All-from_recursion Partner (partners shape L t r) (what-joins (directions (length r.lo)) (each-side 0 (length r.lo) (omega arith)))

-- a merge that a remove of a key may take: the box that has the key, and another one that makes a box with it and fits
pub record IsMergeOf {K : ℕ} (shape : Shape) (L : Layout K) (t : Table) (k : List ℕ) (m : ℕ) : Type 0 where
  pub number : ℕ
  pub here : BucketBox K
  pub other : BucketBox K
  pub holds : holder L k ≡ Some (number, here)
  pub there : box L number ≡ Some here
  pub beside : box L m ≡ Some other
  pub differ : number ≢ m
  pub make : make_a_box here.region other.region ≡ true
  pub fit : fit_together shape (without t k) here.region other.region ≡ true

-- a partner of the region of the box that has the key makes a merge
with-partner : {K : ℕ} (shape : Shape) (L : Layout K) (t : Table) (k : List ℕ) (m : ℕ) (e : ℕ × BucketBox K) → T (is_sorted nat_cmp L.boxes) → holder L k ≡ Some e → IsPartner shape L (without t k) e.1.region m → IsMergeOf shape L t k m
with-partner shape L t k m e sorted holds p = record {
  number = e.0;
  here = e.1;
  other = p.here;
  holds = holds;
  there = there.0;
  beside = beside.0;
  differ = λ same. true≢false (sym beside.1 ∙ ap (λ x. contains x.region p.key) (one-box L m e.0 p.here e.1 beside.0 there.0 (sym same)) ∙ p.outside);
  make = first (make_a_box e.1.region p.here.region) (fit_together shape (without t k) e.1.region p.here.region) p.fits;
  fit = second (make_a_box e.1.region p.here.region) (fit_together shape (without t k) e.1.region p.here.region) p.fits;
}
  where
    there : (box L e.0 ≡ Some e.1) × (contains e.1.region k ≡ true)
    there = holder-box k L e sorted holds

    beside : (box L m ≡ Some p.here) × (contains p.here.region p.key ≡ true)
    beside = holder-box p.key L (m, p.here) sorted p.found

module _ {K : ℕ} (shape : Shape) (L : Layout K) (t : Table) (k : List ℕ) where
  -- what a note says where it is a merge of a region
  abbrev Merges : Region K → LayoutChange → Type 0
  Merges r note.Plain = ⊤
  Merges r (note.Cut c right) = ⊤
  Merges r (note.Merge m) = IsPartner shape L (without t k) r m

  -- each merge that a remove may take is one of two boxes
  pub each-merge : (m : ℕ) → T (is_sorted nat_cmp L.boxes) → Contains (merges shape L t k) (note.Merge m) → IsMergeOf shape L t k m
  unfolding merges
  each-merge m sorted h = by (holder L k) refl h
    where
      by : (o : Option (ℕ × BucketBox K)) → holder L k ≡ o → Contains (option_map_or (λ e. merges_at shape L t k e.1) o []) (note.Merge m) → IsMergeOf shape L t k m
      by None e q = absurd (omega (arith, q.1))
      by (Some e) p q =
          let ps = partners shape L (without t k) e.1.region in
          with-partner shape L t k m e sorted p (All-contains (Merges e.1.region) (map note.Merge ps) (note.Merge m) (All-map (Merges e.1.region) note.Merge ps (each-partner shape L (without t k) e.1.region)) q)

  -- a put takes no merge
  pub no-merge-of-put : (m : ℕ) → put_note shape L t k ≢ Some (note.Merge m)
  unfolding put_note
  no-merge-of-put m h = by (holder L k) h
    where
      no-cut : (o : Option Cut) → option_map (cut_note L) o ≢ Some (note.Merge m)
      no-cut None q = cc
      no-cut (Some c) q = cc

      no-note : (s : Bool) (o : Option Cut) → cond s (Some note.Plain) (option_map (cut_note L) o) ≢ Some (note.Merge m)
      no-note true o q = cc
      no-note false o q = no-cut o q

      by : (o : Option (ℕ × BucketBox K)) → option_and_then (λ e. put_note_at shape L t k e.1) o ≢ Some (note.Merge m)
      by None q = cc
      by (Some e) q = no-note (is_some (get t k) || nat_lt (length (records_inside t e.1.region)) shape.capacity) (cut shape L.scales e.1 (keys_with t e.1.region k)) q
