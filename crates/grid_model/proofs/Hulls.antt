-- The hull of two regions that together are a box has the keys of both, and no other.
use Rattle.std.proofs.Common.{◌≡◌, ◌≢◌, ◌<◌, ◌≤◌, ◌+◌, ℕ, zero, suc, min, max, Bool, true, false, ◌&&◌, ◌||◌, List, length, slice_index, slice_set, nat_le, ◌==◌, refl, sym, ap, subst, ◌∙◌, arith, ◌⊎◌, inl, inr, true≢false, eqb-true}
use Rattle.std.proofs.lemmas.Bool.{or_left, or_right, or_cases, cases_lt, cases_eq}
use Rattle.std.proofs.Math.Bool.{or_comm}
use Rattle.std.proofs.Math.Nat.{min_comm, max_comm}
use Rattle.std.specs.Cmp.{both_ways}
use Rattle.std.proofs.lemmas.List.{get_or-set_other}
use Rattle.std.specs.List.{list_any, range_with_len}
use lib.Pointwise.{pointwise, bytes_decides}
use Rattle.grid_types.specs.declared.region.Region.{Region}
use Rattle.grid_types.specs.Regions.{contains, IsRegion, hull, make_a_box, touch_along, same_but, one_follows}
use Rattle.grid_types.proofs.Numbers.{both, first, second, each-at-most, all-at-most, as-long}
use Rattle.grid_types.proofs.Zipped.{long-zip, zip-at, zip-turned}
use Rattle.grid_model.specs.Lists.{is_among}
use Rattle.grid_model.specs.Scales.{lows, highs, is_drawn}

min-among : (ns : List ℕ) (x y : ℕ) → is_among ns x ≡ true → is_among ns y ≡ true → is_among ns (min x y) ≡ true
min-among ns x y p q = by (cases_lt x y)
  where
    by : (x < y) ⊎ (y ≤ x) → is_among ns (min x y) ≡ true
    by (inl h) =
        let same : min x y ≡ x = omega (arith, h) in
        ap (is_among ns) same ∙ p
    by (inr h) =
        let same : min x y ≡ y = omega (arith, h) in
        ap (is_among ns) same ∙ q

max-among : (ns : List ℕ) (x y : ℕ) → is_among ns x ≡ true → is_among ns y ≡ true → is_among ns (max x y) ≡ true
max-among ns x y p q = by (cases_lt x y)
  where
    by : (x < y) ⊎ (y ≤ x) → is_among ns (max x y) ≡ true
    by (inl h) =
        let same : max x y ≡ y = omega (arith, h) in
        ap (is_among ns) same ∙ q
    by (inr h) =
        let same : max x y ≡ x = omega (arith, h) in
        ap (is_among ns) same ∙ p

module _ {K : ℕ} (r s : Region K) (f : IsRegion K r) (g : IsRegion K s) where
  low-at : (a : ℕ) → slice_index (hull r s).lo a ≡ min (slice_index r.lo a) (slice_index s.lo a)
  low-at a = zip-at min refl r.lo s.lo a (f.low.count ∙ sym g.low.count)

  high-at : (a : ℕ) → slice_index (hull r s).hi a ≡ max (slice_index r.hi a) (slice_index s.hi a)
  high-at a = zip-at max refl r.hi s.hi a (f.high.count ∙ sym g.high.count)

  -- the hull of two regions is one
  pub hull-region : IsRegion K (hull r s)
  hull-region = record {
    low = record { count = long-zip min r.lo s.lo (f.low.count ∙ sym g.low.count) ∙ f.low.count; in_range = λ a. omega (arith, low-at a, f.low.in_range a) };
    high = record { count = long-zip max r.hi s.hi (f.high.count ∙ sym g.high.count) ∙ f.high.count; in_range = λ a. omega (arith, high-at a, f.high.in_range a, g.high.in_range a) };
    not_empty = λ a p. omega (arith, low-at a, high-at a, f.not_empty a p);
  }

  -- the bounds of the hull of two regions are drawn where theirs are
  pub hull-drawn : (scale : List ℕ) (a : ℕ) → is_drawn scale (slice_index r.lo a) (slice_index r.hi a) ≡ true → is_drawn scale (slice_index s.lo a) (slice_index s.hi a) ≡ true
      → is_drawn scale (slice_index (hull r s).lo a) (slice_index (hull r s).hi a) ≡ true
  hull-drawn scale a p q =
      (λ i. is_drawn scale (low-at a i) (high-at a i))
      ∙ both (is_among (lows scale) (min (slice_index r.lo a) (slice_index s.lo a))) (is_among (highs scale) (max (slice_index r.hi a) (slice_index s.hi a)))
      (min-among (lows scale) (slice_index r.lo a) (slice_index s.lo a)
      (first (is_among (lows scale) (slice_index r.lo a)) (is_among (highs scale) (slice_index r.hi a)) p)
      (first (is_among (lows scale) (slice_index s.lo a)) (is_among (highs scale) (slice_index s.hi a)) q))
      (max-among (highs scale) (slice_index r.hi a) (slice_index s.hi a)
      (second (is_among (lows scale) (slice_index r.lo a)) (is_among (highs scale) (slice_index r.hi a)) p)
      (second (is_among (lows scale) (slice_index s.lo a)) (is_among (highs scale) (slice_index s.hi a)) q))

-- a list lies in a region: it has K numbers, each between the two bounds
record LiesIn {K : ℕ} (r : Region K) (k : List ℕ) : Type 0 where
  pub count : length k ≡ K
  pub low : (a : ℕ) → a < K → slice_index r.lo a ≤ slice_index k a
  pub high : (a : ℕ) → a < K → slice_index k a ≤ slice_index r.hi a

lies : {K : ℕ} (r : Region K) (k : List ℕ) → IsRegion K r → contains r k ≡ true → LiesIn r k
lies r k f e =
    let above = first (pointwise nat_le r.lo k) (pointwise nat_le k r.hi) e in
    let below = second (pointwise nat_le r.lo k) (pointwise nat_le k r.hi) e in
    let count = sym (as-long r.lo k above) ∙ f.low.count in
    record {
      count = count;
      low = λ a p. each-at-most r.lo k a above (omega (arith, p, f.low.count));
      high = λ a p. each-at-most k r.hi a below (omega (arith, p, count));
    }

is-contained : {K : ℕ} (r : Region K) (k : List ℕ) → IsRegion K r → LiesIn r k → contains r k ≡ true
is-contained r k f w =
    both (pointwise nat_le r.lo k) (pointwise nat_le k r.hi)
    (all-at-most r.lo k (f.low.count ∙ sym w.count) (λ a p. w.low a (omega (arith, p, f.low.count))))
    (all-at-most k r.hi (w.count ∙ sym f.high.count) (λ a p. w.high a (omega (arith, p, w.count))))

-- what holds at one number and at all others holds at each
all-but-one : (P : ℕ → Type 0) (a : ℕ) → P a → ((i : ℕ) → i ≢ a → P i) → (i : ℕ) → P i
all-but-one P a here others i = by (cases_eq i a)
  where
    by : (i ≡ a) ⊎ (i ≢ a) → P i
    by (inl e) = subst P (sym e) here
    by (inr d) = others i d

same-elsewhere : (a : ℕ) (xs ys : List ℕ) → same_but a xs ys ≡ true → (i : ℕ) → i ≢ a → slice_index xs i ≡ slice_index ys i
same-elsewhere a xs ys e i differ =
    sym (get_or-set_other xs a i 0 0 differ)
    ∙ ap (λ zs. slice_index zs i) ((bytes_decides (slice_set xs a 0) (slice_set ys a 0)).0 e)
    ∙ get_or-set_other ys a i 0 0 differ

-- s lies behind r in attribute a, and is as r in the others
record Follows {K : ℕ} (r s : Region K) (a : ℕ) : Type 0 where
  pub lows : (i : ℕ) → i ≢ a → slice_index r.lo i ≡ slice_index s.lo i
  pub highs : (i : ℕ) → i ≢ a → slice_index r.hi i ≡ slice_index s.hi i
  pub next : slice_index r.hi a + 1 ≡ slice_index s.lo a

module _ {K : ℕ} (r s : Region K) (k : List ℕ) (f : IsRegion K r) (g : IsRegion K s) where
  in-hull : (contains r k ≡ true) ⊎ (contains s k ≡ true) → LiesIn (hull r s) k
  in-hull (inl e) =
      let w = lies r k f e in
      record { count = w.count; low = λ a p. omega (arith, low-at r s f g a, w.low a p); high = λ a p. omega (arith, high-at r s f g a, w.high a p) }
  in-hull (inr e) =
      let w = lies s k g e in
      record { count = w.count; low = λ a p. omega (arith, low-at r s f g a, w.low a p); high = λ a p. omega (arith, high-at r s f g a, w.high a p) }

  module _ (a : ℕ) (after : Follows r s a) (w : LiesIn (hull r s) k) where
    in-first : slice_index k a ≤ slice_index r.hi a → LiesIn r k
    in-first h = record {
      count = w.count;
      low = all-but-one (λ i. i < K → slice_index r.lo i ≤ slice_index k i) a
          (λ p. omega (arith, low-at r s f g a, w.low a p, after.next, f.not_empty a p))
          (λ i d p. omega (arith, low-at r s f g i, w.low i p, after.lows i d));
      high = all-but-one (λ i. i < K → slice_index k i ≤ slice_index r.hi i) a
          (λ p. h)
          (λ i d p. omega (arith, high-at r s f g i, w.high i p, after.highs i d));
    }

    in-second : slice_index r.hi a < slice_index k a → LiesIn s k
    in-second h = record {
      count = w.count;
      low = all-but-one (λ i. i < K → slice_index s.lo i ≤ slice_index k i) a
          (λ p. omega (arith, h, after.next))
          (λ i d p. omega (arith, low-at r s f g i, w.low i p, after.lows i d));
      high = all-but-one (λ i. i < K → slice_index k i ≤ slice_index s.hi i) a
          (λ p. omega (arith, h, high-at r s f g a, w.high a p))
          (λ i d p. omega (arith, high-at r s f g i, w.high i p, after.highs i d));
    }

    in-one : (slice_index r.hi a < slice_index k a) ⊎ (slice_index k a ≤ slice_index r.hi a) → (contains r k || contains s k) ≡ true
    in-one (inl h) = or_right (contains r k) (contains s k) (is-contained s k g (in-second h))
    in-one (inr h) = or_left (contains r k) (contains s k) (is-contained r k f (in-first h))

  -- the hull of a region and of one that follows it has the keys of both
  hull-of-two : (a : ℕ) → Follows r s a → contains (hull r s) k ≡ (contains r k || contains s k)
  hull-of-two a after = both_ways (contains (hull r s) k) (contains r k || contains s k)
      (λ e. in-one a after (lies (hull r s) k (hull-region r s f g) e) (cases_lt (slice_index r.hi a) (slice_index k a)))
      (λ e. is-contained (hull r s) k (hull-region r s f g) (in-hull (or_cases (contains r k) (contains s k) e)))

-- where some number passes a test, one of them does
one-passes : (p : ℕ → Bool) (i n : ℕ) → list_any p (range_with_len i n) ≡ true → (a : ℕ) × (p a ≡ true)
one-passes p i zero e = absurd (true≢false (sym e))
one-passes p i (suc n) e = by (p i) refl e (one-passes p (i + 1) n)
  where
    by : (t : Bool) → p i ≡ t → (t || list_any p (range_with_len (i + 1) n)) ≡ true → (list_any p (range_with_len (i + 1) n) ≡ true → (a : ℕ) × (p a ≡ true)) → (a : ℕ) × (p a ≡ true)
    by true h q rest = (i, h)
    by false h q rest = rest q

hull-turned : {K : ℕ} (r s : Region K) → hull r s ≡ hull s r
hull-turned r s = λ i. record { lo = zip-turned min min_comm r.lo s.lo i; hi = zip-turned max max_comm r.hi s.hi i }

-- the hull of two regions that together are a box has the keys of both, and no other
pub hull-contains : {K : ℕ} (r s : Region K) (k : List ℕ) → IsRegion K r → IsRegion K s → make_a_box r s ≡ true → contains (hull r s) k ≡ (contains r k || contains s k)
hull-contains {K} r s k f g e =
    let found = one-passes (touch_along r s) 0 (length r.lo) e in
    let a = found.0 in
    let lows = same_but a r.lo s.lo in
    let highs = same_but a r.hi s.hi in
    let next = one_follows (slice_index r.lo a) (slice_index r.hi a) (slice_index s.lo a) (slice_index s.hi a) in
    let rest = second lows (highs && next) found.1 in
    by a (same-elsewhere a r.lo s.lo (first lows (highs && next) found.1)) (same-elsewhere a r.hi s.hi (first highs next rest))
    (slice_index r.hi a + 1 == slice_index s.lo a) refl (second highs next rest)
  where
    by : (a : ℕ) → ((i : ℕ) → i ≢ a → slice_index r.lo i ≡ slice_index s.lo i) → ((i : ℕ) → i ≢ a → slice_index r.hi i ≡ slice_index s.hi i) → (t : Bool) → (slice_index r.hi a + 1 == slice_index s.lo a) ≡ t
        → (t || (slice_index s.hi a + 1 == slice_index r.lo a)) ≡ true → contains (hull r s) k ≡ (contains r k || contains s k)
    by a l h true q _ = hull-of-two r s k f g a (record { lows = l; highs = h; next = eqb-true (slice_index r.hi a + 1) (slice_index s.lo a) q })
    by a l h false _ q =
        ap (λ x. contains x k) (hull-turned r s)
        ∙ hull-of-two s r k g f a (record { lows = λ i d. sym (l i d); highs = λ i d. sym (h i d); next = eqb-true (slice_index s.hi a + 1) (slice_index r.lo a) q })
        ∙ or_comm (contains s k) (contains r k)
