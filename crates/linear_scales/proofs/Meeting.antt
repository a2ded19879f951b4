-- Which intervals have a number that a side asks for.
use Rattle.std.proofs.Common.{◌≡◌, ◌<◌, ◌≤◌, ◌^◌, ◌↔◌, ℕ, max, true, List, length, nat_le, refl, ap, ◌∙◌, arith, le-leb, leb-true}
use Rattle.std.proofs.lemmas.Bool.{eq-eqb, eqb-true}
use Rattle.grid_types.specs.declared.query.Side.{Side}
use Rattle.grid_types.specs.declared.query.Side.TheVariants.{Any, Exactly, Between}
use Rattle.grid_types.specs.Queries.{admits, is_straight, begin_of, end_of}
use Rattle.grid_types.proofs.Numbers.{both, first, second}
use Rattle.grid_types.specs.Keys.{top}
use Rattle.grid_model.specs.Scales.{is_scale, interval, low, high}
use Rattle.grid_model.proofs.ScaleLaws.{interval-grows, has-bounds}
use Rattle.grid_model.proofs.Bounds.{high-top, low-high, low-reached, high-kept}
use Rattle.linear_scales.specs.Sides.{Meets}

asks : (side : Side) (n : ℕ) → begin_of side ≤ n → n ≤ end_of side → admits side n ≡ true
asks Any n p q = refl
asks (Exactly m) n p q = eq-eqb n m (omega (arith, p, q))
asks (Between lo hi) n p q = both (nat_le lo n) (nat_le n hi) (le-leb lo n p) (le-leb n hi q)

is-asked : (side : Side) (n : ℕ) → n ≤ top → admits side n ≡ true → (begin_of side ≤ n) × (n ≤ end_of side)
is-asked Any n t e = (omega arith, t)
is-asked (Exactly m) n t e = (omega (arith, eqb-true n m e), omega (arith, eqb-true n m e))
is-asked (Between lo hi) n t e = (leb-true lo n (first (nat_le lo n) (nat_le n hi) e), leb-true n hi (second (nat_le lo n) (nat_le n hi) e))

-- the intervals that meet a side are those from the interval of its least number to that of its greatest
pub side-meets : (bs : List ℕ) (side : Side) → is_scale bs ≡ true → begin_of side ≤ end_of side → end_of side ≤ top → (i : ℕ) → i ≤ length bs
    → Meets bs side i ↔ ((interval bs (begin_of side) ≤ i) × (i ≤ interval bs (end_of side)))
side-meets bs side e o t i p = (there, back)
  where
    there : Meets bs side i → (interval bs (begin_of side) ≤ i) × (i ≤ interval bs (end_of side))
    there m =
        let within : m.number ≤ top = omega (arith, m.below, high-top bs i e) in
        let here : interval bs m.number ≡ i = (has-bounds bs m.number i e within p).0 (m.above, m.below) in
        let asked = is-asked side m.number within m.asked in
        (omega (arith, here, interval-grows bs (begin_of side) m.number asked.0), omega (arith, here, interval-grows bs m.number (end_of side) asked.1))

    back : (interval bs (begin_of side) ≤ i) × (i ≤ interval bs (end_of side)) → Meets bs side i
    back h =
        let n : ℕ = max (low bs i) (begin_of side) in
        let reached : low bs i ≤ end_of side = low-reached bs i e p (end_of side) h.1 in
        let kept : begin_of side ≤ high bs i = high-kept bs i e p (begin_of side) (omega (arith, o, t)) h.0 in
        record {
          number = n;
          above = omega arith;
          below = omega (arith, kept, low-high bs i e p);
          asked = asks side n (omega arith) (omega (arith, reached, o));
        }

-- a straight side does not end below its begin
pub straight-ends : (side : Side) → is_straight side ≡ true → begin_of side ≤ end_of side
straight-ends Any e = omega arith
straight-ends (Exactly n) e = omega arith
straight-ends (Between lo hi) e = leb-true lo hi e

-- the same of the intervals that a scale finds for the ends of a straight side
pub range-meets : (bs : List ℕ) (side : Side) (b e lo hi : ℕ) → is_scale bs ≡ true → is_straight side ≡ true → b ≡ begin_of side → e ≡ end_of side → e < 2 ^ 64 → lo ≡ interval bs b → hi ≡ interval bs e
    → (i : ℕ) → i ≤ length bs → Meets bs side i ↔ ((lo ≤ i) × (i ≤ hi))
range-meets bs side b e lo hi s t p q r f g i n =
    let low : lo ≡ interval bs (begin_of side) = f ∙ ap (interval bs) p in
    let high : hi ≡ interval bs (end_of side) = g ∙ ap (interval bs) q in
    let m = side-meets bs side s (straight-ends side t) (omega (arith, q, r)) i n in
    (λ h. (omega (arith, low, (m.0 h).0), omega (arith, high, (m.0 h).1)), λ h. m.1 (omega (arith, low, h.0), omega (arith, high, h.1)))

-- the bounds that are read for an interval contain the numbers of the interval
pub bounds_contain : (bs : List ℕ) (i l h v : ℕ) → is_scale bs ≡ true → l ≡ low bs i → h ≡ high bs i → v ≤ top → i ≤ length bs → ((l ≤ v) × (v ≤ h)) ↔ (interval bs v ≡ i)
bounds_contain bs i l h v e p q t n =
    let b = has-bounds bs v i e t n in
    (λ w. b.0 (omega (arith, p, w.0), omega (arith, q, w.1)), λ w. (omega (arith, p, (b.1 w).0), omega (arith, q, (b.1 w).1)))
