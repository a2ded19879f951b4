-- The cut of the model keeps the laws of a rule.
use Rattle.std.proofs.Common.{◌≡◌, ◌<◌, ◌≤◌, ◌⊎◌, inl, inr, ℕ, Bool, true, false, not, List, [], ◌∷◌, length, slice_index, map, filter, nat_lt, nat_le, Contains, IsTrue, Option, Some, None, refl, sym, ap, ◌∙◌, arith, true≢false}
use Rattle.std.specs.Prelude.{IfSome, All}
use Rattle.std.proofs.lemmas.Bool.{cases_lt, ltb-true, lt-ltb, le-leb, and_from, and_parts, false_from_ne_true}
use Rattle.std.proofs.lemmas.List.{get_or_past}
use Rattle.std.proofs.lemmas.List.Elements.{All-contains}
use lib.Pointwise.{pointwise}
use Rattle.grid_types.specs.declared.shape.Shape.{Shape}
use Rattle.grid_types.specs.declared.layout_change.Cut.{Cut}
use Rattle.grid_types.specs.declared.region.Region.{Region}
use Rattle.grid_types.specs.Regions.{contains, is_within}
use Rattle.grid_types.proofs.Numbers.{each-at-most}
use Rattle.grid_model.specs.Lists.{is_among}
use Rattle.grid_model.specs.Scales.{scale_of}
use Rattle.grid_model.specs.Layouts.{BucketBox}
use Rattle.grid_model.specs.Cuts.{cut, divides, may_grow, left_part, right_part}
use Rattle.grid_model.specs.CutLaws.{IsCandidate, IsValue}
use Rattle.grid_model.proofs.CutLaws.{cuts-best}
use Rattle.grid_model.proofs.Members.{contains-first, contains-from-filter, contains-from-map, contains-among}

-- what holds of each cut that may have been answered
pub each-answer : (o : Option Cut) (P : Cut → Type 0) → ((c : Cut) → o ≡ Some c → P c) → IfSome o P
each-answer None P h = tt
each-answer (Some c) P h = h c refl

at-most : (xs ys : List ℕ) (i : ℕ) → pointwise nat_le xs ys ≡ true → slice_index xs i ≤ slice_index ys i
at-most xs ys i e = by (cases_lt i (length xs))
  where
    by : (i < length xs) ⊎ (length xs ≤ i) → slice_index xs i ≤ slice_index ys i
    by (inl p) = each-at-most xs ys i e p
    by (inr p) = omega (arith, get_or_past xs i 0 p)

-- where some item passes a test, there is one
some-kept : {X : Type 0} (p : X → Bool) (xs : List X) → nat_lt 0 (length (filter p xs)) ≡ true → (x : X) × Contains xs x × (p x ≡ true)
some-kept {X = X} p xs e = by (filter p xs) e (λ x h. (x, (contains-from-filter p xs x h).0, (contains-from-filter p xs x h).1))
  where
    by : (ys : List X) → nat_lt 0 (length ys) ≡ true → ((x : X) → Contains ys x → (x : X) × Contains xs x × (p x ≡ true)) → (x : X) × Contains xs x × (p x ≡ true)
    by [] e h = absurd (omega (arith, ltb-true 0 0 e))
    by (y ∷ ys) e h = h y (contains-first y ys)

-- a value of one of the keys of a region that divides them lies within the region
value-within : {K : ℕ} (r : Region K) (keys : List (List ℕ)) (a v : ℕ) → All (λ k. contains r k ≡ true) keys → is_among (map (λ k. slice_index k a) keys) v ≡ true → divides keys a v ≡ true → is_within r a v ≡ true
value-within r keys a v h m d =
    let low = some-kept (λ k. nat_lt (slice_index k a) v) keys (and_parts (nat_lt 0 (length (left_part keys a v))) (nat_lt 0 (length (right_part keys a v))) d).0 in
    let here = contains-from-map (λ (k : List ℕ). slice_index k a) keys v (contains-among (map (λ k. slice_index k a) keys) v m) in
    let above : slice_index r.lo a ≤ slice_index low.0 a = at-most r.lo low.0 a (and_parts (pointwise nat_le r.lo low.0) (pointwise nat_le low.0 r.hi) (All-contains (λ k. contains r k ≡ true) keys low.0 h low.1)).0 in
    let below : slice_index here.0 a ≤ slice_index r.hi a = at-most here.0 r.hi a (and_parts (pointwise nat_le r.lo here.0) (pointwise nat_le here.0 r.hi) (All-contains (λ k. contains r k ≡ true) keys here.0 h here.1)).1 in
    and_from (nat_lt (slice_index r.lo a) v) (nat_le v (slice_index r.hi a))
    (lt-ltb (slice_index r.lo a) v (omega (arith, above, ltb-true (slice_index low.0 a) v low.2)))
    (le-leb v (slice_index r.hi a) (omega (arith, below, here.2)))

module _ {K : ℕ} (shape : Shape) (scales keys : List (List ℕ)) (b : BucketBox K) where
  -- a cut is at a candidate, or at a value where there is no candidate
  data Chosen (c : Cut) : Type 0 where
    Old : c.fresh ≡ false → IsCandidate scales b keys c.attribute c.value → Chosen c
    New : c.fresh ≡ true → ((a v : ℕ) → IsCandidate scales b keys a v → ⊥) → IsValue shape scales keys c.attribute c.value → Chosen c

  chosen : (c : Cut) → cut shape scales b keys ≡ Some c → Chosen c
  chosen c e = by c.fresh refl
    where
      by : (t : Bool) → c.fresh ≡ t → Chosen c
      by false f = Old f ((cuts-best K).old shape scales b keys c e f).candidate
      by true f = let n = (cuts-best K).new shape scales b keys c e f in New f n.no_candidate n.value

  attribute-of : (c : Cut) → Chosen c → c.attribute < length scales
  attribute-of c (Old f o) = o.attribute
  attribute-of c (New f none n) = n.attribute

  divides-of : (c : Cut) → Chosen c → divides keys c.attribute c.value ≡ true
  divides-of c (Old f o) = o.divides
  divides-of c (New f none n) = n.divides

  within-of : All (λ k. contains b.region k ≡ true) keys → (c : Cut) → Chosen c → is_within b.region c.attribute c.value ≡ true
  within-of h c (Old f o) = o.within
  within-of h c (New f none n) = value-within b.region keys c.attribute c.value h n.value n.divides

  fresh-of : All (λ k. contains b.region k ≡ true) keys → (c : Cut) → Chosen c → c.fresh ≡ not (is_among (scale_of scales c.attribute) c.value)
  fresh-of h c (Old f o) = f ∙ ap not (sym o.boundary)
  fresh-of h c (New f none n) =
      f
      ∙ ap not (sym (false_from_ne_true (is_among (scale_of scales c.attribute) c.value) (λ m. none c.attribute c.value (record {
        attribute = n.attribute;
        boundary = m;
        within = value-within b.region keys c.attribute c.value h n.value n.divides;
        divides = n.divides;
      }))))

  limits-of : (c : Cut) → Chosen c → c.fresh ≡ true → may_grow shape scales c.attribute ≡ true
  limits-of c (Old f o) g = absurd (true≢false (sym g ∙ f))
  limits-of c (New f none n) g = n.grows

  -- its attribute is one of the scales'
  pub cut-attribute : (c : Cut) → cut shape scales b keys ≡ Some c → c.attribute < length scales
  cut-attribute c e = attribute-of c (chosen c e)

  -- neither part is empty
  pub cut-divides : (c : Cut) → cut shape scales b keys ≡ Some c → IsTrue (divides keys c.attribute c.value)
  cut-divides c e = divides-of c (chosen c e)

  -- it lies within the region of the keys
  pub cut-within : All (λ k. contains b.region k ≡ true) keys → (c : Cut) → cut shape scales b keys ≡ Some c → IsTrue (is_within b.region c.attribute c.value)
  cut-within h c e = within-of h c (chosen c e)

  -- it is fresh exactly where it is no boundary
  pub cut-fresh : All (λ k. contains b.region k ≡ true) keys → (c : Cut) → cut shape scales b keys ≡ Some c → c.fresh ≡ not (is_among (scale_of scales c.attribute) c.value)
  cut-fresh h c e = fresh-of h c (chosen c e)

  -- and a fresh one keeps the limits
  pub cut-limits : (c : Cut) → cut shape scales b keys ≡ Some c → IsTrue c.fresh → IsTrue (may_grow shape scales c.attribute)
  cut-limits c e = limits-of c (chosen c e)
