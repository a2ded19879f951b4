-- Where a number stands among boundaries that ascend.
use Rattle.std.proofs.Common.{◌⊎◌, inl, inr, ◌≡◌, ◌<◌, ◌≤◌, ◌+◌, ◌^◌, ℕ, true, List, ◌∷◌, ◌++◌, length, slice_index, get_or, sym, ap, ◌∙◌, arith, Result, Ok, Err}
use Rattle.std.specs.Prelude.{MatchResult}
use Rattle.std.specs.Ordering.{nat_cmp}
use Rattle.std.specs.List.{insert}
use Rattle.std.specs.List.Sorted.{IsBinarySearchResult}
use Rattle.std.proofs.lemmas.Bool.{cases_lt}
use Rattle.std.proofs.lemmas.List.Sorted.{searched}
use Rattle.grid_model.specs.Scales.{is_scale, refined}
use Rattle.grid_model.proofs.ScaleLaws.{refined-ascends, refined-longer}
use Rattle.grid_model.proofs.Boundaries.{ascends, never-falls, interval-at, among-at, absent, below-taken, above-left}
use Rattle.linear_scales.specs.Limited.{IsLimited}
use Rattle.linear_scales.specs.Searches.{IsBoundaryAt, FitsAt}

-- what is found at an index
boundary-found : (bs : List ℕ) (v i : ℕ) → is_scale bs ≡ true → i < length bs → slice_index bs i ≡ v → IsBoundaryAt bs v i
boundary-found bs v i e p q = record {
  inside = p;
  among = among-at bs v i p q;
  counted = interval-at bs v (i + 1) (omega (arith, p)) (λ k r. omega (arith, q, never-falls 1 bs k i e (omega (arith, r)) p)) (λ k r s. omega (arith, q, ascends 1 bs i k e (omega (arith, r)) s));
}

-- where nothing is found
fits : (bs : List ℕ) (v i : ℕ) → i ≤ length bs → ((k : ℕ) → k < i → slice_index bs k < v) → ((k : ℕ) → i ≤ k → k < length bs → v < slice_index bs k) → FitsAt bs v i
fits bs v i p below above = record {
  inside = p;
  fresh = absent bs v (λ k q e. by k q e (cases_lt k i));
  counted = interval-at bs v i p (λ k q. omega (arith, below k q)) above;
  there = (λ j. below-taken bs v i p below above j ++ v ∷ above-left bs v i p below above j);
}
  where
    by : (k : ℕ) → k < length bs → slice_index bs k ≡ v → (k < i) ⊎ (i ≤ k) → ⊥
    by k q e (inl r) = omega (arith, e, below k r)
    by k q e (inr r) = omega (arith, e, above k r q)

-- what a binary search answers
pub search-answers : (bs : List ℕ) (v : ℕ) (r : Result ℕ ℕ) → is_scale bs ≡ true → IsBinarySearchResult (λ y. nat_cmp y v) bs r → MatchResult r (IsBoundaryAt bs v) (FitsAt bs v)
search-answers bs v r e h = by r (searched bs v r h (λ i j p q. never-falls 1 bs i j e p q))
  where
    by : (r : Result ℕ ℕ) → MatchResult r (λ i. (i < length bs) × (get_or bs i 0 ≡ v)) (λ i. (i ≤ length bs) × ((k : ℕ) → k < i → get_or bs k 0 < v) × ((k : ℕ) → i ≤ k → k < length bs → v < get_or bs k 0)) → MatchResult r (IsBoundaryAt bs v) (FitsAt bs v)
    by (Ok i) g = boundary-found bs v i e g.0 g.1
    by (Err i) g = fits bs v i g.0 g.1 g.2

-- a boundary that is put where it fits makes a scale within the limit
pub takes : (bs rs : List ℕ) (v at limit : ℕ) → IsLimited (record { boundaries = bs; limit = limit }) → FitsAt bs v at → 1 ≤ v → v < 2 ^ 64 → length bs < limit → rs ≡ insert bs at v → IsLimited (record { boundaries = rs; limit = limit })
takes bs rs v at limit h f p q r e =
    let new : rs ≡ refined bs v = e ∙ sym f.there in
    record {
      scale = ap is_scale new ∙ refined-ascends v 1 bs (omega (arith, q)) h.scale p;
      count = omega (arith, r, ap length new, refined-longer v 1 bs h.scale f.fresh);
      in_range = h.in_range;
    }
