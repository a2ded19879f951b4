-- A bound is an end of an interval where it is one of its own.
use Rattle.std.proofs.Common.{◌≡◌, ◌∙◌, ◌+◌, ℕ, true, List, pred, ◌∷◌, [], length, map, sym, ap, arith}
use Rattle.std.proofs.lemmas.List.{length-map, length-append}
use Rattle.grid_types.specs.Keys.{top}
use Rattle.grid_types.proofs.Numbers.{both, first, second}
use Rattle.grid_model.specs.Lists.{is_among}
use Rattle.grid_model.specs.Scales.{is_scale, interval, low, lows, high, highs, is_drawn}
use Rattle.grid_model.proofs.Boundaries.{among-at, among-index}
use Rattle.grid_model.proofs.Bounds.{low-lies, high-lies}
use Rattle.grid_model.proofs.ScaleLaws.{few-intervals}

length_highs : (s : List ℕ) → length (highs s) ≡ length s + 1
length_highs s = length-append (map pred s) (top ∷ []) ∙ omega (arith, length-map s pred)

module _ (s : List ℕ) (e : is_scale s ≡ true) where
  low_end : (v : ℕ) → low s (interval s v) ≡ v → is_among (lows s) v ≡ true
  low_end v is = among-at (lows s) v (interval s v) (omega (arith, few-intervals s v)) is

  ends_low : (v : ℕ) → is_among (lows s) v ≡ true → low s (interval s v) ≡ v
  ends_low v has =
      let at = among-index (lows s) v has in
      ap (λ x. low s (interval s x)) (sym at.2) ∙ ap (low s) (low-lies s at.0 e (omega (arith, at.1))) ∙ at.2

  high_end : (v : ℕ) → high s (interval s v) ≡ v → is_among (highs s) v ≡ true
  high_end v is = among-at (highs s) v (interval s v) (omega (arith, few-intervals s v, length_highs s)) is

  ends_high : (v : ℕ) → is_among (highs s) v ≡ true → high s (interval s v) ≡ v
  ends_high v has =
      let at = among-index (highs s) v has in
      ap (λ x. high s (interval s x)) (sym at.2) ∙ ap (high s) (high-lies s at.0 e (omega (arith, at.1, length_highs s))) ∙ at.2

  -- both bounds are, where each is an end of its own interval
  pub drawn_so : (lo hi : ℕ) → low s (interval s lo) ≡ lo → high s (interval s hi) ≡ hi → is_drawn s lo hi ≡ true
  drawn_so lo hi l h = both (is_among (lows s) lo) (is_among (highs s) hi) (low_end lo l) (high_end hi h)

  pub drawn_low : (lo hi : ℕ) → is_drawn s lo hi ≡ true → low s (interval s lo) ≡ lo
  drawn_low lo hi d = ends_low lo (first (is_among (lows s) lo) (is_among (highs s) hi) d)

  pub drawn_high : (lo hi : ℕ) → is_drawn s lo hi ≡ true → high s (interval s hi) ≡ hi
  drawn_high lo hi d = ends_high hi (second (is_among (lows s) lo) (is_among (highs s) hi) d)
