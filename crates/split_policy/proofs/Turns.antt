-- The first refinement, in cyclic order from the turn.
use Rattle.std.proofs.Common.{◌≡◌, ◌<◌, ◌+◌, ◌%◌, ℕ, List, length, slice_index, Some, None, sym, ap, ◌∙◌, arith}
use Rattle.std.proofs.lemmas.List.FromFn.{length-map-range_with_len}
use Rattle.grid_types.specs.declared.shape.Shape.{Shape}
use Rattle.grid_types.specs.declared.layout_change.Cut.{Cut}
use Rattle.grid_model.specs.Lists.{first_some}
use Rattle.grid_model.specs.Cuts.{cycle, refinement, refinements}
use Rattle.grid_model.proofs.CutLaws.{cycle-at}
use Rattle.split_policy.proofs.Firsts.{found-first, found-none}

module _ (shape : Shape) (scales keys : List (List ℕ)) (turn n : ℕ) (e : length scales ≡ n) where
  cycle-long : length (cycle (length scales) turn) ≡ n
  cycle-long = length-map-range_with_len (λ s. (turn + s) % length scales) 0 (length scales) ∙ e

  attribute-at : (k : ℕ) → k < n → slice_index (cycle (length scales) turn) k ≡ (turn + k) % n
  attribute-at k p = cycle-at (length scales) turn k (omega (arith, p, e)) ∙ ap (λ n. (turn + k) % n) e

  -- the refinement of an attribute before which none has one
  pub turn-found : (s : ℕ) (c : Cut) → s < n → ((k : ℕ) → k < s → refinement shape scales keys ((turn + k) % n) ≡ None) → Some c ≡ refinement shape scales keys ((turn + s) % n)
      → Some c ≡ first_some (refinements shape scales turn keys)
  turn-found s c p none here = sym (found-first (refinement shape scales keys) (cycle (length scales) turn) s c (omega (arith, p, cycle-long))
      (λ k q. ap (refinement shape scales keys) (attribute-at k (omega (arith, p, q))) ∙ none k q)
      (ap (refinement shape scales keys) (attribute-at s p) ∙ sym here))

  -- no attribute has one
  pub turn-none : ((k : ℕ) → k < n → refinement shape scales keys ((turn + k) % n) ≡ None) → None ≡ first_some (refinements shape scales turn keys)
  turn-none none = sym (found-none (refinement shape scales keys) (cycle (length scales) turn)
      (λ k q. ap (refinement shape scales keys) (attribute-at k (omega (arith, q, cycle-long))) ∙ none k (omega (arith, q, cycle-long))))
