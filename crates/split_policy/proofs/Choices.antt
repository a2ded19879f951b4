-- The cut by the two choices.
use Rattle.std.proofs.Common.{◌≡◌, ℕ, true, false, cond, List, Some, None, option_map, sym, ap, ◌∙◌}
use Rattle.grid_types.specs.declared.shape.Shape.{Shape}
use Rattle.grid_model.specs.Lists.{or_else, first_some}
use Rattle.grid_model.specs.Layouts.{BucketBox}
use Rattle.grid_model.specs.Cuts.{cut, best_existing, best_value, may_grow, old_cut, new_cut, refinement, refinements}
use Rattle.grid_model.proofs.Choosing.{map-some, map-none}
use Rattle.split_policy.specs.declared.candidate.Candidate.{Candidate}
use Rattle.split_policy.specs.Candidates.{measured}

module _ (shape : Shape) (scales keys : List (List ℕ)) (a : ℕ) where
  -- where an attribute may not grow it has no refinement
  pub not-grown : may_grow shape scales a ≡ false → None ≡ refinement shape scales keys a
  unfolding refinement
  not-grown g = ap (λ t. cond t (option_map (new_cut a) (best_value keys a)) None) (sym g)

  -- where it may grow it has one at the best value
  pub grown : may_grow shape scales a ≡ true → option_map (new_cut a) (best_value keys a) ≡ refinement shape scales keys a
  unfolding refinement
  grown g = ap (λ t. cond t (option_map (new_cut a) (best_value keys a)) None) (sym g)

  module _ (g : may_grow shape scales a ≡ true) where
    pub new-found : (best : Candidate) → Some best ≡ option_map (λ v. measured keys (a, v)) (best_value keys a) → Some (record { attribute = best.attribute; value = best.value; fresh = true }) ≡ refinement shape scales keys a
    new-found best e = by (map-some (λ v. measured keys (a, v)) (best_value keys a) best (sym e))
      where
        by : (v : ℕ) × (best_value keys a ≡ Some v) × (measured keys (a, v) ≡ best) → Some (record { attribute = best.attribute; value = best.value; fresh = true }) ≡ refinement shape scales keys a
        by m = ap (λ (c : Candidate). Some (record { attribute = c.attribute; value = c.value; fresh = true })) (sym m.2) ∙ ap (option_map (new_cut a)) (sym m.1) ∙ grown g

    pub new-none : None ≡ option_map (λ v. measured keys (a, v)) (best_value keys a) → None ≡ refinement shape scales keys a
    new-none e = ap (option_map (new_cut a)) (sym (map-none (λ v. measured keys (a, v)) (best_value keys a) (sym e))) ∙ grown g

module _ {K : ℕ} (shape : Shape) (scales keys : List (List ℕ)) (b : BucketBox K) where
  -- the first choice
  pub cut-old : (best : Candidate) → Some best ≡ option_map (measured keys) (best_existing scales b.region keys) → Some (record { attribute = best.attribute; value = best.value; fresh = false }) ≡ cut shape scales b keys
  unfolding cut
  cut-old best e = by (map-some (measured keys) (best_existing scales b.region keys) best (sym e))
    where
      by : (c : ℕ × ℕ) × (best_existing scales b.region keys ≡ Some c) × (measured keys c ≡ best) → Some (record { attribute = best.attribute; value = best.value; fresh = false }) ≡ or_else (option_map old_cut (best_existing scales b.region keys)) (first_some (refinements shape scales b.turn keys))
      by m =
          ap (λ (c : Candidate). Some (record { attribute = c.attribute; value = c.value; fresh = false })) (sym m.2)
          ∙ ap (λ o. or_else (option_map old_cut o) (first_some (refinements shape scales b.turn keys))) (sym m.1)

  -- the second choice, where there is no first one
  pub cut-new : None ≡ option_map (measured keys) (best_existing scales b.region keys) → first_some (refinements shape scales b.turn keys) ≡ cut shape scales b keys
  unfolding cut
  cut-new e = ap (λ o. or_else (option_map old_cut o) (first_some (refinements shape scales b.turn keys))) (sym (map-none (measured keys) (best_existing scales b.region keys) (sym e)))
