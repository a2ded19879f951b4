-- The candidates among the existing boundaries, attribute by attribute.
use Rattle.std.proofs.Common.{◌≡◌, ◌+◌, ◌&&◌, ℕ, List, [], ◌∷◌, ◌++◌, map, filter, flat_map, nat_lt, nat_le, slice_index, sym, ap, ◌∙◌, arith}
use Rattle.std.proofs.lemmas.List.{map-id, flat_map_more}
use Rattle.std.proofs.lemmas.List.FromFn.{map-range_with_len_more}
use Rattle.grid_types.specs.declared.region.Region.{Region}
use Rattle.grid_types.specs.Regions.{is_within}
use Rattle.grid_model.specs.Lists.{below}
use Rattle.grid_model.specs.Scales.{scale_of}
use Rattle.grid_model.specs.Cuts.{divides, candidates_in}
use Rattle.split_policy.specs.Candidates.{dividing}
use Rattle.split_policy.proofs.Inside.{both-kept}

-- one number more below n
below-more : (n : ℕ) → below (n + 1) ≡ below n ++ n ∷ []
below-more n =
    sym (map-id (below (n + 1)))
    ∙ map-range_with_len_more (λ (x : ℕ). x) 0 n n (omega arith)
    ∙ ap (λ xs. xs ++ n ∷ []) (map-id (below n))

-- the candidates of one attribute more
pub one-attribute : {K : ℕ} (scales : List (List ℕ)) (r : Region K) (keys : List (List ℕ)) (a : ℕ) (bs : List ℕ)
    → bs ≡ filter (λ v. nat_lt (slice_index r.lo a) v && nat_le v (slice_index r.hi a)) (scale_of scales a)
    → flat_map (candidates_in scales r keys) (below a) ++ dividing keys a bs ≡ flat_map (candidates_in scales r keys) (below (a + 1))
one-attribute scales r keys a bs e =
    ap (λ bs. flat_map (candidates_in scales r keys) (below a) ++ dividing keys a bs) e
    ∙ ap (λ vs. flat_map (candidates_in scales r keys) (below a) ++ map (λ (v : ℕ). (a, v)) vs) (both-kept (λ v. is_within r a v) (λ v. divides keys a v) (scale_of scales a))
    ∙ flat_map_more (candidates_in scales r keys) [] (below a) a
    ∙ ap (flat_map (candidates_in scales r keys)) (sym (below-more a))
