-- The best of candidates, one after the other.
use Rattle.std.proofs.Common.{◌≡◌, ◌<◌, ◌+◌, take, get_or, ℕ, Bool, true, false, cond, List, [], ◌∷◌, ◌++◌, length, map, filter, fold, Option, Some, None, option_map, refl, ap, ◌∙◌}
use Rattle.std.proofs.lemmas.List.{map-append, take_more}
use Rattle.std.proofs.lemmas.List.Elements.{filter-append}
use Rattle.grid_model.specs.Lists.{lower, least, ranks_below}
use Rattle.grid_model.specs.Cuts.{divides, best_value, dividing_values, rank}
use Rattle.split_policy.specs.Rows.{numbers_in}
use Rattle.split_policy.specs.Candidates.{measured, dividing, best_of}

module _ {X Y : Type 0} (f : X → Y) (rank : Y → List ℕ) where
  lower-image : (t : Bool) (x y : X) → cond t (f y) (f x) ≡ f (cond t y x)
  lower-image true x y = refl
  lower-image false x y = refl

  best-image : (x : X) (xs : List X) → fold (lower rank) (f x) (map f xs) ≡ f (fold (lower (λ x. rank (f x))) x xs)
  best-image x [] = refl
  best-image x (y ∷ ys) =
      ap (λ m. fold (lower rank) m (map f ys)) (lower-image (ranks_below (rank (f y)) (rank (f x))) x y)
      ∙ best-image (lower (λ x. rank (f x)) x y) ys

  -- the least of images is the image of the least
  pub least-image : (xs : List X) → least rank (map f xs) ≡ option_map f (least (λ x. rank (f x)) xs)
  least-image [] = refl
  least-image (x ∷ xs) = ap Some (best-image x xs)

-- an image of an image
pub image-of-image : {X Y Z : Type 0} (f : X → Y) (g : Y → Z) (o : Option X) → option_map g (option_map f o) ≡ option_map (λ x. g (f x)) o
image-of-image f g None = refl
image-of-image f g (Some x) = refl

module _ (keys : List (List ℕ)) where
  -- the candidates among numbers, with one number more
  pub dividing-more : (a : ℕ) (vs : List ℕ) (i : ℕ) (d : ℕ) → i < length vs → dividing keys a (take (i + 1) vs) ≡ dividing keys a (take i vs) ++ dividing keys a (get_or vs i d ∷ [])
  dividing-more a vs i d p =
      ap (dividing keys a) (take_more vs i d p)
      ∙ ap (map (λ (v : ℕ). (a, v))) (filter-append (λ v. divides keys a v) (take i vs) (get_or vs i d ∷ []))
      ∙ map-append (λ (v : ℕ). (a, v)) (filter (λ v. divides keys a v) (take i vs)) (filter (λ v. divides keys a v) (get_or vs i d ∷ []))

-- the best of the candidates among the keys' numbers is at the best value
pub best-values : (keys : List (List ℕ)) (a : ℕ) → best_of keys (dividing keys a (numbers_in keys a)) ≡ option_map (λ v. measured keys (a, v)) (best_value keys a)
unfolding best_value dividing_values
best-values keys a =
    ap (option_map (measured keys)) (least-image (λ (v : ℕ). (a, v)) (rank keys) (dividing_values keys a))
    ∙ image-of-image (λ (v : ℕ). (a, v)) (measured keys) (best_value keys a)
