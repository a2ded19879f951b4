-- Words on lists.
use Rattle.std.specs.Prelude.{List, [], ◌∷◌}

-- each item with the other at its place, by f
abbrev pub zip_with : {X Y Z : Type 0} → (X → Y → Z) → List X → List Y → List Z
zip_with f [] ys = []
zip_with f (x ∷ xs) [] = []
zip_with f (x ∷ xs) (y ∷ ys) = f x y ∷ zip_with f xs ys
