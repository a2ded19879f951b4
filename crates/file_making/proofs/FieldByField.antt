-- The header page with the root of a new file, field by field.
use Rattle.std.proofs.Common.{◌≡◌, ◌+◌, ℕ, List, [], ◌∷◌, ◌++◌, length, take, sym, ap, ◌∙◌, append_assoc}
use Rattle.grid_types.specs.declared.shape.Shape.{Shape}
use Rattle.page_fields.specs.Padded.{padded}
use Rattle.grid_model.specs.Spellings.{shape_bytes, root_bytes}
use Rattle.file_images.specs.NewFiles.{new_fields}

-- the gate and the fields behind the shape
pub root_written : (K : ℕ) (s : Shape) (first second third fields : List ℕ) → take 64 first ≡ shape_bytes s → take 72 second ≡ take 64 first ++ (1 ∷ 0 ∷ 0 ∷ 0 ∷ 0 ∷ 0 ∷ 0 ∷ 0 ∷ []) → take (72 + length fields) third ≡ take 72 second ++ fields → length fields ≡ 56 → fields ≡ root_bytes (new_fields K)
    → take 128 third ≡ shape_bytes s ++ (padded 8 (1 ∷ []) ++ root_bytes (new_fields K))
unfolding padded
root_written K s first second third fields shape gate behind long is =
    let opened = 1 ∷ 0 ∷ 0 ∷ 0 ∷ 0 ∷ 0 ∷ 0 ∷ 0 ∷ [] in
    ap (λ (n : ℕ). take (72 + n) third) (sym long)
    ∙ behind
    ∙ ap (λ (front : List ℕ). front ++ fields) (gate ∙ ap (λ (front : List ℕ). front ++ opened) shape)
    ∙ append_assoc (shape_bytes s) opened fields
    ∙ ap (λ (f : List ℕ). shape_bytes s ++ (opened ++ f)) is
