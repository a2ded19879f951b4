-- The lowest key of a cell.
use Rattle.std.proofs.Common.{◌≡◌, ◌<◌, ◌≤◌, ℕ, zero, suc, true, List, [], ◌∷◌, length, slice_index, refl, ap, arith}
use Rattle.grid_types.specs.Keys.{top}
use Rattle.grid_model.specs.Scales.{is_scale, interval, low, scale_of}
use Rattle.grid_model.specs.Cells.{dims, cell_of, corner}
use Rattle.grid_model.specs.ScaleLaws.{IsCell}
use Rattle.grid_model.proofs.Bounds.{low-lies, low-top}

-- it lies in the cell
pub corner-lies : (scales : List (List ℕ)) (cell : List ℕ) → ((b : ℕ) → b < length scales → is_scale (scale_of scales b) ≡ true) → IsCell (dims scales) cell → cell_of scales (corner scales cell) ≡ cell
corner-lies [] [] h c = refl
corner-lies [] (x ∷ cell) h c = absurd (omega (arith, c.count))
corner-lies (s ∷ scales) [] h c = absurd (omega (arith, c.count))
corner-lies (s ∷ scales) (x ∷ cell) h c =
    let first : interval s (low s x) ≡ x = low-lies s x (h zero (omega arith)) (omega (arith, c.each zero (omega arith))) in
    let rest : cell_of scales (corner scales cell) ≡ cell = corner-lies scales cell (λ b p. h (suc b) (omega (arith, p))) (record { count = omega (arith, c.count); each = λ b p. c.each (suc b) (omega (arith, p)) }) in
    λ i. first i ∷ rest i

-- it has a number for each attribute
pub corner-long : (scales : List (List ℕ)) (cell : List ℕ) → length cell ≡ length scales → length (corner scales cell) ≡ length scales
corner-long [] cell e = refl
corner-long (s ∷ scales) [] e = absurd (omega (arith, e))
corner-long (s ∷ scales) (x ∷ cell) e = ap suc (corner-long scales cell (omega (arith, e)))

-- and these are numbers of the attributes
pub corner-number : (scales : List (List ℕ)) (cell : List ℕ) → ((b : ℕ) → b < length scales → is_scale (scale_of scales b) ≡ true) → (a : ℕ) → slice_index (corner scales cell) a ≤ top
corner-number [] cell h a = omega arith
corner-number (s ∷ scales) [] h a = omega arith
corner-number (s ∷ scales) (x ∷ cell) h zero = low-top s x (h zero (omega arith))
corner-number (s ∷ scales) (x ∷ cell) h (suc a) = corner-number scales cell (λ b p. h (suc b) (omega (arith, p))) a
