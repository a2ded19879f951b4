-- A directory never gets smaller by a cut.
use Rattle.std.proofs.Common.{◌≡◌, ◌≤◌, ◌+◌, ◌/◌, ℕ, zero, suc, Bool, true, false, cond, List, [], ◌∷◌, map, length, slice_set, arith}
use Rattle.std.proofs.Math.Nat.{mul-le-mul_left, mul-le-mul_right}
use Rattle.grid_types.specs.declared.layout_change.Cut.{Cut}
use Rattle.grid_model.specs.Lists.{product}
use Rattle.grid_model.specs.Scales.{scale_of, intervals, refined, is_scale}
use Rattle.grid_model.specs.Cells.{cells, parts}
use Rattle.grid_model.specs.Notes.{scales_after}
use Rattle.grid_model.proofs.ScaleLaws.{by-place}

-- a refined scale has no fewer boundaries
pub refined-grows : (v : ℕ) (scale : List ℕ) → is_scale scale ≡ true → length scale ≤ length (refined scale v)
refined-grows v scale h = by-place v (λ l bs rs. length bs ≤ length rs) (λ l. omega arith) (λ l bs e. omega arith) (λ l b bs e p. omega arith) (λ l b bs rs e p rest. omega (arith, rest)) 1 scale h

-- a longer scale makes no fewer cells
cells-grow : (scales : List (List ℕ)) (a : ℕ) (longer : List ℕ) → length (scale_of scales a) ≤ length longer → cells scales ≤ cells (slice_set scales a longer)
cells-grow [] a longer h = omega arith
cells-grow (s ∷ ss) zero longer h = mul-le-mul_right (product (map intervals ss)) (omega (arith, h))
cells-grow (s ∷ ss) (suc a) longer h = mul-le-mul_left (intervals s) (cells-grow ss a longer h)

-- a cut leaves no fewer parts
pub parts-grow : (scales : List (List ℕ)) (c : Cut) → is_scale (scale_of scales c.attribute) ≡ true → parts scales ≤ parts (scales_after scales c)
parts-grow scales c h = by c.fresh
  where
    grown : cells scales ≤ cells (slice_set scales c.attribute (refined (scale_of scales c.attribute) c.value))
    grown = cells-grow scales c.attribute (refined (scale_of scales c.attribute) c.value) (refined-grows c.value (scale_of scales c.attribute) h)

    by : (t : Bool) → parts scales ≤ (cells (cond t (slice_set scales c.attribute (refined (scale_of scales c.attribute) c.value)) scales) + 999) / 1000
    by true = omega (arith, grown)
    by false = omega arith
