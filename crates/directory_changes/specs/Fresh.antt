-- A boundary that is called fresh.
use Rattle.std.specs.Prelude.{◌≡◌, ℕ, List, false, IsTrue}
use Rattle.grid_types.specs.declared.layout_change.Cut.{Cut}
use Rattle.grid_model.specs.Lists.{is_among}
use Rattle.grid_model.specs.Scales.{scale_of}

-- a cut whose boundary is called fresh for these scales is at none of the boundaries of its attribute
abbrev pub IsFreshFor : List (List ℕ) → Cut → Type 0
IsFreshFor scales c = IsTrue c.fresh → is_among (scale_of scales c.attribute) c.value ≡ false
