-- Which refusals may come of reading roots and of closing a header page.
use Rattle.std.specs.Prelude.{◌≡◌, ◌⊎◌, ℕ}
use Rattle.grid_types.specs.declared.refusal.Refusal.{Refusal}
use Rattle.grid_types.specs.declared.refusal.Refusal.TheVariants.{NoMemory, ReadFault, WriteFault, Damaged}

-- some page is damaged
abbrev pub TellsDamage : Refusal → Type 0
TellsDamage e = (p : ℕ) × (e ≡ Damaged p)

-- memory was wanting, a read failed, or some page is damaged
abbrev pub MayRefuseReading : Refusal → Type 0
MayRefuseReading e = (e ≡ NoMemory) ⊎ ((e ≡ ReadFault) ⊎ TellsDamage e)

-- a read failed, or a write or a sync did
abbrev pub MayRefuseClosing : Refusal → Type 0
MayRefuseClosing e = (e ≡ ReadFault) ⊎ (e ≡ WriteFault)
