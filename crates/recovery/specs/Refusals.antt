-- Which refusals may come of opening a file.
use Rattle.std.specs.Prelude.{◌≡◌, ◌⊎◌, ⊤}
use Rattle.grid_types.specs.declared.refusal.Refusal.{Refusal}
use Rattle.grid_types.specs.declared.refusal.Refusal.TheVariants as refusal

-- a refusal says that the file has no shape
abbrev pub TellsShape : Refusal → Type 0
TellsShape refusal.Foreign = ⊤
TellsShape (refusal.Version found) = ⊤
TellsShape (refusal.Damaged page) = ⊤
TellsShape other = ⊥

-- a read failed, or the file has no shape
abbrev pub MayRefuseShape : Refusal → Type 0
MayRefuseShape e = (e ≡ refusal.ReadFault) ⊎ TellsShape e

-- a refusal says that the file is not one of so many attributes, or is damaged
abbrev pub TellsFault : Refusal → Type 0
TellsFault (refusal.Arity found) = ⊤
TellsFault other = TellsShape other

-- memory was wanting, a read failed, or the file is not one of so many attributes, or is damaged
abbrev pub MayRefuseSurvey : Refusal → Type 0
MayRefuseSurvey e = (e ≡ refusal.NoMemory) ⊎ ((e ≡ refusal.ReadFault) ⊎ TellsFault e)
