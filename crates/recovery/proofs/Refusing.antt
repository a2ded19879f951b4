-- A refusal that tells of the file is no fault of the disk.
use Rattle.std.proofs.Common.{◌≢◌, ◌∙◌, inl, inr, sym, subst}
use Rattle.std.specs.Prelude.{⊤}
use Rattle.grid_types.specs.declared.refusal.Refusal.{Refusal}
use Rattle.grid_types.specs.declared.refusal.Refusal.TheVariants.{NoMemory, ReadFault, WriteFault}
use Rattle.recovery.specs.Refusals.{TellsShape, MayRefuseShape}

pub shape_no_read : (e : Refusal) → TellsShape e → e ≢ ReadFault
shape_no_read e told is = subst TellsShape is told

pub shape_no_write : (e : Refusal) → TellsShape e → e ≢ WriteFault
shape_no_write e told is = subst TellsShape is told

-- a refusal that comes of the shape is no want of memory
abbrev IsRead : Refusal → Type 0
IsRead ReadFault = ⊤
IsRead other = ⊥

pub shape_no_memory : (e : Refusal) → MayRefuseShape e → e ≢ NoMemory
shape_no_memory e (inl fault) is = subst IsRead (sym fault ∙ is) tt
shape_no_memory e (inr told) is = subst TellsShape is told
