-- Why a file is not opened.
use Rattle.std.specs.Prelude.{◌≡◌, ◌⊎◌, ◌<◌, ◌≤◌, ◌^◌, ℕ, List, ⊤}
use Rattle.grid_types.specs.declared.shape.Shape.{Shape}
use Rattle.grid_types.specs.declared.refusal.Refusal.{Refusal}
use Rattle.grid_types.specs.declared.refusal.Refusal.TheVariants as refusal
use Rattle.grid_model.specs.Images.{IsNewest}
use Rattle.grid_model.specs.Spellings.{RootFields}
use Rattle.recovery.specs.Faults.{IsFirstFault, IsNoFaultOr}
use Rattle.recovery.specs.Refusals.{TellsFault}

-- a root is worn, and this count is told: its number may not rise any more, or else its session
abbrev pub IsWorn : (number session count : ℕ) → Type 0
IsWorn number session count = ((2 ^ 62 ≤ number) × (count ≡ number)) ⊎ ((number < 2 ^ 62) × (2 ^ 62 ≤ session) × (count ≡ session))

-- a root is not worn: its number and its session may rise
pub record IsUnworn (own sessions : ℕ) : Type 0 where
  pub number : own < 2 ^ 62
  pub session : sessions < 2 ^ 62

-- the newest root of an image is worn, and this count is told
pub record HasWornRoot (image : List ℕ) (count : ℕ) : Type 0 where
  pub shape : Shape
  pub root : RootFields
  pub newest : IsNewest shape image root
  pub worn : IsWorn root.number root.session count

-- an image is refused: it has a fault, of which the first is told, or its newest root is worn
abbrev pub IsRefused : ℕ → List ℕ → Refusal → Type 0
IsRefused K image (refusal.Worn count) = HasWornRoot image count
IsRefused K image other = IsFirstFault K image other

-- a refusal says that the image of a file is refused, or that a disk failed or memory was wanting
abbrev pub IsRefusedOr : ℕ → List ℕ → Refusal → Type 0
IsRefusedOr K image e = (e ≡ refusal.WriteFault) ⊎ IsNoFaultOr (IsRefused K image) e

-- which refusals may come before the redo: those of a survey, that a root is worn, and that a sync failed
abbrev pub MayRefuseOpening : Refusal → Type 0
MayRefuseOpening refusal.NoMemory = ⊤
MayRefuseOpening refusal.ReadFault = ⊤
MayRefuseOpening refusal.WriteFault = ⊤
MayRefuseOpening (refusal.Worn count) = ⊤
MayRefuseOpening other = TellsFault other

-- which refusals may come of a file that stands: that memory was wanting, that a disk failed, or that a root is worn
abbrev pub IsNoDamage : Refusal → Type 0
IsNoDamage refusal.NoMemory = ⊤
IsNoDamage refusal.ReadFault = ⊤
IsNoDamage refusal.WriteFault = ⊤
IsNoDamage (refusal.Worn count) = ⊤
IsNoDamage other = ⊥
