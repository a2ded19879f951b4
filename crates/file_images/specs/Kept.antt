-- What a file keeps, as plain data.
use Rattle.std.specs.Prelude.{◌≡◌, ◌⊎◌, ℕ, zero, suc, ◌+◌, List, length, Option, Some}
use Rattle.grid_types.specs.declared.shape.Shape.{Shape}
use Rattle.grid_model.specs.Spellings.{LoggedBatch}
use Rattle.grid_model.specs.Roots.{WholeRoot}

-- what is asked of the gate of a used slot: its batch counts, or it does not, or the gate may be anything
pub data GateRule : Type 0 where
  Counting : GateRule
  Barred : GateRule
  Either : GateRule

-- a batch on its slot, with what is asked of its gate
pub record PlacedBatch (K : ℕ) : Type 0 where
  pub batch : LoggedBatch K
  pub gate : GateRule

-- the header page that does not have the root: it is closed; or it is loose, so that it may be closed, or have an older root, or the one that was tried on it
pub data OtherHeader : Type 0 where
  ShutHeader : OtherHeader
  LooseHeader : Option WholeRoot → OtherHeader

-- the slot behind the used ones of the current half: its gate is 0; or anything goes, since a batch is just written there; or this batch is in doubt there
pub data NextSlot (K : ℕ) : Type 0 where
  Shut : NextSlot K
  Flying : NextSlot K
  InDoubt : LoggedBatch K → NextSlot K

-- what a file keeps: its shape; by data page what it always holds, and what it reads as since it was claimed; the root with its table area, and the other header page; the batches on the used slots of each half; the current half, and its next slot; how many reads and how many writes had failed
pub record Kept (K : ℕ) : Type 0 where
  pub shape : Shape
  pub always : List (Option (List ℕ))
  pub fresh : List (Option (List ℕ))
  pub root : WholeRoot
  pub other : OtherHeader
  pub first : List (PlacedBatch K)
  pub second : List (PlacedBatch K)
  pub half : ℕ
  pub next : NextSlot K
  pub reads : ℕ
  pub writes : ℕ

-- of two things, one for each half, that of a half
abbrev pub of_half : {X : Type 0} → X → X → ℕ → X
of_half x y zero = x
of_half x y (suc h) = y

-- the batches on the used slots of a half
abbrev pub on_half : {K : ℕ} → Kept K → ℕ → List (PlacedBatch K)
on_half k h = of_half k.first k.second h

-- how many slots of a half are used
abbrev pub used : {K : ℕ} → Kept K → ℕ → ℕ
used k h = length (on_half k h)

-- the number of the root after this one
abbrev pub next_number : {K : ℕ} → Kept K → ℕ
next_number k = k.root.fields.number + 1

-- a root was tried on the other header page
abbrev pub IsTried : OtherHeader → WholeRoot → Type 0
IsTried ShutHeader w = ⊥
IsTried (LooseHeader tried) w = tried ≡ Some w

-- a root may be the newest: it is the kept one, or was tried after it
abbrev pub MayBeNewest : {K : ℕ} → Kept K → WholeRoot → Type 0
MayBeNewest k w = (w ≡ k.root) ⊎ IsTried k.other w
