-- What a scan of a half of the journal finds.
use Rattle.std.specs.Prelude.{◌≡◌, ◌⊎◌, ◌<◌, ◌≤◌, ◌+◌, ◌++◌, ◌∷◌, [], ℕ, zero, suc, List, length, slice_get, slice_index, Some, All, ⊤}
use Rattle.grid_types.specs.declared.shape.Shape.{Shape}
use Rattle.grid_types.specs.declared.refusal.Refusal.{Refusal}
use Rattle.grid_types.specs.declared.refusal.Refusal.TheVariants as refusal
use Rattle.grid_types.specs.Pages.{page_of}
use Rattle.grid_types.specs.Shapes as places
use Rattle.grid_model.specs.Spellings.{LoggedBatch}
use Rattle.grid_model.specs.Lawful.{IsBatch}
use Rattle.grid_model.specs.Images.{HasGatesOf, SpellsBatch, open_slots_of, HasBatches, of_session, last_gate}
use Rattle.journal_slots.specs.declared.scan.Scan.{Scan}

-- these are the batches of a session on some slots: each of the slots spells a batch, and of these they are those of the session
pub record AreBatchesOn {K : ℕ} (s : Shape) (image : List ℕ) (slots : List (ℕ × ℕ)) (session : ℕ) (batches : List (LoggedBatch K)) : Type 0 where
  pub all : List (LoggedBatch K)
  pub each : HasBatches s image slots all
  pub are : batches ≡ of_session session all

-- a scan of a half for a session finds this: its gate page is spelled, the batches are the session's on its open slots, in order, and the slots in use are those up to the last gate that is not 0
pub record IsScan {K : ℕ} (s : Shape) (image : List ℕ) (half session : ℕ) (scan : Scan K) : Type 0 where
  pub gates : List ℕ
  pub spelled : HasGatesOf s image half gates
  pub found : AreBatchesOn s image (open_slots_of gates half) session scan.batches
  pub used : scan.used ≡ last_gate gates

-- a slot's page spells some batch of K attributes
pub record SpellsSome (K : ℕ) (bytes : List ℕ) : Type 0 where
  pub batch : LoggedBatch K
  pub spelled : SpellsBatch bytes batch

-- a page is the first bad one of the open slots: the page of an open slot that spells no batch, where each open slot before it spells one
pub record IsFirstBadSlot (K : ℕ) (s : Shape) (image : List ℕ) (half : ℕ) (gates : List ℕ) (page : ℕ) : Type 0 where
  pub slot : ℕ
  pub inside : slot < s.slots
  pub opened : slice_index gates slot ≡ 1
  pub page_is : page ≡ places.slot_page s half slot
  pub none : SpellsSome K (page_of page image) → ⊥
  pub before : (i : ℕ) → i < slot → slice_index gates i ≡ 1 → SpellsSome K (page_of (places.slot_page s half i) image)

-- the gate page of a half spells no gates
pub record IsBadGates (s : Shape) (image : List ℕ) (half page : ℕ) : Type 0 where
  pub page_is : page ≡ places.gate_page s half
  pub none : (gates : List ℕ) → HasGatesOf s image half gates → ⊥

-- the gate page of a half is spelled, and a page is the first bad one of its open slots
pub record IsBadSlot (K : ℕ) (s : Shape) (image : List ℕ) (half page : ℕ) : Type 0 where
  pub gates : List ℕ
  pub spelled : HasGatesOf s image half gates
  pub first : IsFirstBadSlot K s image half gates page

-- a page is the first bad one of a half: its gate page, or else a page of an open slot
abbrev pub IsFirstBadPage : (K : ℕ) → Shape → List ℕ → ℕ → ℕ → Type 0
IsFirstBadPage K s image half page = IsBadGates s image half page ⊎ IsBadSlot K s image half page

-- a half with these gates has more than n open slots, and each of the first n of them spells a batch
pub record AreFirstGood (K : ℕ) (s : Shape) (image : List ℕ) (half : ℕ) (gates : List ℕ) (n : ℕ) : Type 0 where
  pub more : n < length (open_slots_of gates half)
  pub each : (i : ℕ) (slot : ℕ × ℕ) → i < n → slice_get (open_slots_of gates half) i ≡ Some slot → SpellsSome K (page_of (places.slot_page s slot.0 slot.1) image)

-- the gate page of a half is spelled, there are more than n open slots, and each of the first n of them spells a batch
pub record AreGoodSlots (K : ℕ) (s : Shape) (image : List ℕ) (half n : ℕ) : Type 0 where
  pub gates : List ℕ
  pub spelled : HasGatesOf s image half gates
  pub first : AreFirstGood K s image half gates n

-- a half is good up to its page n, where the gate page is page 0 and the open slots follow in order: the pages before that one are spelled
abbrev pub IsGoodUpTo : (K : ℕ) → Shape → List ℕ → ℕ → ℕ → Type 0
IsGoodUpTo K s image half zero = ⊤
IsGoodUpTo K s image half (suc n) = AreGoodSlots K s image half n

-- a page spells a batch, and after it these batches are those from before, with that one behind them where it is of the session
pub record IsMore {K : ℕ} (bytes : List ℕ) (session : ℕ) (before after : List (LoggedBatch K)) : Type 0 where
  pub batch : LoggedBatch K
  pub spelled : SpellsBatch bytes batch
  pub are : after ≡ before ++ of_session session (batch ∷ [])

-- a scan is refused for one of three reasons: a read failed, there is no memory, or a page is damaged
abbrev pub IsRefusalOfScan : Refusal → Type 0
IsRefusalOfScan e = (e ≡ refusal.ReadFault) ⊎ ((e ≡ refusal.NoMemory) ⊎ ((p : ℕ) × (e ≡ refusal.Damaged p)))

-- a page spells a batch of a session
pub record SpellsOf (K : ℕ) (bytes : List ℕ) (session : ℕ) : Type 0 where
  pub batch : LoggedBatch K
  pub spelled : SpellsBatch bytes batch
  pub of : batch.session ≡ session

-- an open slot has a batch of a session that is to be kept, and each open slot before it spells a batch
pub record IsToKeep (K : ℕ) (s : Shape) (image : List ℕ) (half : ℕ) (gates : List ℕ) (session : ℕ) : Type 0 where
  pub slot : ℕ
  pub inside : slot < s.slots
  pub opened : slice_index gates slot ≡ 1
  pub spelled : SpellsOf K (page_of (places.slot_page s half slot) image) session
  pub before : (i : ℕ) → i < slot → slice_index gates i ≡ 1 → SpellsSome K (page_of (places.slot_page s half i) image)

-- a scan wants memory: the gate page of the half is spelled, and an open slot has a batch of the session that is to be kept
pub record WantsMemory (K : ℕ) (s : Shape) (image : List ℕ) (half session : ℕ) : Type 0 where
  pub gates : List ℕ
  pub spelled : HasGatesOf s image half gates
  pub kept : IsToKeep K s image half gates session

-- a batch is lawful, so that it has a spelling, and is of a session
pub record IsLawfulOf {K : ℕ} (session : ℕ) (b : LoggedBatch K) : Type 0 where
  pub lawful : IsBatch b
  pub of : b.session ≡ session

-- each batch of a list is lawful and of a session
abbrev pub AreLawfulOf : {K : ℕ} → ℕ → List (LoggedBatch K) → Type 0
AreLawfulOf session batches = All (IsLawfulOf session) batches

-- what a scan gives is lawful, also of a disk that does not tell its content: no more slots are in use than there are, and each batch is lawful and of the session
pub record IsLawfulScan {K : ℕ} (s : Shape) (session : ℕ) (scan : Scan K) : Type 0 where
  pub few : scan.used ≤ s.slots
  pub batches : AreLawfulOf session scan.batches

-- between these counts a half was read: its gate page, and at most a page for each slot
pub record ReadsHalf (s : Shape) (before now : ℕ) : Type 0 where
  pub least : before + 1 ≤ now
  pub most : now ≤ before + 1 + s.slots
