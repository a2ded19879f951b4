-- What each step leaves of what a file keeps.
use Rattle.std.specs.Prelude.{◌≡◌, ℕ, zero, suc, List, [], ◌∷◌, ◌++◌, map, slice_set, Option, Some, None, fold}
use Rattle.grid_types.specs.declared.shape.Shape.{Shape}
use Rattle.grid_model.specs.Spellings.{LoggedBatch}
use Rattle.grid_model.specs.Roots.{WholeRoot}
use Rattle.history_pages.specs.KnownPages.{settle_page, ask_nothing}
use Rattle.file_images.specs.Kept.{GateRule, Counting, Barred, Either, PlacedBatch, ShutHeader, LooseHeader, Shut, Flying, InDoubt, Kept, used}

-- a data page was written, and reads as these bytes
abbrev pub with_page : {K : ℕ} → Kept K → ℕ → List ℕ → Kept K
with_page k p bytes = record k { fresh = slice_set k.fresh p (Some bytes) }

-- a write on a data page failed: nothing is known of what it reads as
abbrev pub without_page : {K : ℕ} → Kept K → ℕ → Kept K
without_page k p = record k { fresh = slice_set k.fresh p None }

-- what these data pages read as is on the disk for good
abbrev pub with_settled : {K : ℕ} → Kept K → List ℕ → Kept K
with_settled k pages = record k { always = fold (settle_page k.fresh) k.always pages }

-- these data pages are not asked for any more
abbrev pub without_pages : {K : ℕ} → Kept K → List ℕ → Kept K
without_pages k pages = record k { always = fold ask_nothing k.always pages; fresh = fold ask_nothing k.fresh pages }

-- a batch is just written on the next slot
abbrev pub with_flying : {K : ℕ} → Kept K → Kept K
with_flying k = record k { next = Flying }

-- a batch is in doubt on the next slot
abbrev pub with_doubt : {K : ℕ} → Kept K → LoggedBatch K → Kept K
with_doubt k b = record k { next = InDoubt b }

-- nothing is on the next slot
abbrev pub with_next_shut : {K : ℕ} → Kept K → Kept K
with_next_shut k = record k { next = Shut }

-- a batch with what is asked of its gate
abbrev pub ruled : {K : ℕ} → LoggedBatch K → GateRule → PlacedBatch K
ruled b rule = record { batch = b; gate = rule }

-- of the lists of both halves the first, with something behind it where the half is the first
abbrev pub first_with : {X : Type 0} → ℕ → X → List X → List X
first_with zero x xs = xs ++ x ∷ []
first_with (suc h) x xs = xs

-- of the lists of both halves the second, with something behind it where the half is the second
abbrev pub second_with : {X : Type 0} → ℕ → X → List X → List X
second_with zero x ys = ys
second_with (suc h) x ys = ys ++ x ∷ []

-- a batch stands on the next slot with what is asked of its gate, and the slot behind it is the next
abbrev pub with_placed : {K : ℕ} → Kept K → PlacedBatch K → Kept K
with_placed k p = record k { first = first_with k.half p k.first; second = second_with k.half p k.second; next = Shut }

-- a batch counts on the next slot
abbrev pub with_slot : {K : ℕ} → Kept K → LoggedBatch K → Kept K
with_slot k b = with_placed k (ruled b Counting)

-- a batch stands on the next slot, and does not count
abbrev pub with_barred : {K : ℕ} → Kept K → LoggedBatch K → Kept K
with_barred k b = with_placed k (ruled b Barred)

-- a slot of a half is the next one of a file of this shape, and nothing is on it
pub record IsNextSlot {K : ℕ} (k : Kept K) (s : Shape) (half slot : ℕ) : Type 0 where
  pub shape : k.shape ≡ s
  pub shut : k.next ≡ Shut
  pub half_is : k.half ≡ half
  pub slot_is : used k k.half ≡ slot

-- the other header page is closed
abbrev pub with_closed : {K : ℕ} → Kept K → Kept K
with_closed k = record k { other = ShutHeader }

-- the other header page is loose, and this root, or none, was tried there
abbrev pub with_tried : {K : ℕ} → Kept K → Option WholeRoot → Kept K
with_tried k tried = record k { other = LooseHeader tried }

-- another root stands on the other header page, and that of the root before it is loose
abbrev pub with_root : {K : ℕ} → Kept K → WholeRoot → Kept K
with_root k w = record k { root = w; other = LooseHeader None }

-- a batch whose gate may be anything
abbrev pub loosened : {K : ℕ} → PlacedBatch K → PlacedBatch K
loosened p = record p { gate = Either }

-- of two things, one for each half, the first, changed where the half is the first
abbrev pub first_by : {X : Type 0} → ℕ → (X → X) → X → X
first_by zero f x = f x
first_by (suc h) f x = x

-- of two things, one for each half, the second, changed where the half is the second
abbrev pub second_by : {X : Type 0} → ℕ → (X → X) → X → X
second_by zero f y = y
second_by (suc h) f y = f y

-- the gates of a half may be anything
abbrev pub with_loose : {K : ℕ} → Kept K → ℕ → Kept K
with_loose k h = record k { first = first_by h (map loosened) k.first; second = second_by h (map loosened) k.second }

-- no slot is used
abbrev pub none_used : {X : Type 0} → List X → List X
none_used xs = []

-- no slot of a half is used
abbrev pub with_shut : {K : ℕ} → Kept K → ℕ → Kept K
with_shut k h = record k { first = first_by h none_used k.first; second = second_by h none_used k.second }

-- the half that is not this one
abbrev pub other_half : ℕ → ℕ
other_half zero = 1
other_half (suc h) = 0

-- the halves' roles are exchanged
abbrev pub with_turned : {K : ℕ} → Kept K → Kept K
with_turned k = record k { half = other_half k.half }
