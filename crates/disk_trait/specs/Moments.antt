-- What a crash may leave now, and at each moment of a section of calls.
use Rattle.std.specs.Prelude.{◌≡◌, ◌↔◌, ◌<◌, ◌≤◌, ◌⊎◌, ◌+◌, ℕ, List, [], ◌∷◌, length, slice_index, ⊤}

-- an image that one of the old ones may have become by this step
abbrev pub After : (List ℕ → List ℕ → Type 0) → (List ℕ → Type 0) → List ℕ → Type 0
After step old c = (d : List ℕ) × old d × step d c

-- each image that a crash now may leave has P
abbrev pub Always : (List ℕ → Type 0) → (List ℕ → Type 0) → Type 0
Always may_leave P = (c : List ℕ) → may_leave c → P c

-- a crash may leave the same images
abbrev pub SameImages : (List ℕ → Type 0) → (List ℕ → Type 0) → Type 0
SameImages old new = (c : List ℕ) → new c ↔ old c

-- time goes on: a crash since t might have left what it might have left before, or what it may leave now
pub record Elapses {D : Type 0} (moment : D → ℕ) (left_since : D → ℕ → List ℕ → Type 0) (may_leave : D → List ℕ → Type 0) (old new : D) : Type 0 where
  pub later : moment old ≤ moment new
  pub nothing_else : (t : ℕ) (c : List ℕ) → t ≤ moment old → left_since new t c → left_since old t c ⊎ may_leave new c
  pub keeps : (t : ℕ) (c : List ℕ) → t ≤ moment old → left_since old t c → left_since new t c

-- a crash at any moment since the old state of a disk leaves an image that has P; of a run that began earlier it leaves what it might have left by then, or such an image
pub record LeavesOnly {D : Type 0} (moment : D → ℕ) (left_since : D → ℕ → List ℕ → Type 0) (old new : D) (P : List ℕ → Type 0) : Type 0 where
  pub later : moment old ≤ moment new
  pub each : (c : List ℕ) → left_since new (moment old) c → P c
  pub before : (t : ℕ) (c : List ℕ) → t ≤ moment old → left_since new t c → left_since old t c ⊎ P c

-- a byte lies outside of each of these ranges; a range is its start and its length
abbrev pub IsOutside : List (ℕ × ℕ) → ℕ → Type 0
IsOutside [] i = ⊤
IsOutside (r ∷ rs) i = ((i < r.0) ⊎ (r.0 + r.1 ≤ i)) × IsOutside rs i

-- two images have one length, and differ at most in these ranges
pub record AgreesOutside (rs : List (ℕ × ℕ)) (old new : List ℕ) : Type 0 where
  pub same_length : length new ≡ length old
  pub each : (i : ℕ) → IsOutside rs i → slice_index new i ≡ slice_index old i
