-- What the calls of a disk do to its bytes, and what a crash may do between two syncs.
use Rattle.std.specs.Prelude.{◌≡◌, ◌+◌, ◌-◌, ◌/◌, ◌≤◌, ℕ, List, ◌++◌, length, take, drop}
use Rattle.grid_types.specs.declared.sizes.TheConstants.{PAGE_BYTES}

-- a write of n bytes from an offset on lies in one page, and inside a disk of this size
pub record InOnePage (at n size : ℕ) : Type 0 where
  pub some : 1 ≤ n
  pub page : at / PAGE_BYTES ≡ (at + n - 1) / PAGE_BYTES
  pub inside : at + n ≤ size

-- the new image is the old one with these bytes from an offset on
abbrev pub Holds : List ℕ → ℕ → List ℕ → List ℕ → Type 0
Holds old at bytes new = new ≡ take at old ++ (bytes ++ drop (at + length bytes) old)

-- two images have one length, and differ at most in n bytes from an offset on
pub record Agrees (at n : ℕ) (old new : List ℕ) : Type 0 where
  pub same_length : length new ≡ length old
  pub before : take at new ≡ take at old
  pub after : drop (at + n) new ≡ drop (at + n) old

-- a crash leaves this image and no other
abbrev pub Only : List ℕ → (List ℕ → Type 0) → Type 0
Only image outcomes = (c : List ℕ) → outcomes c → c ≡ image

-- an image that stays as it was
abbrev pub Stays : List ℕ → List ℕ → Type 0
Stays old new = new ≡ old
