-- Keys and data in the bytes of a page.
use Rattle.std.proofs.Common.{◌≡◌, ◌≤◌, ℕ, List, length, take, arith}
use Rattle.std.proofs.lemmas.List.{length-take}
use Rattle.grid_types.specs.Keys.{IsKey}
use Rattle.page_fields.specs.Padded.{padded, numbers}
use Rattle.page_fields.specs.Corners.{CornerAt}
use Rattle.page_fields.proofs.BytesOf.{length-numbers, length-padded}

-- a corner that stands in a page is a key
pub corner-is-key : (K : ℕ) (page : List ℕ) (at : ℕ) (xs : List ℕ) → CornerAt K page at xs → IsKey K xs
corner-is-key K page at xs read = record { count = read.count; in_range = read.in_range }

-- a key of up to four numbers has a field of 32 bytes
pub length-key : (K : ℕ) (xs : List ℕ) → K ≤ 4 → IsKey K xs → length (padded 32 (numbers 8 xs)) ≡ 32
length-key K xs few fits = length-padded 32 (numbers 8 xs) (omega (arith, length-numbers 8 xs, fits.count))

-- so many bytes are no more than that
pub few-taken : (n m : ℕ) (xs : List ℕ) → n ≤ m → length (take n xs) ≤ m
few-taken n m xs le = simp length-take (omega arith)
