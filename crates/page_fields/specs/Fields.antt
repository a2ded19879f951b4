-- Numbers in the bytes of a page, the highest byte first.
use Rattle.std.specs.Prelude.{◌≡◌, ◌<◌, ◌≤◌, ◌+◌, ℕ, List, ◌++◌, length, take, drop, slice_index}
use Rattle.byteorder.specs.Endian.{big_number, big_bytes}

-- the number in the first n bytes
unfoldable pub number : ℕ → List ℕ → ℕ
number n bytes = big_number n bytes

-- the lowest n bytes of a number
unfoldable pub bytes_of : ℕ → ℕ → List ℕ
bytes_of n x = big_bytes n x

-- the page with these bytes from an offset on
abbrev pub replaced : ℕ → List ℕ → List ℕ → List ℕ
replaced at bytes page = take at page ++ (bytes ++ drop (at + length bytes) page)

-- each byte from one offset up to another is 0
abbrev pub AreZeros : ℕ → ℕ → List ℕ → Type 0
AreZeros from to page = (i : ℕ) → from ≤ i → i < to → slice_index page i ≡ 0
