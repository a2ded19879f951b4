-- The body of a page, from byte 96 on: entries of one width, and zeros behind them.
use Rattle.std.proofs.Common.{◌≡◌, ◌≤◌, ◌+◌, ◌-◌, ◌*◌, ℕ, List, ◌++◌, length, drop, replicate, ap, ◌∙◌, arith}
use Rattle.std.specs.List.{flat_map}
use Rattle.page_fields.specs.Fields.{bytes_of, AreZeros}
use Rattle.page_fields.specs.Padded.{padded}
use Rattle.page_fields.proofs.Entries.{AreBytes, entries_in, entries_are, length-entries}
use Rattle.page_fields.proofs.ZeroParts.{zeros_to_end}

-- the zeros behind n entries of w bytes
abbrev pub zeros_left : ℕ → ℕ → List ℕ
zeros_left w n = replicate (4000 - w * n) 0

-- entries that are filled up to a body have these zeros behind them
pub body_spelled : (w : ℕ) (entries : List ℕ) → padded 4000 (flat_map (bytes_of w) entries) ≡ flat_map (bytes_of w) entries ++ zeros_left w (length entries)
unfolding padded
body_spelled w entries = ap (λ (n : ℕ). flat_map (bytes_of w) entries ++ replicate (4000 - n) 0) (length-entries w entries)

-- a body with zeros behind so many entries is the entries that stand in it, and these zeros
pub body_read : (w count : ℕ) (page : List ℕ) → w * count ≤ 4000 → AreZeros (96 + w * count) 4096 page → length page ≡ 4096 → AreBytes page → drop 96 page ≡ flat_map (bytes_of w) (entries_in w 96 count page) ++ zeros_left w count
body_read w count page few zeros long fits =
    let left : 4096 - (96 + w * count) ≡ 4000 - w * count = omega arith in
    let tail : drop (96 + w * count) page ≡ zeros_left w count = zeros_to_end (96 + w * count) 4096 page (omega arith) long zeros ∙ ap (λ (n : ℕ). replicate n 0) left in
    entries_are w 96 count page (omega arith) fits ∙ ap (λ (r : List ℕ). flat_map (bytes_of w) (entries_in w 96 count page) ++ r) tail
