-- The fields of a line: how they stand in it, and what is printed of data.
use Rattle.std.specs.Prelude.{◌≡◌, ◌<◌, ◌++◌, ℕ, List, Option, Some, None, codes, length, slice_index}
use Rattle.grid_model.specs.Text.{hex_text, numbered}

-- none of the bytes is this one
abbrev pub Without : ℕ → List ℕ → Type 0
Without b xs = (i : ℕ) → i < length xs → slice_index xs i ≡ b → ⊥

-- a word where there is no data, or else another word and the data
abbrev pub found_text : List ℕ → List ℕ → Option (List ℕ) → List ℕ
found_text absent word None = absent
found_text absent word (Some d) = word ++ hex_text d

-- the line of a file that was made, with the number of its pages
abbrev pub made_line : ℕ → List ℕ
made_line pages = numbered (codes "made ") pages ++ codes " pages\n"
