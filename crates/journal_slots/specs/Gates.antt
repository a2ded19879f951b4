-- The gates of a half in the bytes of a page.
use Rattle.std.specs.Prelude.{◌≡◌, ◌∷◌, [], ℕ, List, length, take, drop}
use Rattle.grid_types.specs.declared.sizes.TheConstants.{HEAD_BYTES}
use Rattle.page_fields.specs.Fields.{AreZeros}
use Rattle.grid_model.specs.Spellings.{gate_spelling}

-- a page is the gate page of a half with so many slots: there are as many gates that it spells
pub record IsGatePage (half slots : ℕ) (page : List ℕ) : Type 0 where
  pub gates : List ℕ
  pub count : length gates ≡ slots
  pub spelled : page ≡ gate_spelling half gates

-- the gates of so many slots in a page
abbrev pub gates_in : ℕ → List ℕ → List ℕ
gates_in slots page = take slots (drop HEAD_BYTES page)

-- a page begins as the gate page of a half does: GFG1, the half in four bytes, and zeros up to the end of the head
pub record IsGateHead (half : ℕ) (page : List ℕ) : Type 0 where
  pub front : take 8 page ≡ 71 ∷ 70 ∷ 71 ∷ 49 ∷ 0 ∷ 0 ∷ 0 ∷ half ∷ []
  pub rest : AreZeros 8 HEAD_BYTES page
