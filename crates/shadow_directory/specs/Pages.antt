-- What each call on the pages of a change leaves, and what was written in which order.
use Rattle.std.specs.Prelude.{◌≡◌, ◌≤◌, ◌+◌, ◌++◌, ℕ, List, Option, Result, OnOk, length, map, take}
use Rattle.grid_types.specs.declared.owner.Owner.{Owner}

-- an owner with the bytes that were written for it
abbrev pub OwnerBytes : Type 0
OwnerBytes = Owner × List ℕ

-- a call leaves what is told of the pages, the number of parts, where each part lies, and all that has to stay
pub record LeavesPages {D : Type 0} (pages : D → Option (Owner → Option (List ℕ))) (parts : D → ℕ) (lies_at : D → ℕ → ℕ → Type 0) (stays : D → D → Type 0) (old new : D) : Type 0 where
  pub told : pages new ≡ pages old
  pub count : parts new ≡ parts old
  pub lies : (part page : ℕ) → lies_at new part page → lies_at old part page
  pub rest : stays old new

-- a call makes so many steps where it is done, and at most as many where it fails
pub record Ticks {T E : Type 0} (count before now : ℕ) (result : Result T E) : Type 0 where
  pub all : OnOk result (now ≡ before + count)
  pub least : before ≤ now
  pub most : now ≤ before + count

-- what was written begins as before, and goes on with pages of these owners, in their order
pub record BeganFor (owners : List Owner) (old new : List (Owner × List ℕ)) : Type 0 where
  pub more : List (Owner × List ℕ)
  pub is : new ≡ old ++ more
  pub order : map (λ w. w.0) more ≡ take (length more) owners
