-- A pass: a caller, what it has seen of the history, and where its own entries stand.
use Rattle.std.specs.Prelude.{◌≡◌, ◌<◌, ℕ, ◌+◌, List, map, take, length, filter, ◌==◌, All}
use Rattle.std.specs.List.{enumerate_from}
use Rattle.grid_types.specs.declared.update.Entry.{Entry}
use Rattle.grid_model.specs.Lists.{AreDistinct}
use Rattle.grid_model.specs.Histories.{History}

-- a caller's number, the entries that it has seen, and the places of its own among them
pub record Pass (K : ℕ) : Type 0 where
  pub caller : ℕ
  pub seen : List (Entry K)
  pub mine : List ℕ

-- the places of a caller's entries, where the first entry stands at the given place
abbrev pub places_of : {K : ℕ} → ℕ → ℕ → List (Entry K) → List ℕ
places_of first caller entries = map (λ p. p.0) (filter (λ p. p.1.caller == caller) (enumerate_from first entries))

-- a pass of a history: what it has seen is a beginning of it, and its own places are those of its entries there
pub record IsPassOf {K : ℕ} (p : Pass K) (h : History K) : Type 0 where
  pub beginning : p.seen ≡ take (length p.seen) h.entries
  pub own : p.mine ≡ places_of (h.from + 1) p.caller p.seen

-- each caller of a history has a number below this one
abbrev pub AreCallersBelow : {K : ℕ} → ℕ → History K → Type 0
AreCallersBelow n h = All (λ e. e.caller < n) h.entries

-- the passes of a grid, of which so many were made: each is one of the history, each number is below those made, those in the history too, and no two passes have one number
pub record ArePasses {K : ℕ} (made : ℕ) (passes : List (Pass K)) (h : History K) : Type 0 where
  pub each : All (λ p. IsPassOf p h) passes
  pub below : All (λ p. p.caller < made) passes
  pub apart : AreDistinct (map (λ p. p.caller) passes)
  pub callers : AreCallersBelow made h
