-- What the definition of passes promises, and that the numbers of callers may be others.
use Rattle.std.specs.Prelude.{◌≡◌, ◌<◌, ◌+◌, ◌++◌, ℕ, List, [], ◌∷◌, map, Contains}
use Rattle.grid_types.specs.declared.update.Entry.{Entry}
use Rattle.grid_types.specs.declared.request.Request.{Request}
use Rattle.grid_types.specs.declared.request.Reply.{Reply}
use Rattle.grid_model.specs.Histories.{History, Layouts, state_at, layout_at}
use Rattle.grid_model.specs.TableLaws.{extended}
use Rattle.grid_model.specs.Answers.{IsAnswer}
use Rattle.grid_model.specs.Passes.{Pass, ArePasses}

-- the first pass of a grid
abbrev pub first_pass : (K : ℕ) → Pass K
first_pass K = record { caller = 0; seen = []; mine = [] }

-- a pass that is forked from another: it has seen the same, and no entry is its own
abbrev pub forked : {K : ℕ} → ℕ → Pass K → Pass K
forked caller p = record { caller = caller; seen = p.seen; mine = [] }

-- passes stay passes: of a history without entries the first is one, each fork takes the next number, an entry of a caller that there is changes nothing, and a pass may be joined
pub record KeepsPasses (K : ℕ) : Type 0 where
  pub first : (h : History K) → h.entries ≡ [] → ArePasses 1 (first_pass K ∷ []) h
  pub fork : (made : ℕ) (ps : List (Pass K)) (h : History K) (p : Pass K) → ArePasses made ps h → Contains ps p → ArePasses (made + 1) (forked made p ∷ ps) h
  pub entry : (made : ℕ) (ps : List (Pass K)) (h : History K) (e : Entry K) → ArePasses made ps h → e.caller < made → ArePasses made ps (extended h e)
  pub join : (made : ℕ) (before : List (Pass K)) (p : Pass K) (behind : List (Pass K)) (h : History K) → ArePasses made (before ++ p ∷ behind) h → ArePasses made (before ++ behind) h

-- an entry whose caller has another number
abbrev pub with_caller : {K : ℕ} → (ℕ → ℕ) → Entry K → Entry K
with_caller number e = record { caller = number e.caller; update = e.update }

-- a history whose callers have other numbers
abbrev pub renamed : {K : ℕ} → (ℕ → ℕ) → History K → History K
renamed number h = record { from = h.from; base = h.base; entries = map (with_caller number) h.entries }

-- callers may have other numbers: tables and layouts are the same, answers stay answers, and where no two callers get one number, nothing else becomes an answer
pub record RenamesCallers (K : ℕ) : Type 0 where
  pub tables : (number : ℕ → ℕ) (h : History K) (n : ℕ) → state_at (renamed number h) n ≡ state_at h n
  pub layouts : (number : ℕ → ℕ) (h : History K) (ls : Layouts K) (n : ℕ) → layout_at (renamed number h) ls n ≡ layout_at h ls n
  pub answers : (number : ℕ → ℕ) (h : History K) (caller : ℕ) (r : Request K) (reply : Reply K) → IsAnswer h caller r reply → IsAnswer (renamed number h) (number caller) r reply
  pub back : (number : ℕ → ℕ) (h : History K) (caller : ℕ) (r : Request K) (reply : Reply K) → ((a b : ℕ) → number a ≡ number b → a ≡ b) → IsAnswer (renamed number h) (number caller) r reply → IsAnswer h caller r reply
