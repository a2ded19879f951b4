-- The script, as it is read from a source.
use Rattle.std.specs.Prelude.{◌≡◌, ◌≤◌, ◌+◌, ℕ, List, drop, IsTrue, ⊤}
use Rattle.grid_types.specs.declared.request.Line.{Line}
use Rattle.grid_model.specs.Script.{longest}
use Rattle.disk_trait.specs.declared.source.Source.{Ghosts}
use Rattle.disk_trait.specs.Causes.{Rose}
use Rattle.grid_script.specs.Taken.{IsScript, IsFault}
use Rattle.grid_shell.specs.declared.ending.Ending.{Ending}
use Rattle.grid_shell.specs.declared.ending.Ending.TheVariants.{BadScript, Device, Memory}

-- the most that is read of the input: one byte more than a script may have
abbrev pub most_read : ℕ
most_read = longest + 1

-- a source has lost at most n bytes, from the front
pub record LostAtMost (n : ℕ) (old new : List ℕ) : Type 0 where
  pub count : ℕ
  pub few : count ≤ n
  pub rest : new ≡ drop count old

-- the script was not read, and this ending says why: the line of its fault, a source that failed, or want of memory
abbrev pub IsUnreadSo : (K : ℕ) {S : Type 0} → Ghosts S → S → S → Ending → Type 0
IsUnreadSo K g old new (BadScript line) = (IsTrue (g.tells old) → IsFault K (g.left old) line) × (g.fault_count new ≡ g.fault_count old)
IsUnreadSo K g old new Device = Rose (g.fault_count old) (g.fault_count new)
IsUnreadSo K g old new Memory = ⊤
IsUnreadSo K g old new other = ⊥

-- a source was read for these lines: the script asks them, no failure was counted, and no more was taken than a script may have and one byte
pub record IsReadFor {K : ℕ} {S : Type 0} (g : Ghosts S) (lines : List (Line K)) (old new : S) : Type 0 where
  pub script : IsTrue (g.tells old) → IsScript (g.left old) lines
  pub steady : g.fault_count new ≡ g.fault_count old
  pub lost : IsTrue (g.tells old) → LostAtMost most_read (g.left old) (g.left new)
