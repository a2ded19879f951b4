-- One history: a number, the table that stood there, and the entries since; beside it the layouts, by the notes of the entries.
use Rattle.std.specs.Prelude.{◌≡◌, ℕ, ◌+◌, ◌-◌, ◌≤◌, List, if◌then◌else◌, take, length, fold, zip, Option, Some, None, slice_get, nat_lt, All}
use Rattle.grid_types.specs.declared.update.Entry.{Entry}
use Rattle.grid_types.specs.declared.shape.Shape.{Shape}
use Rattle.grid_types.specs.declared.layout_change.LayoutChange.{LayoutChange}
use Rattle.grid_model.specs.Tables.{Table, IsTableOf, effect}
use Rattle.grid_model.specs.Lawful.{IsUpdateOf}
use Rattle.grid_model.specs.Layouts.{Layout}
use Rattle.grid_model.specs.Notes.{IsLawfulNote, after_note, updated_key}

-- a history: the number that it begins with, the table that stood there, and the entries, each an update with its caller
pub record History (K : ℕ) : Type 0 where
  pub from : ℕ
  pub base : Table
  pub entries : List (Entry K)

-- a history is one of tables: it begins with a table of K attributes, and each update has a key of K numbers and lawful data
pub record IsHistory {K : ℕ} (h : History K) : Type 0 where
  pub base : IsTableOf K h.base
  pub updates : All (λ e. IsUpdateOf K e.update) h.entries

-- the place of the last entry
abbrev pub front : {K : ℕ} → History K → ℕ
front h = h.from + length h.entries

-- a place of a history lies between the number that it begins with and its front
pub record IsPlace {K : ℕ} (h : History K) (at : ℕ) : Type 0 where
  pub not_before : h.from ≤ at
  pub not_after : at ≤ front h

-- the entries up to a place
abbrev pub until : {K : ℕ} → History K → ℕ → List (Entry K)
until h n = take (n - h.from) h.entries

-- the entry at a place: the first one has the place behind the number that the history begins with
abbrev pub entry_at : {K : ℕ} → History K → ℕ → Option (Entry K)
entry_at h n = if nat_lt h.from n then slice_get h.entries (n - h.from - 1) else None

-- what an entry makes of a table
abbrev pub entry_effect : {K : ℕ} → Table → Entry K → Table
entry_effect t e = effect t e.update

-- the table at a place: the base table after the updates up to there
unfoldable pub state_at : {K : ℕ} → History K → ℕ → Table
state_at h n = fold entry_effect h.base (until h n)

-- the layouts of a history: the one that it begins with, and the note of each entry
pub record Layouts (K : ℕ) : Type 0 where
  pub first : Layout K
  pub notes : List LayoutChange

-- what an entry with its note makes of a layout
abbrev pub layout_effect : {K : ℕ} → Layout K → Entry K × LayoutChange → Layout K
layout_effect L e = after_note L (updated_key e.0.update) e.1

-- the layout at a place: the first one after the notes up to there
unfoldable pub layout_at : {K : ℕ} → History K → Layouts K → ℕ → Layout K
layout_at h ls n = fold layout_effect ls.first (zip (until h n) ls.notes)

-- each entry has a note, which is lawful where it stands
pub record IsNoted {K : ℕ} (shape : Shape) (h : History K) (ls : Layouts K) : Type 0 where
  pub each : length ls.notes ≡ length h.entries
  pub lawful : (i : ℕ) (e : Entry K) (n : LayoutChange) → slice_get h.entries i ≡ Some e → slice_get ls.notes i ≡ Some n
      → IsLawfulNote shape (layout_at h ls (h.from + i)) (state_at h (h.from + i)) e.update n

-- a history goes on as another one: it is a beginning of it
pub record GoesOn {K : ℕ} (h later : History K) : Type 0 where
  pub from : later.from ≡ h.from
  pub base : later.base ≡ h.base
  pub beginning : take (length h.entries) later.entries ≡ h.entries
