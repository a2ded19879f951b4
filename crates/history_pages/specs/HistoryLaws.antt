-- What a history makes of layouts, and the content of an owner at a place of it: its page there.
use Rattle.std.specs.Prelude.{◌≡◌, ◌≤◌, ◌+◌, ℕ, List, false, [], ◌∷◌, ◌++◌, take, length, Option, Some}
use Rattle.grid_types.specs.declared.layout_change.LayoutChange.{LayoutChange}
use Rattle.grid_types.specs.declared.owner.Owner.{Owner}
use Rattle.grid_types.specs.declared.shape.Shape.{Shape}
use Rattle.grid_types.specs.declared.update.Entry.{Entry}
use Rattle.grid_model.specs.Layouts.{BucketBox, holder}
use Rattle.grid_model.specs.Notes.{updated_key, after_note}
use Rattle.grid_model.specs.Lone.{dropped}
use Rattle.grid_model.specs.Histories.{History, Layouts, front, state_at, layout_at, GoesOn}
use Rattle.grid_model.specs.TableLaws.{extended}
use Rattle.history_pages.specs.OwnerPages.{has_owner, owner_page}
use Rattle.history_pages.specs.PageLaws.{IsChange, page_after}

-- each entry of a history has its note
abbrev pub HasNotes : {K : ℕ} → History K → Layouts K → Type 0
HasNotes h ls = length ls.notes ≡ length h.entries

-- the layouts of a history with the note of one more entry
abbrev pub extended_notes : {K : ℕ} → Layouts K → LayoutChange → Layouts K
extended_notes ls n = record { first = ls.first; notes = ls.notes ++ n ∷ [] }

-- the layouts of a history go on as other ones: they are a beginning of these
pub record NotesGoOn {K : ℕ} (ls later : Layouts K) : Type 0 where
  pub first : later.first ≡ ls.first
  pub beginning : take (length ls.notes) later.notes ≡ ls.notes

-- a history's layout is the first one where it begins, each entry changes it by its note, and what comes later changes no earlier layout
pub record MakesLayouts (K : ℕ) : Type 0 where
  pub start : (h : History K) (ls : Layouts K) → layout_at h ls h.from ≡ ls.first
  pub next : (h : History K) (ls : Layouts K) (x : Entry K) (n : LayoutChange) → HasNotes h ls → layout_at (extended h x) (extended_notes ls n) (front h + 1) ≡ after_note (layout_at h ls (front h)) (updated_key x.update) n
  pub before : (h later : History K) (ls ls_later : Layouts K) (at : ℕ) → GoesOn h later → NotesGoOn ls ls_later → HasNotes h ls → at ≤ front h → layout_at later ls_later at ≡ layout_at h ls at

-- the content of an owner at a place of a history: its page over the layout and the table there
unfoldable pub content : {K : ℕ} → History K → Layouts K → ℕ → Owner → Option (List ℕ)
content h ls at o = owner_page (layout_at h ls at) (state_at h at) o

-- what comes later changes no content at an earlier place; behind one more entry an owner's content is its page after the change, and that of an owner that the change does not drop is what it was
pub record KeepsContents (K : ℕ) : Type 0 where
  pub before : (h later : History K) (ls ls_later : Layouts K) (at : ℕ) (o : Owner) → GoesOn h later → NotesGoOn ls ls_later → HasNotes h ls → at ≤ front h → content later ls_later at o ≡ content h ls at o
  pub next : (h : History K) (ls : Layouts K) (x : Entry K) (n : LayoutChange) (e : ℕ × BucketBox K) (o : Owner) → HasNotes h ls → holder (layout_at h ls (front h)) (updated_key x.update) ≡ Some e
      → content (extended h x) (extended_notes ls n) (front h + 1) o ≡ page_after (layout_at h ls (front h)) (state_at h (front h)) x.update n e o
  pub others : (shape : Shape) (h : History K) (ls : Layouts K) (x : Entry K) (n : LayoutChange) (e : ℕ × BucketBox K) (o : Owner) → HasNotes h ls → IsChange shape (layout_at h ls (front h)) (state_at h (front h)) x.update n e
      → has_owner (dropped (layout_at h ls (front h)) e n) o ≡ false → content (extended h x) (extended_notes ls n) (front h + 1) o ≡ content h ls (front h) o
