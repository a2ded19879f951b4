-- The content of an owner at the places of a history.
use Rattle.std.proofs.Common.{◌≡◌, ◌≤◌, ◌+◌, ℕ, false, Some, ◌∙◌}
use Rattle.grid_types.specs.declared.layout_change.LayoutChange.{LayoutChange}
use Rattle.grid_types.specs.declared.owner.Owner.{Owner}
use Rattle.grid_types.specs.declared.shape.Shape.{Shape}
use Rattle.grid_types.specs.declared.update.Entry.{Entry}
use Rattle.grid_model.specs.Layouts.{BucketBox, holder}
use Rattle.grid_model.specs.Notes.{updated_key}
use Rattle.grid_model.specs.Lone.{dropped}
use Rattle.grid_model.specs.Histories.{History, Layouts, front, state_at, layout_at, GoesOn}
use Rattle.grid_model.specs.TableLaws.{extended}
use Rattle.grid_model.proofs.Listed.{makes-states}
use Rattle.grid_model.proofs.Holders.{after-there}
use Rattle.history_pages.specs.OwnerPages.{has_owner, owner_page}
use Rattle.history_pages.specs.PageLaws.{IsChange, page_after}
use Rattle.history_pages.specs.HistoryLaws.{content, extended_notes, NotesGoOn, HasNotes, KeepsContents}
use Rattle.history_pages.proofs.Changes.{others}
use Rattle.history_pages.proofs.HistoryLayouts.{makes-layouts}

module _ {K : ℕ} where
  -- what comes later changes no earlier content
  content-before : (h later : History K) (ls ls_later : Layouts K) (at : ℕ) (o : Owner) → GoesOn h later → NotesGoOn ls ls_later → HasNotes h ls → at ≤ front h → content later ls_later at o ≡ content h ls at o
  unfolding content
  content-before h later ls ls_later at o g n each l = λ i. owner_page (makes-layouts.before h later ls ls_later at g n each l i) (makes-states.before h later at g l i) o

  -- one more entry makes the contents those after its change
  content-next : (h : History K) (ls : Layouts K) (x : Entry K) (n : LayoutChange) (e : ℕ × BucketBox K) (o : Owner) → HasNotes h ls → holder (layout_at h ls (front h)) (updated_key x.update) ≡ Some e
      → content (extended h x) (extended_notes ls n) (front h + 1) o ≡ page_after (layout_at h ls (front h)) (state_at h (front h)) x.update n e o
  unfolding content
  content-next h ls x n e o each held = λ i. owner_page ((makes-layouts.next h ls x n each ∙ after-there (layout_at h ls (front h)) (updated_key x.update) e n held) i) (makes-states.next h x i) o

  -- and leaves that of each owner that is not dropped
  content-others : (shape : Shape) (h : History K) (ls : Layouts K) (x : Entry K) (n : LayoutChange) (e : ℕ × BucketBox K) (o : Owner) → HasNotes h ls → IsChange shape (layout_at h ls (front h)) (state_at h (front h)) x.update n e
      → has_owner (dropped (layout_at h ls (front h)) e n) o ≡ false → content (extended h x) (extended_notes ls n) (front h + 1) o ≡ content h ls (front h) o
  unfolding content
  content-others shape h ls x n e o each is out = content-next h ls x n e o each is.holds ∙ others shape (layout_at h ls (front h)) (state_at h (front h)) x.update n e o is out

  -- a history keeps contents
  pub keeps-contents : KeepsContents K
  keeps-contents = record { before = content-before; next = content-next; others = content-others }
