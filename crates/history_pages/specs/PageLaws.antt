-- What a change, which is an update with its note, makes of the pages of owners.
use Rattle.std.specs.Prelude.{◌≡◌, ◌↔◌, ℕ, List, false, Option, Some, None, IsSome, IsTrue}
use Rattle.grid_types.specs.declared.layout_change.LayoutChange.{LayoutChange}
use Rattle.grid_types.specs.declared.owner.Owner.{Owner}
use Rattle.grid_types.specs.declared.shape.Shape.{Shape}
use Rattle.grid_types.specs.declared.update.Update.{Update}
use Rattle.grid_model.specs.Lists.{is_among}
use Rattle.grid_model.specs.Tables.{Table, effect}
use Rattle.grid_model.specs.Layouts.{BucketBox, Layout, holder}
use Rattle.grid_model.specs.Notes.{updated_key, after_note_at, IsLawfulNote}
use Rattle.grid_model.specs.LayoutLaws.{StandsOver}
use Rattle.grid_model.specs.Lone.{owners, renewed, dropped}
use Rattle.history_pages.specs.OwnerPages.{has_owner, numbered_bucket, owner_page}

-- a change of a layout and a table: the layout stands over the table, the update's note is lawful, and this is the box that has its key
pub record IsChange {K : ℕ} (shape : Shape) (L : Layout K) (t : Table) (u : Update K) (n : LayoutChange) (e : ℕ × BucketBox K) : Type 0 where
  pub stands : StandsOver shape L t
  pub lawful : IsLawfulNote shape L t u n
  pub holds : holder L (updated_key u) ≡ Some e

-- the page of an owner after a change
abbrev pub page_after : {K : ℕ} → Layout K → Table → Update K → LayoutChange → ℕ × BucketBox K → Owner → Option (List ℕ)
page_after L t u n e o = owner_page (after_note_at L e n) (effect t u) o

-- pages follow others by a change: each renewed owner has its new page, each owner that is not dropped has the page that it had, and what is dropped and not renewed has none
pub record Follow {K : ℕ} (L : Layout K) (t : Table) (u : Update K) (n : LayoutChange) (e : ℕ × BucketBox K) (before later : Owner → Option (List ℕ)) : Type 0 where
  pub new : (o : Owner) → IsTrue (has_owner (renewed L e n) o) → later o ≡ page_after L t u n e o
  pub others : (o : Owner) → has_owner (dropped L e n) o ≡ false → later o ≡ before o
  pub gone : (o : Owner) → has_owner (renewed L e n) o ≡ false → IsTrue (has_owner (dropped L e n) o) → later o ≡ None

-- exactly the owners of a layout have a page; a change renews some of those that it drops, leaves the page of each owner and each bucket that it does not drop, and has a page for each that it renews and none for the rest; so pages that follow those of a layout and a table are those after the change
pub record KeepsPages (K : ℕ) : Type 0 where
  pub named : (L : Layout K) (t : Table) (o : Owner) → IsSome (owner_page L t o) ↔ IsTrue (has_owner (owners L) o)
  pub among : (L : Layout K) (n : LayoutChange) (e : ℕ × BucketBox K) (o : Owner) → IsTrue (has_owner (renewed L e n) o) → IsTrue (has_owner (dropped L e n) o)
  pub others : (shape : Shape) (L : Layout K) (t : Table) (u : Update K) (n : LayoutChange) (e : ℕ × BucketBox K) (o : Owner) → IsChange shape L t u n e
      → has_owner (dropped L e n) o ≡ false → page_after L t u n e o ≡ owner_page L t o
  pub bucket : (shape : Shape) (L : Layout K) (t : Table) (u : Update K) (n : LayoutChange) (e : ℕ × BucketBox K) (m : ℕ) → IsChange shape L t u n e
      → is_among (dropped L e n).buckets m ≡ false → numbered_bucket (after_note_at L e n) (effect t u) m ≡ numbered_bucket L t m
  pub new : (shape : Shape) (L : Layout K) (t : Table) (u : Update K) (n : LayoutChange) (e : ℕ × BucketBox K) (o : Owner) → IsChange shape L t u n e
      → IsTrue (has_owner (renewed L e n) o) → IsSome (page_after L t u n e o)
  pub gone : (shape : Shape) (L : Layout K) (t : Table) (u : Update K) (n : LayoutChange) (e : ℕ × BucketBox K) (o : Owner) → IsChange shape L t u n e
      → has_owner (renewed L e n) o ≡ false → IsTrue (has_owner (dropped L e n) o) → page_after L t u n e o ≡ None
  pub next : (shape : Shape) (L : Layout K) (t : Table) (u : Update K) (n : LayoutChange) (e : ℕ × BucketBox K) (before later : Owner → Option (List ℕ)) → IsChange shape L t u n e
      → ((o : Owner) → before o ≡ owner_page L t o) → Follow L t u n e before later → (o : Owner) → later o ≡ page_after L t u n e o
