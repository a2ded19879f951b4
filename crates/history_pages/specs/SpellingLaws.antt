-- What the pages of owners say, and when an image's pages are those of a layout and a table.
use Rattle.std.specs.Prelude.{◌≡◌, ◌↔◌, ◌-◌, ◌*◌, ◌<◌, ℕ, List, min, Some}
use Rattle.grid_types.specs.declared.layout_change.LayoutChange.{LayoutChange}
use Rattle.grid_types.specs.declared.owner.Owner.{Owner}
use Rattle.grid_types.specs.declared.owner.Owner.TheVariants.{Bucket, Part}
use Rattle.grid_types.specs.declared.shape.Shape.{Shape}
use Rattle.grid_types.specs.declared.sizes.TheConstants.{WORDS_ON_PAGE}
use Rattle.grid_types.specs.declared.update.Update.{Update}
use Rattle.grid_model.specs.Cells.{cells}
use Rattle.grid_model.specs.Tables.{Table, effect}
use Rattle.grid_model.specs.Layouts.{BucketBox, Layout, box, directory_part}
use Rattle.grid_model.specs.Notes.{after_note_at}
use Rattle.grid_model.specs.Lawful.{IsUpdateOf}
use Rattle.grid_model.specs.LayoutLaws.{StandsOver, Fits}
use Rattle.grid_model.specs.Lone.{owners}
use Rattle.grid_model.specs.Buckets.{SpellsBucket}
use Rattle.grid_model.specs.Images.{bucket_on, PagesSpell}
use Rattle.grid_model.specs.Expected.{IsExpectedPart}
use Rattle.history_pages.specs.OwnerPages.{owner_page, ImagePages, page_in}
use Rattle.history_pages.specs.PageLaws.{IsChange, Follow}

-- how many cells a directory part has: a thousand, the last part what is left
abbrev pub cells_in_part : List (List ℕ) → ℕ → ℕ
cells_in_part scales p = min WORDS_ON_PAGE (cells scales - WORDS_ON_PAGE * p)

-- an image's pages spell a layout and a table
abbrev pub ImageSpells : {K : ℕ} → Shape → ImagePages → Layout K → Table → Type 0
ImageSpells s pages L t = PagesSpell s pages.image pages.parts_at pages.table L t

-- over a layout that stands over a table, a bucket's page spells its box with the records inside of it, and a part's page is the expected one for each cell that is read of it; an image's pages spell both exactly where it has each owner's page; and so they do after a change that its pages follow
pub record SpellsLayout (K : ℕ) : Type 0 where
  pub bucket : (shape : Shape) (L : Layout K) (t : Table) (n : ℕ) (b : BucketBox K) (bytes : List ℕ) → StandsOver shape L t → box L n ≡ Some b → owner_page L t (Bucket n) ≡ Some bytes
      → SpellsBucket shape.capacity bytes (bucket_on t (n, b))
  pub part : (shape : Shape) (L : Layout K) (t : Table) (p read : ℕ) (bytes : List ℕ) → StandsOver shape L t → owner_page L t (Part p) ≡ Some bytes → read < cells_in_part L.scales p
      → IsExpectedPart bytes p (cells_in_part L.scales p) (owners L).buckets read (directory_part L p)
  pub whole : (shape : Shape) (L : Layout K) (t : Table) (pages : ImagePages) → StandsOver shape L t → ImageSpells shape pages L t ↔ ((o : Owner) → page_in shape pages o ≡ owner_page L t o)
  pub next : (shape : Shape) (L : Layout K) (t : Table) (u : Update K) (n : LayoutChange) (e : ℕ × BucketBox K) (before later : ImagePages) → IsChange shape L t u n e → IsUpdateOf K u → Fits shape (after_note_at L e n)
      → ImageSpells shape before L t → Follow L t u n e (page_in shape before) (page_in shape later) → ImageSpells shape later (after_note_at L e n) (effect t u)
