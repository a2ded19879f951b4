-- What the pages of buckets are over a layout and a table, before and after an update.
use Rattle.std.specs.Prelude.{◌≡◌, ◌≢◌, ℕ, ◌+◌, ◌*◌, ◌/◌, Bool, ◌&&◌, List, length, nat_le, min, Option, Some, None, IsTrue}
use Rattle.grid_types.specs.declared.key.Key.{Key}
use Rattle.grid_types.specs.declared.layout_change.Cut.{Cut}
use Rattle.grid_types.specs.declared.layout_change.LayoutChange.TheVariants as note
use Rattle.grid_types.specs.declared.owner.Owner.TheVariants.{Bucket}
use Rattle.grid_types.specs.declared.shape.Shape.{Shape}
use Rattle.grid_types.specs.declared.update.Record.{Record}
use Rattle.grid_types.specs.declared.update.Update.TheVariants.{Put, Remove}
use Rattle.grid_types.specs.Regions.{contains, make_a_box}
use Rattle.grid_model.specs.Tables.{Table, get}
use Rattle.grid_model.specs.Layouts.{BucketBox, Layout, box, holder, unused}
use Rattle.grid_model.specs.Cuts.{cut}
use Rattle.grid_model.specs.Notes.{put_note, IsLawfulNote}
use Rattle.grid_model.specs.LayoutLaws.{StandsOver}
use Rattle.grid_model.specs.Buckets.{SpellsBucket}
use Rattle.grid_model.specs.Images.{bucket_on}
use Rattle.grid_model.specs.Spellings.{BucketOf}
use Rattle.bucket_page.specs.Changing.{without_key}
use Rattle.bucket_page.specs.Putting.{with_record}
use Rattle.history_pages.specs.PageLaws.{page_after}

-- a page with so many records is that of the box that has a key, over a layout that stands over a table
pub record IsPageOf {K : ℕ} (shape : Shape) (L : Layout K) (t : Table) (k : List ℕ) (e : ℕ × BucketBox K) (bytes : List ℕ) (n : ℕ) : Type 0 where
  pub stands : StandsOver shape L t
  pub holds : holder L k ≡ Some e
  pub spelled : SpellsBucket shape.capacity bytes (bucket_on t e)
  pub count : length (bucket_on t e).rows ≡ n

-- a cut is due of the box that has a key: it is full and has no record of the key
pub record IsCutDue {K : ℕ} (shape : Shape) (L : Layout K) (t : Table) (k : List ℕ) (e : ℕ × BucketBox K) (bytes : List ℕ) (n : ℕ) : Type 0 where
  pub there : IsPageOf shape L t k e bytes n
  pub absent : get t k ≡ None
  pub full : n ≡ shape.capacity

-- a put that leaves the layout: that is its note, this was the key's data, and this is the box's new page
pub record IsPlainPut {K : ℕ} (shape : Shape) (L : Layout K) (t : Table) (r : Record K) (e : ℕ × BucketBox K) (had : Option (List ℕ)) (bytes : List ℕ) : Type 0 where
  pub noted : put_note shape L t r.key.numbers ≡ Some note.Plain
  pub old : had ≡ get t r.key.numbers
  pub page : page_after L t (Put r) note.Plain e (Bucket e.0) ≡ Some bytes

-- a remove that leaves the layout: that is a lawful note, and this is the box's new page
pub record IsPlainRemove {K : ℕ} (shape : Shape) (L : Layout K) (t : Table) (k : Key K) (e : ℕ × BucketBox K) (bytes : List ℕ) : Type 0 where
  pub noted : IsLawfulNote shape L t (Remove k) note.Plain
  pub page : page_after L t (Remove k) note.Plain e (Bucket e.0) ≡ Some bytes

-- what holds of the bucket that a page spells with a record of its region put into it
abbrev pub OfOverfull : {K : ℕ} → ℕ → List ℕ → Record K → (BucketOf K → Type 0) → Type 0
OfOverfull {K} capacity bytes r P = (b : BucketOf K) → SpellsBucket capacity bytes b → IsTrue (contains b.box.region r.key.numbers) → P (with_record b r)

-- a rule, the boundaries and the number of the right part are those by which a layout is cut
pub record CutsByLayout {K : ℕ} (rule : Shape → List (List ℕ) → BucketBox K → List (List ℕ) → Option Cut) (L : Layout K) (boundaries : List (List ℕ)) (right : ℕ) : Type 0 where
  pub median : (shape : Shape) (scales : List (List ℕ)) (b : BucketBox K) (keys : List (List ℕ)) → rule shape scales b keys ≡ cut shape scales b keys
  pub scales : boundaries ≡ L.scales
  pub number : right ≡ unused L

-- the new pages of both parts after a put that cuts the box that has the key
pub record IsCutPut {K : ℕ} (L : Layout K) (t : Table) (r : Record K) (e : ℕ × BucketBox K) (c : Cut) (number : ℕ) (below from : List ℕ) : Type 0 where
  pub left : page_after L t (Put r) (note.Cut c number) e (Bucket e.0) ≡ Some below
  pub right : page_after L t (Put r) (note.Cut c number) e (Bucket number) ≡ Some from

-- what holds of the buckets that two pages spell, the first without a key
abbrev pub OfTwo : (K : ℕ) → ℕ → List ℕ → List ℕ → List ℕ → (BucketOf K → BucketOf K → Type 0) → Type 0
OfTwo K capacity bytes k others P = (b c : BucketOf K) → SpellsBucket capacity bytes b → SpellsBucket capacity others c → P (without_key b k) c

-- two buckets may be joined: their regions are a box, and their records are at most seven tenths of a bucket's
abbrev pub may_join : {K : ℕ} → ℕ → BucketOf K → BucketOf K → Bool
may_join capacity b c = make_a_box b.box.region c.box.region && nat_le (length b.rows + length c.rows) (7 * capacity / 10)

-- a page is that of another box of the layout
pub record IsPageBeside {K : ℕ} (shape : Shape) (L : Layout K) (t : Table) (e f : ℕ × BucketBox K) (bytes : List ℕ) : Type 0 where
  pub there : box L f.0 ≡ Some f.1
  pub differ : e.0 ≢ f.0
  pub spelled : SpellsBucket shape.capacity bytes (bucket_on t f)

-- the new page after a remove that joins the box that has the key with another one: that of the lower number
pub record IsMergeRemove {K : ℕ} (L : Layout K) (t : Table) (k : Key K) (e : ℕ × BucketBox K) (m low : ℕ) (bytes : List ℕ) : Type 0 where
  pub number : low ≡ min e.0 m
  pub page : page_after L t (Remove k) (note.Merge m) e (Bucket low) ≡ Some bytes
