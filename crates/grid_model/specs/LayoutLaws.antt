-- What the definitions of layouts and notes promise.
use Rattle.std.specs.Prelude.{◌≡◌, ◌≢◌, ◌<◌, ◌≤◌, ◌+◌, ℕ, List, [], min, max, ◌||◌, ◌&&◌, nat_lt, nat_le, length, slice_index, Some, None, IsTrue}
use Rattle.grid_types.specs.declared.shape.Shape.{Shape}
use Rattle.grid_types.specs.declared.update.Update.{Update}
use Rattle.grid_types.specs.declared.layout_change.Cut.{Cut}
use Rattle.grid_types.specs.declared.layout_change.LayoutChange.{LayoutChange}
use Rattle.grid_types.specs.declared.layout_change.LayoutChange.TheVariants as note
use Rattle.grid_types.specs.declared.region.Region.{Region}
use Rattle.grid_types.specs.Regions.{contains, IsRegion, is_within, make_a_box, hull}
use Rattle.grid_types.specs.Shapes.{is_shape}
use Rattle.grid_model.specs.Cells.{parts}
use Rattle.grid_model.specs.Tables.{Table, IsTable, HasKeys, HasValues, effect}
use Rattle.grid_model.specs.Layouts.{BucketBox, Layout, box, holder, unused, new_layout, IsSound}
use Rattle.grid_model.specs.Lawful.{IsUpdateOf}
use Rattle.grid_model.specs.Notes.{updated_key, left_of, right_of, after_note, IsLawfulNote, together}

-- a layout and a table of a file of that shape: the table is one of its attributes, and the layout is sound for the table
pub record StandsOver {K : ℕ} (shape : Shape) (L : Layout K) (t : Table) : Type 0 where
  pub lawful : IsTrue (is_shape shape)
  pub attributes : shape.k ≡ K
  pub table : IsTable t
  pub keys : HasKeys K t
  pub values : HasValues t
  pub sound : IsSound shape L t

-- the boxes and parts of a layout are at most the data pages
abbrev pub Fits : {K : ℕ} → Shape → Layout K → Type 0
Fits shape L = length L.boxes + parts L.scales ≤ shape.pages

-- a new file's layout is sound for the empty table, and a lawful note keeps a layout sound for the table after the update, where the boxes and parts that it leaves fit
pub record KeepsSound (K : ℕ) : Type 0 where
  pub new : (shape : Shape) → IsTrue (is_shape shape) → shape.k ≡ K → StandsOver shape (new_layout K) []
  pub after : (shape : Shape) (L : Layout K) (t : Table) (u : Update K) (n : LayoutChange) → StandsOver shape L t → IsUpdateOf K u → IsLawfulNote shape L t u n
      → Fits shape (after_note L (updated_key u) n) → StandsOver shape (after_note L (updated_key u) n) (effect t u)

-- a cut parts a region: the left part has its keys below the boundary, the right part the others
pub record PartsRegion (K : ℕ) : Type 0 where
  pub left : (b : BucketBox K) (c : Cut) (k : List ℕ) → IsRegion K b.region → c.attribute < K → IsTrue (is_within b.region c.attribute c.value)
      → contains (left_of b c).region k ≡ (contains b.region k && nat_lt (slice_index k c.attribute) c.value)
  pub right : (b : BucketBox K) (c : Cut) (k : List ℕ) → IsRegion K b.region → c.attribute < K → IsTrue (is_within b.region c.attribute c.value)
      → contains (right_of b c).region k ≡ (contains b.region k && nat_le c.value (slice_index k c.attribute))

-- a merge joins a region with another one that makes a box with it: the hull has the keys of both and no other
pub record JoinsRegions (K : ℕ) : Type 0 where
  pub hull : (r s : Region K) (k : List ℕ) → IsRegion K r → IsRegion K s → IsTrue (make_a_box r s) → contains (hull r s) k ≡ (contains r k || contains s k)

-- a merge of box n, which has the key, with box m: the lower number has both, with the turn of box n, the higher number is gone, and all others stay
pub record IsMerge {K : ℕ} (L : Layout K) (n : ℕ) (b : BucketBox K) (m : ℕ) (c : BucketBox K) (after_note : Layout K) : Type 0 where
  pub survivor : box after_note (min n m) ≡ Some (together b c)
  pub turn : (d : BucketBox K) → box after_note (min n m) ≡ Some d → d.turn ≡ b.turn
  pub gone : box after_note (max n m) ≡ None
  pub others : (i : ℕ) → i ≢ n → i ≢ m → box after_note i ≡ box L i
  pub scales : after_note.scales ≡ L.scales

-- a lawful merge is one of the box that has the key with another one
pub record MergesTwo (K : ℕ) : Type 0 where
  pub merge : (shape : Shape) (L : Layout K) (t : Table) (u : Update K) (m n : ℕ) (b : BucketBox K) → StandsOver shape L t → IsLawfulNote shape L t u (note.Merge m) → holder L (updated_key u) ≡ Some (n, b)
      → (c : BucketBox K) × (box L m ≡ Some c) × (n ≢ m) × IsMerge L n b m c (after_note L (updated_key u) (note.Merge m))

-- the number of a new bucket is the least that no box has
pub record IsLeastUnused (K : ℕ) : Type 0 where
  pub none : (L : Layout K) → box L (unused L) ≡ None
  pub least : (L : Layout K) (n : ℕ) → n < unused L → box L n ≢ None
  pub few : (L : Layout K) → unused L ≤ length L.boxes
