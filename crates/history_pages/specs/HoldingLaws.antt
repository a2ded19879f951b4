-- A change that was planned at one place is as good at a later one, where what it stands on is held.
use Rattle.std.specs.Prelude.{◌≡◌, ◌⊎◌, ℕ, List, false, Option, IsSome, IsTrue}
use Rattle.grid_types.specs.declared.layout_change.LayoutChange.{LayoutChange}
use Rattle.grid_types.specs.declared.layout_change.LayoutChange.TheVariants as note
use Rattle.grid_types.specs.declared.owner.Owner.{Owner}
use Rattle.grid_types.specs.declared.shape.Shape.{Shape}
use Rattle.grid_types.specs.declared.update.Update.{Update}
use Rattle.grid_model.specs.Lists.{is_among}
use Rattle.grid_model.specs.Tables.{Table, effect}
use Rattle.grid_model.specs.Layouts.{BucketBox, Layout, box}
use Rattle.grid_model.specs.Notes.{after_note_at}
use Rattle.grid_model.specs.Lawful.{IsUpdateOf}
use Rattle.grid_model.specs.LayoutLaws.{StandsOver, Fits}
use Rattle.grid_model.specs.Lone.{renewed, dropped}
use Rattle.history_pages.specs.OwnerPages.{has_owner, numbered_bucket}
use Rattle.history_pages.specs.PageLaws.{IsChange, page_after, Follow}

-- a change of L and t is held up to a later layout and table: these stand, each bucket that it drops is as it was, and so is the layout unless its note is plain
pub record IsHeld {K : ℕ} (shape : Shape) (L : Layout K) (t : Table) (n : LayoutChange) (e : ℕ × BucketBox K) (M : Layout K) (s : Table) : Type 0 where
  pub stands : StandsOver shape M s
  pub buckets : (m : ℕ) → IsTrue (is_among (dropped L e n).buckets m) → numbered_bucket M s m ≡ numbered_bucket L t m
  pub layout : (n ≡ note.Plain) ⊎ (M ≡ L)

-- another change, of M and s, passes by one of L: it drops none of the buckets that this one drops, one of the two notes is plain, and the layout after it fits
pub record PassesBy {K : ℕ} (shape : Shape) (L : Layout K) (n : LayoutChange) (e : ℕ × BucketBox K) (M : Layout K) (s : Table) (v : Update K) (other : LayoutChange) (f : ℕ × BucketBox K) : Type 0 where
  pub is_change : IsChange shape M s v other f
  pub update : IsUpdateOf K v
  pub fits : Fits shape (after_note_at M f other)
  pub apart : (m : ℕ) → IsTrue (is_among (dropped L e n).buckets m) → is_among (dropped M f other).buckets m ≡ false
  pub one_plain : (n ≡ note.Plain) ⊎ (other ≡ note.Plain)

-- a change is held where it is planned, and stays held past each other change that passes by it; where one of two changes is plain, they drop no bucket in common if they drop no box in common
pub record StaysHeld (K : ℕ) : Type 0 where
  pub here : (shape : Shape) (L : Layout K) (t : Table) (n : LayoutChange) (e : ℕ × BucketBox K) → StandsOver shape L t → IsHeld shape L t n e L t
  pub stays : (shape : Shape) (L M : Layout K) (t s : Table) (n : LayoutChange) (e : ℕ × BucketBox K) (v : Update K) (other : LayoutChange) (f : ℕ × BucketBox K) → IsHeld shape L t n e M s → PassesBy shape L n e M s v other f
      → IsHeld shape L t n e (after_note_at M f other) (effect s v)
  pub apart : (shape : Shape) (L M : Layout K) (t s : Table) (u : Update K) (n : LayoutChange) (e : ℕ × BucketBox K) (v : Update K) (other : LayoutChange) (f : ℕ × BucketBox K) → IsChange shape L t u n e → IsHeld shape L t n e M s → IsChange shape M s v other f
      → (n ≡ note.Plain) ⊎ (other ≡ note.Plain) → ((m : ℕ) → IsSome (box M m) → IsTrue (is_among (dropped L e n).buckets m) → is_among (dropped M f other).buckets m ≡ false)
      → (m : ℕ) → IsTrue (is_among (dropped L e n).buckets m) → is_among (dropped M f other).buckets m ≡ false

-- where a change is held it is a change too, of the same box; it drops and renews the same owners, and each that it renews has the same new page; so pages that follow others by it as it was planned follow them by it as it is held
pub record CarriesOn (K : ℕ) : Type 0 where
  pub change : (shape : Shape) (L M : Layout K) (t s : Table) (u : Update K) (n : LayoutChange) (e : ℕ × BucketBox K) → IsChange shape L t u n e → IsHeld shape L t n e M s → IsChange shape M s u n e
  pub drops : (shape : Shape) (L M : Layout K) (t s : Table) (n : LayoutChange) (e : ℕ × BucketBox K) → IsHeld shape L t n e M s → dropped M e n ≡ dropped L e n
  pub renews : (shape : Shape) (L M : Layout K) (t s : Table) (n : LayoutChange) (e : ℕ × BucketBox K) → IsHeld shape L t n e M s → renewed M e n ≡ renewed L e n
  pub pages : (shape : Shape) (L M : Layout K) (t s : Table) (u : Update K) (n : LayoutChange) (e : ℕ × BucketBox K) (o : Owner) → IsChange shape L t u n e → IsHeld shape L t n e M s
      → IsTrue (has_owner (renewed L e n) o) → page_after M s u n e o ≡ page_after L t u n e o
  pub follow : (shape : Shape) (L M : Layout K) (t s : Table) (u : Update K) (n : LayoutChange) (e : ℕ × BucketBox K) (before later : Owner → Option (List ℕ)) → IsChange shape L t u n e → IsHeld shape L t n e M s
      → Follow L t u n e before later → Follow M s u n e before later
