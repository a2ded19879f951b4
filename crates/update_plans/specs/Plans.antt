-- What a plan says of an update over a layout and a table, and what holds of it whatever the pages say.
use Rattle.std.specs.Prelude.{◌≡◌, ◌+◌, ℕ, List, [], ◌∷◌, length, map, min, Option, Some, None}
use Rattle.grid_types.specs.declared.layout_change.LayoutChange.{LayoutChange}
use Rattle.grid_types.specs.declared.layout_change.LayoutChange.TheVariants as note
use Rattle.grid_types.specs.declared.owner.Owner.{Owner}
use Rattle.grid_types.specs.declared.owner.Owner.TheVariants.{Bucket}
use Rattle.grid_types.specs.declared.shape.Shape.{Shape}
use Rattle.grid_types.specs.declared.update.Update.{Update}
use Rattle.grid_types.specs.declared.update.Update.TheVariants.{Put, Remove}
use Rattle.grid_model.specs.Cells.{dims}
use Rattle.grid_model.specs.Layouts.{BucketBox, Layout}
use Rattle.grid_model.specs.Lone.{renewed, how_many, need, spare}
use Rattle.grid_model.specs.Notes.{updated_key}
use Rattle.grid_model.specs.Tables.{Table, get}
use Rattle.history_pages.specs.NewPages.{new_page}
use Rattle.history_pages.specs.PageLaws.{IsChange}
use Rattle.directory_changes.specs.Changes.{directory_change, parts_changed, IsChangeOf}
use Rattle.layout_pages.specs.Steps.{owners_renewed}
use Rattle.file_books.specs.Books.{AreScalesOf}
use Rattle.file_books.specs.Effects.{AreOfOneKind, NotesFresh, scales_after_change}
use Rattle.file_books.specs.declared.record_change.RecordChange.{RecordChange}
use Rattle.file_books.specs.declared.record_change.RecordChange.TheVariants.{More, Same, Fewer}
use Rattle.update_plans.specs.declared.plan.Plan.{Plan}

-- the new pages of the buckets of a change, where they stand in two buffers: a cut's two parts, or else one page in the first
abbrev pub in_buffers : ℕ → LayoutChange → List ℕ → List ℕ → List (Owner × List ℕ)
in_buffers b note.Plain first second = (Bucket b, first) ∷ []
in_buffers b (note.Cut c right) first second = (Bucket b, first) ∷ (Bucket right, second) ∷ []
in_buffers b (note.Merge m) first second = (Bucket (min b m), first) ∷ []

-- what an update does to the number of records, by the data that its key had
abbrev pub counted : {K : ℕ} → Update K → Option (List ℕ) → RecordChange
counted (Put r) None = More
counted (Put r) (Some d) = Same
counted (Remove k) None = Same
counted (Remove k) (Some d) = Fewer

-- a plan is that of an update over a layout and a table: its note makes it a change of the box that has the key, what it says of the directory, of pages and of old data is so, and the buffers have the new pages of the buckets, in their order
pub record IsPlanOf {K : ℕ} (shape : Shape) (L : Layout K) (t : Table) (u : Update K) (e : ℕ × BucketBox K) (first second : List ℕ) (p : Plan K) : Type 0 where
  pub change : IsChange shape L t u p.note e
  pub bucket : p.bucket ≡ e.0
  pub directory : p.directory ≡ directory_change L e p.note
  pub need : p.need ≡ need L e u p.note
  pub pages : p.pages ≡ how_many (renewed L e p.note)
  pub old : p.old ≡ get t (updated_key u)
  pub buffers : in_buffers p.bucket p.note first second ≡ map (new_page L t u p.note e) (map Bucket (renewed L e p.note).buckets)

-- a plan is sound, whatever the pages say: its note and the directory's change are of one kind, no boundary is called fresh that there is, the scales after it are scales of the file, it counts the pages of all owners that it renews and what an update of its kind has to spare, and it counts records by the data that the key had
pub record IsSoundPlan {K : ℕ} (shape : Shape) (before : List (List ℕ)) (u : Update K) (p : Plan K) : Type 0 where
  pub kind : AreOfOneKind p.note p.directory
  pub directory : IsChangeOf (dims before) p.directory
  pub fresh : NotesFresh before p.note
  pub scales : AreScalesOf K shape (scales_after_change before p.note)
  pub pages : p.pages ≡ length (owners_renewed p.bucket p.note (parts_changed (dims before) p.directory))
  pub need : p.need ≡ p.pages + spare u
  pub records : p.records ≡ counted u p.old
