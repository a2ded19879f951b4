-- What the definitions of directory changes promise.
use Rattle.std.specs.Prelude.{◌≡◌, ℕ}
use Rattle.grid_types.specs.declared.layout_change.LayoutChange.{LayoutChange}
use Rattle.grid_types.specs.declared.shape.Shape.{Shape}
use Rattle.grid_types.specs.declared.update.Update.{Update}
use Rattle.grid_model.specs.Cells.{dims}
use Rattle.grid_model.specs.Tables.{Table}
use Rattle.grid_model.specs.Layouts.{BucketBox, Layout}
use Rattle.grid_model.specs.Lone.{renewed}
use Rattle.history_pages.specs.PageLaws.{IsChange}
use Rattle.directory_changes.specs.Changes.{directory_change, parts_changed}

-- the parts that the directory's change renews are those that the layout's change renews
abbrev pub RenewsParts : ℕ → Type 0
RenewsParts K = (shape : Shape) (L : Layout K) (t : Table) (u : Update K) (n : LayoutChange) (e : ℕ × BucketBox K) → IsChange shape L t u n e → parts_changed (dims L.scales) (directory_change L e n) ≡ (renewed L e n).parts
