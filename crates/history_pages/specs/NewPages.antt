-- The pages that a change makes, in the order in which they are written: those of the buckets that it renews, then those of the directory parts, ascending.
use Rattle.std.specs.Prelude.{◌++◌, ℕ, List, [], map}
use Rattle.std.specs.Option.{unwrap_or}
use Rattle.grid_types.specs.declared.layout_change.LayoutChange.{LayoutChange}
use Rattle.grid_types.specs.declared.owner.Owner.{Owner}
use Rattle.grid_types.specs.declared.owner.Owner.TheVariants.{Bucket, Part}
use Rattle.grid_types.specs.declared.update.Update.{Update}
use Rattle.grid_model.specs.Tables.{Table}
use Rattle.grid_model.specs.Layouts.{BucketBox, Layout}
use Rattle.grid_model.specs.Lone.{Owners, renewed}
use Rattle.history_pages.specs.PageLaws.{page_after}

-- owners in the order in which they are written: buckets before parts
abbrev pub in_order : Owners → List Owner
in_order o = map Bucket o.buckets ++ map Part o.parts

-- an owner with its page after a change
abbrev pub new_page : {K : ℕ} → Layout K → Table → Update K → LayoutChange → ℕ × BucketBox K → Owner → Owner × List ℕ
new_page L t u n e o = (o, unwrap_or (page_after L t u n e o) [])

-- the owners that a change renews, each with its page after it
unfoldable pub new_pages : {K : ℕ} → Layout K → Table → Update K → LayoutChange → ℕ × BucketBox K → List (Owner × List ℕ)
new_pages L t u n e = map (new_page L t u n e) (in_order (renewed L e n))
