-- The page of an owner: a bucket's says its box and its records, a directory part's the bucket numbers of its cells.
use Rattle.std.specs.Prelude.{ℕ, List, Bool, length, nat_lt, if◌then◌else◌, Option, Some, None}
use Rattle.std.specs.Option.{option_map}
use Rattle.grid_types.specs.declared.owner.Owner.{Owner}
use Rattle.grid_types.specs.declared.owner.Owner.TheVariants.{Bucket, Part}
use Rattle.grid_types.specs.declared.shape.Shape.{Shape}
use Rattle.grid_model.specs.Lists.{is_among}
use Rattle.grid_model.specs.Cells.{parts}
use Rattle.grid_model.specs.Tables.{Table}
use Rattle.grid_model.specs.Layouts.{BucketBox, Layout, box, directory_part}
use Rattle.grid_model.specs.Lone.{Owners}
use Rattle.grid_model.specs.Spellings.{BucketOf, bucket_spelling, directory_spelling}
use Rattle.grid_model.specs.Images.{bucket_on, numbers_of, entry_page}

-- whether an owner is one of these
abbrev pub has_owner : Owners → Owner → Bool
has_owner these (Bucket n) = is_among these.buckets n
has_owner these (Part p) = is_among these.parts p

-- a box as the bucket of that number: with the records of the table that are inside of it
abbrev pub as_bucket : {K : ℕ} → Table → ℕ → BucketBox K → BucketOf K
as_bucket t n b = bucket_on t (n, b)

-- the bucket that has a number, where a box has it
unfoldable pub numbered_bucket : {K : ℕ} → Layout K → Table → ℕ → Option (BucketOf K)
numbered_bucket L t n = option_map (as_bucket t n) (box L n)

-- the page of an owner over a layout and a table; what is no owner of the layout has none
unfoldable pub owner_page : {K : ℕ} → Layout K → Table → Owner → Option (List ℕ)
owner_page L t (Bucket n) = option_map bucket_spelling (numbered_bucket L t n)
owner_page L t (Part p) = if nat_lt p (parts L.scales) then Some (directory_spelling p (directory_part L p)) else None

-- an image, with the list of the data pages of its directory parts, and the table of those of its bucket numbers
pub record ImagePages : Type 0 where
  pub image : List ℕ
  pub parts_at : List ℕ
  pub table : List ℕ

-- the page that an image has for an owner; what neither its list nor its table has a data page for has none
unfoldable pub page_in : Shape → ImagePages → Owner → Option (List ℕ)
page_in s pages (Bucket n) = if is_among (numbers_of pages.table) n then Some (entry_page s pages.image pages.table n) else None
page_in s pages (Part p) = if nat_lt p (length pages.parts_at) then Some (entry_page s pages.image pages.parts_at p) else None
