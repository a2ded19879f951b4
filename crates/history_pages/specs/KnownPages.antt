-- What is known of data pages: by page, the bytes that it always holds, or nothing.
use Rattle.std.specs.Prelude.{◌≡◌, ℕ, List, map, length, slice_get, slice_index, slice_index_or, slice_set, Option, Some, None}
use Rattle.grid_types.specs.declared.owner.Owner.{Owner}
use Rattle.grid_types.specs.declared.owner.Owner.TheVariants.{Bucket, Part}
use Rattle.grid_model.specs.Tables.{Table}
use Rattle.grid_model.specs.Cells.{parts}
use Rattle.grid_model.specs.Layouts.{Layout}
use Rattle.grid_model.specs.Lawful.{Area}
use Rattle.grid_model.specs.Images.{numbers_of}
use Rattle.history_pages.specs.OwnerPages.{owner_page}

-- a data page always holds what it reads as
abbrev pub settle_page : (fresh always : List (Option (List ℕ))) → ℕ → List (Option (List ℕ))
settle_page fresh always p = slice_set always p (slice_index_or fresh p None)

-- nothing is said of a page
abbrev pub ask_nothing : List (Option (List ℕ)) → ℕ → List (Option (List ℕ))
ask_nothing pages p = slice_set pages p None

-- the data page that a table area names for an owner
abbrev pub page_named : Area → Owner → ℕ
page_named a (Bucket n) = slice_index a.table n
page_named a (Part p) = slice_index a.parts p

-- the pages that a table area names always hold the pages of the owners of a layout over a table, and it names pages for all of these owners and no other
pub record AreaHolds {K : ℕ} (always : List (Option (List ℕ))) (a : Area) (L : Layout K) (t : Table) : Type 0 where
  pub scales : L.scales ≡ a.scales
  pub directory : length a.parts ≡ parts L.scales
  pub numbers : map (λ e. e.0) L.boxes ≡ numbers_of a.table
  pub pages : (o : Owner) (bytes : List ℕ) → owner_page L t o ≡ Some bytes → slice_get always (page_named a o) ≡ Some (Some bytes)
