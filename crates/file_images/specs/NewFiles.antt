-- The image of a new file, and what a new file keeps.
use Rattle.std.specs.Prelude.{◌≡◌, ◌≢◌, ◌<◌, ◌-◌, ℕ, List, [], ◌∷◌, ◌++◌, map, replicate, Some, None, IsTrue}
use Rattle.std.specs.List.{flat_map}
use Rattle.grid_types.specs.declared.shape.Shape.{Shape}
use Rattle.grid_types.specs.declared.sizes.TheConstants.{PAGE_BYTES}
use Rattle.grid_types.specs.Pages.{page_of}
use Rattle.grid_types.specs.Shapes.{is_shape, area_pages, table_page, data_page}
use Rattle.grid_types.specs.Shapes as places
use Rattle.page_fields.specs.Padded.{padded}
use Rattle.grid_model.specs.Lists.{below}
use Rattle.grid_model.specs.Layouts.{whole, new_layout}
use Rattle.grid_model.specs.Lawful.{Area, nowhere}
use Rattle.grid_model.specs.Spellings.{shape_bytes, RootFields, root_bytes, directory_spelling, BucketOf, bucket_spelling, gate_spelling}
use Rattle.grid_model.specs.Images.{HasShape, header_gate, root_fields, area_spelling}
use Rattle.grid_model.specs.Roots.{WholeRoot}
use Rattle.file_images.specs.Kept.{ShutHeader, Shut, Kept}
use Rattle.file_images.specs.Shows.{Shows}
use Rattle.file_images.specs.Leads.{Standing, HasStanding, LeadsAlong, Leads}

-- the fields of a new file's root: number, session, front and records 0, no boundaries, one directory part, one bucket
abbrev pub new_fields : ℕ → RootFields
new_fields K = record { number = 0; session = 0; front = 0; records = 0; boundaries = replicate K 0; parts = 1; buckets = 1 }

-- its table area: no boundaries, the directory part on data page 0, and bucket 0 on data page 1
abbrev pub new_area : ℕ → Shape → Area
new_area K s = record { scales = replicate K []; parts = 0 ∷ []; table = 1 ∷ replicate (s.pages - 1) nowhere }

-- the root of a new file
abbrev pub new_root : ℕ → Shape → WholeRoot
new_root K s = record { fields = new_fields K; area = new_area K s }

-- the page of its directory part, which has one cell, and bucket 0 in it
abbrev pub new_directory : List ℕ
new_directory = directory_spelling 0 (0 ∷ [])

-- its bucket: number 0, the whole region, turn 0, and no records
abbrev pub new_bucket : (K : ℕ) → BucketOf K
new_bucket K = record { number = 0; box = record { region = whole K; turn = 0 }; rows = [] }

-- an image is that of a new file: both header pages begin with the shape, and all pages are there; page 0 is open over the new root, and page 1 is closed; table area 0 is the new one; all gates of the journal are 0; data page 0 has the directory, and data page 1 the bucket
pub record IsNewFile (K : ℕ) (s : Shape) (image : List ℕ) : Type 0 where
  pub shape : HasShape K image s
  pub opened : header_gate image 0 ≡ 1
  pub fields : root_fields image 0 ≡ root_bytes (new_fields K)
  pub closed : header_gate image 1 ≢ 1
  pub area : (i : ℕ) → i < area_pages s → page_of (table_page s 0 i) image ≡ area_spelling 0 (new_area K s) i
  pub gates : (h : ℕ) → h < 2 → page_of (places.gate_page s h) image ≡ gate_spelling h (replicate s.slots 0)
  pub directory : page_of (data_page s 0) image ≡ new_directory
  pub bucket : page_of (data_page s 1) image ≡ bucket_spelling (new_bucket K)

-- so many pages of zeros
abbrev pub blank_pages : ℕ → List (List ℕ)
blank_pages n = replicate n (replicate PAGE_BYTES 0)

-- the header page with the root of a new file, and the other one
abbrev pub header_pages : ℕ → Shape → List (List ℕ)
header_pages K s = padded PAGE_BYTES (shape_bytes s ++ (padded 8 (1 ∷ []) ++ root_bytes (new_fields K))) ∷ padded PAGE_BYTES (shape_bytes s) ∷ []

-- both table areas: that of the root, and one of zeros
abbrev pub table_areas : ℕ → Shape → List (List ℕ)
table_areas K s = map (area_spelling 0 (new_area K s)) (below (area_pages s)) ++ blank_pages (area_pages s)

-- a half of the journal: its gate page, and its slots
abbrev pub half_pages : Shape → ℕ → List (List ℕ)
half_pages s h = gate_spelling h (replicate s.slots 0) ∷ blank_pages s.slots

-- the data pages: the directory, the bucket, and the free ones
abbrev pub data_pages : ℕ → Shape → List (List ℕ)
data_pages K s = new_directory ∷ bucket_spelling (new_bucket K) ∷ blank_pages (s.pages - 2)

-- the pages of a new file, in their order
abbrev pub new_pages : ℕ → Shape → List (List ℕ)
new_pages K s = header_pages K s ++ (table_areas K s ++ (half_pages s 0 ++ (half_pages s 1 ++ data_pages K s)))

-- the image of a new file
abbrev pub new_image : ℕ → Shape → List ℕ
new_image K s = flat_map (λ page. page) (new_pages K s)

-- what a new file keeps: its directory page and its bucket page for good, its root beside a closed header page, and no batch
abbrev pub new_kept : (K : ℕ) → Shape → Kept K
new_kept K s = record {
  shape = s;
  always = Some new_directory ∷ Some (bucket_spelling (new_bucket K)) ∷ replicate (s.pages - 2) None;
  fresh = replicate s.pages None;
  root = new_root K s;
  other = ShutHeader;
  first = [];
  second = [];
  half = 0;
  next = Shut;
  reads = 0;
  writes = 0;
}

-- the standing of a new file: at place 0 the empty table, and the layout of a new file
abbrev pub new_standing : (K : ℕ) → Standing K
new_standing K = record { place = 0; table = []; layout = new_layout K }

-- the image of a new file is one; each such image shows what a new file keeps; its root leads to the standing of a new file, along the layout of a new file and the empty table, and so all that it keeps leads there; and so each such image has that standing
pub record NewFilesStand (K : ℕ) : Type 0 where
  pub there_is : (s : Shape) → IsTrue (is_shape s) → s.k ≡ K → IsNewFile K s (new_image K s)
  pub shows : (s : Shape) (image : List ℕ) → IsNewFile K s image → Shows (new_kept K s) image
  pub along : (s : Shape) → IsTrue (is_shape s) → s.k ≡ K → LeadsAlong (new_kept K s) (new_root K s) (new_standing K) (record { layout = new_layout K; table = []; taken = [] })
  pub leads : (s : Shape) → IsTrue (is_shape s) → s.k ≡ K → Leads (new_kept K s) (new_standing K)
  pub stands : (s : Shape) (image : List ℕ) → IsNewFile K s image → HasStanding image (new_standing K)
