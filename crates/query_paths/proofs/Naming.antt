-- The bucket that the directory of a place names at a cell, where the place has the pages of a layout and a table.
use Rattle.std.proofs.Common.{◌≡◌, ◌<◌, ◌≤◌, ◌*◌, ◌^◌, ◌⊎◌, inl, inr, ℕ, true, List, map, drop, length, slice_index, Option, Some, None, IsTrue, IsSome, is_some, refl, sym, ap, ◌∙◌, arith, true≢false, option_map}
use Rattle.std.proofs.lemmas.List.{length-map, get_or-take, get_or-drop, get_or_past}
use Rattle.std.proofs.lemmas.Option.{slice_get-map, get_or_from_slice_get}
use Rattle.std.proofs.lemmas.Bool.{cases_lt}
use Rattle.std.specs.Option.{option_map_or}
use Rattle.grid_types.specs.declared.owner.Owner.{Owner}
use Rattle.grid_types.specs.declared.owner.Owner.TheVariants.{Bucket, Part}
use Rattle.grid_types.specs.declared.shape.Shape.{Shape}
use Rattle.grid_types.specs.declared.sizes.TheConstants.{WORDS_ON_PAGE, MOST_ATTRIBUTES, MOST_RECORDS}
use Rattle.grid_types.specs.Keys.{IsKey}
use Rattle.grid_types.specs.Regions.{contains}
use Rattle.grid_types.proofs.Places.{within-limits}
use Rattle.grid_model.specs.Lists.{is_among}
use Rattle.grid_model.specs.Scales.{is_scale, scale_of, intervals}
use Rattle.grid_model.specs.Cells.{dims, all_cells, cell_of, cell_index, corner, part_of}
use Rattle.grid_model.specs.ScaleLaws.{IsCell}
use Rattle.grid_model.specs.Tables.{Table}
use Rattle.grid_model.specs.Layouts.{BucketBox, Layout, box, holder, number_at, directory, directory_part}
use Rattle.grid_model.specs.LayoutLaws.{StandsOver}
use Rattle.grid_model.specs.Lone.{owners}
use Rattle.grid_model.specs.Spellings.{BucketOf}
use Rattle.grid_model.specs.Buckets.{SpellsBucket}
use Rattle.grid_model.specs.Images.{bucket_on}
use Rattle.grid_model.specs.Expected.{Sought, IsSought, IsExpectedPart}
use Rattle.grid_model.proofs.CellLaws.{have-indices}
use Rattle.grid_model.proofs.Holders.{same-found, holder-box}
use Rattle.grid_model.proofs.Indices.{cell_index-below}
use Rattle.grid_model.proofs.LowestKeys.{corner-lies, corner-long, corner-number}
use Rattle.grid_model.proofs.OneCell.{box-alike}
use Rattle.history_pages.specs.OwnerPages.{owner_page}
use Rattle.history_pages.specs.SpellingLaws.{cells_in_part}
use Rattle.history_pages.proofs.Numbers.{found-where}
use Rattle.history_pages.proofs.Spelled.{part-expected, bucket-spelled}
use Rattle.bucket_page.proofs.Standing.{one_bucket_spelled}
use Rattle.query_paths.specs.Pinned.{Place, IsPinnedTo}
use Rattle.query_paths.specs.Paths.{index_in_part, IsExpectedAt, NamesBucket, IsUnexpected, AsPart, AsBucket}
use Rattle.query_paths.proofs.Judged.{index-inside, spells-part, one-part}

-- a box has the keys of a cell
pub record HasCell {K : ℕ} (L : Layout K) (cell : List ℕ) (n : ℕ) (b : BucketBox K) : Type 0 where
  pub there : box L n ≡ Some b
  pub has : (k : List ℕ) → IsKey K k → cell_of L.scales k ≡ cell → holder L k ≡ Some (n, b)
  pub inside : (k : List ℕ) → IsKey K k → cell_of L.scales k ≡ cell → contains b.region k ≡ true

module _ {K : ℕ} (shape : Shape) (L : Layout K) (t : Table) (stands : StandsOver shape L t) (cell : List ℕ) (c : IsCell (dims L.scales) cell) where
  ascend : (a : ℕ) → a < length L.scales → is_scale (scale_of L.scales a) ≡ true
  ascend a l = stands.sound.scales a (omega (arith, l, stands.sound.attributes))

  long : length (corner L.scales cell) ≡ length L.scales
  long = corner-long L.scales cell (c.count ∙ length-map L.scales intervals)

  pub lowest-key : IsKey K (corner L.scales cell)
  lowest-key = record { count = long ∙ stands.sound.attributes; in_range = λ a. let most = corner-number L.scales cell ascend a in omega (arith, most) }

  pub lowest-lies : cell_of L.scales (corner L.scales cell) ≡ cell
  lowest-lies = corner-lies L.scales cell ascend c

  -- each key of a cell is in the box that has its lowest key
  pub one-holder : (k : List ℕ) → IsKey K k → cell_of L.scales k ≡ cell → holder L k ≡ holder L (corner L.scales cell)
  unfolding holder
  one-holder k key lies = same-found (λ e. contains e.1.region k) (λ e. contains e.1.region (corner L.scales cell)) L.boxes stands.sound.numbered (λ n b there. box-alike L.scales b stands.sound.attributes ascend (stands.sound.drawn n b there) k (corner L.scales cell) (record {
    first_long = key.count ∙ sym stands.sound.attributes;
    second_long = long;
    first_number = λ a. let r = key.in_range a in omega (arith, r);
    second_number = corner-number L.scales cell ascend;
    same = lies ∙ sym lowest-lies;
  }))

  -- the number that the directory has at a cell's index is that of the box that has its lowest key
  pub directory-at : slice_index (directory L) (cell_index (dims L.scales) cell) ≡ number_at L (corner L.scales cell)
  unfolding directory
  directory-at = get_or_from_slice_get (map (λ c. number_at L (corner L.scales c)) (all_cells L.scales)) (cell_index (dims L.scales) cell) (number_at L (corner L.scales cell)) 0
      (slice_get-map (λ c. number_at L (corner L.scales c)) (all_cells L.scales) (cell_index (dims L.scales) cell)
      ∙ ap (option_map (λ c. number_at L (corner L.scales c))) ((have-indices K).cell_there L.scales cell c))

  -- and so is that in its part
  pub part-at : slice_index (directory_part L (part_of L.scales cell)) (index_in_part L.scales cell) ≡ number_at L (corner L.scales cell)
  unfolding directory_part
  part-at =
      get_or-take WORDS_ON_PAGE (drop (WORDS_ON_PAGE * part_of L.scales cell) (directory L)) (index_in_part L.scales cell) 0 (omega arith)
      ∙ get_or-drop (WORDS_ON_PAGE * part_of L.scales cell) (directory L) (index_in_part L.scales cell) 0
      ∙ ap (slice_index (directory L)) (omega arith)
      ∙ directory-at

  -- some box has the cell's keys, and its number is the one that the directory has there
  pub cell-box : (n : ℕ) → n ≡ number_at L (corner L.scales cell) → (b : BucketBox K) × HasCell L cell n b
  cell-box n is = by (holder L (corner L.scales cell)) refl (stands.sound.covers (corner L.scales cell) lowest-key)
    where
      by : (o : Option (ℕ × BucketBox K)) → holder L (corner L.scales cell) ≡ o → IsSome o → (b : BucketBox K) × HasCell L cell n b
      by None e some = absurd (true≢false (sym some))
      by (Some x) e some =
          let same : n ≡ x.0 = is ∙ ap (λ o. option_map_or (λ y. y.0) o 0) e in
          let found : (k : List ℕ) → IsKey K k → cell_of L.scales k ≡ cell → holder L k ≡ Some (n, x.1) = λ k key lies. one-holder k key lies ∙ e ∙ ap (λ m. Some (m, x.1)) (sym same) in (
            x.1,
            record {
              there = (holder-box (corner L.scales cell) L (n, x.1) stands.sound.numbered (found (corner L.scales cell) lowest-key lowest-lies)).0;
              has = found;
              inside = λ k key lies. (holder-box k L (n, x.1) stands.sound.numbered (found k key lies)).1;
            },
          )

-- the place that has the pages of a layout and a table
abbrev pub place_over : {K : ℕ} → Shape → Layout K → Table → (Owner → ℕ) → Place
place_over shape L t file_page = record { shape = shape; scales = L.scales; numbers = (owners L).buckets; pages = Some (owner_page L t); file_page = file_page }

-- a place that is pinned to them is that place
pub pinned-place : {K : ℕ} (p : Place) (L : Layout K) (t : Table) → IsPinnedTo p L t → p ≡ place_over p.shape L t p.file_page
pinned-place p L t pin = λ i. record { shape = p.shape; scales = pin.scales_are i; numbers = pin.numbers_are i; pages = pin.pages_are i; file_page = p.file_page }

module _ {K : ℕ} (shape : Shape) (L : Layout K) (t : Table) (file_page : Owner → ℕ) (stands : StandsOver shape L t) where
  -- a number that has a box is one of 32 bits
  number-low : (n : ℕ) → IsTrue (is_among (owners L).buckets n) → n < 2 ^ 32
  number-low n among = by (box L n) refl (found-where L.boxes n ∙ among)
    where
      by : (o : Option (BucketBox K)) → box L n ≡ o → is_some o ≡ true → n < 2 ^ 32
      by None e some = absurd (true≢false (sym some))
      by (Some b) e some = let low = stands.sound.below_pages n b e in let few = (within-limits shape stands.lawful).few_pages in omega (arith, low, few)

  -- there are few attributes, and few records in a bucket
  pub few-attributes : K ≤ MOST_ATTRIBUTES
  few-attributes = let few = (within-limits shape stands.lawful).few_attributes in omega (arith, few, stands.attributes)

  pub few-records : shape.capacity ≤ MOST_RECORDS
  few-records = (within-limits shape stands.lawful).small_capacity

  -- the page of a bucket spells the bucket of its box alone
  pub bucket-is : (n : ℕ) (b : BucketBox K) (bytes : List ℕ) (x : BucketOf K) → box L n ≡ Some b → owner_page L t (Bucket n) ≡ Some bytes → SpellsBucket shape.capacity bytes x → x ≡ bucket_on t (n, b)
  bucket-is n b bytes x there page s = one_bucket_spelled shape.capacity bytes x (bucket_on t (n, b)) few-attributes few-records s (bucket-spelled shape L t n b bytes stands there page)

  module _ (cell : List ℕ) (c : IsCell (dims L.scales) cell) where
    -- the cell's part, and the names of its cells
    abbrev part : ℕ
    part = part_of L.scales cell

    abbrev names : List ℕ
    names = directory_part L (part_of L.scales cell)

    part-low : part_of L.scales cell < 2 ^ 32
    part-low =
        let most = (within-limits shape stands.lawful).few_cells in
        let below = cell_index-below (dims L.scales) cell c in
        omega (arith, most, below, stands.sound.few_cells)

    module _ (bytes : List ℕ) (page : owner_page L t (Part (part_of L.scales cell)) ≡ Some bytes) where
      part-spelled : (read : ℕ) → read < cells_in_part L.scales (part_of L.scales cell) → IsExpectedPart bytes (part_of L.scales cell) (cells_in_part L.scales (part_of L.scales cell)) (owners L).buckets read (directory_part L (part_of L.scales cell))
      part-spelled read inside = part-expected shape L t (part_of L.scales cell) stands read bytes page inside

      names-low : (i : ℕ) → slice_index (directory_part L (part_of L.scales cell)) i < 2 ^ 32
      names-low i = by (cases_lt i (cells_in_part L.scales (part_of L.scales cell)))
        where
          count : length names ≡ cells_in_part L.scales (part_of L.scales cell)
          count = (part-spelled (index_in_part L.scales cell) (index-inside L.scales cell c)).count_is

          by : (i < cells_in_part L.scales (part_of L.scales cell)) ⊎ (cells_in_part L.scales (part_of L.scales cell) ≤ i) → slice_index names i < 2 ^ 32
          by (inl l) = number-low (slice_index names i) (part-spelled i l).named
          by (inr m) = let past = get_or_past names i 0 (omega (arith, m, count)) in omega (arith, past)

      -- the page of the cell's part is the expected one
      pub expected-at : IsExpectedAt (place_over shape L t file_page) cell bytes (directory_part L (part_of L.scales cell))
      expected-at = record { part = part-spelled (index_in_part L.scales cell) (index-inside L.scales cell c); in_range = names-low }

      -- and no other cells are spelled there
      pub names-are : (more : List ℕ) → IsExpectedAt (place_over shape L t file_page) cell bytes more → more ≡ directory_part L (part_of L.scales cell)
      names-are more e =
          let whole = spells-part (part_of L.scales cell) (cells_in_part L.scales (part_of L.scales cell)) (index_in_part L.scales cell) (owners L).buckets bytes in
          one-part (part_of L.scales cell) bytes more names
          (whole more part-low (omega arith) e.part e.in_range)
          (whole names part-low (omega arith) (part-spelled (index_in_part L.scales cell) (index-inside L.scales cell c)) names-low)

    -- the number that the directory names at a cell is that of the box that has its keys
    pub named-is : (n : ℕ) → NamesBucket (place_over shape L t file_page) cell n → n ≡ number_at L (corner L.scales cell)
    named-is n h = h.named ∙ ap (λ (ns : List ℕ). slice_index ns (index_in_part L.scales cell)) (names-are h.bytes (h.page.given (owner_page L t) refl) h.names h.expected) ∙ part-at shape L t stands cell c

    pub named-box : (n : ℕ) → NamesBucket (place_over shape L t file_page) cell n → (b : BucketBox K) × HasCell L cell n b
    named-box n h = cell-box shape L t stands cell c n (named-is n h)

    -- each page of the place is the expected one
    pub as-expected : (sought : Sought) (part_bytes bucket_bytes : List ℕ) (at : ℕ) → ((k : List ℕ) → IsSought K sought k → IsKey K k × (cell_of L.scales k ≡ cell)) → IsUnexpected K (place_over shape L t file_page) cell sought part_bytes bucket_bytes at → ⊥
    as-expected sought part_bytes bucket_bytes at of_cell (AsPart page not) = not (directory_part L (part_of L.scales cell)) (expected-at part_bytes (page.given (owner_page L t) refl))
    as-expected sought part_bytes bucket_bytes at of_cell (AsBucket n named page not) =
        let found = named-box n named in
        not (bucket_on t (n, found.0)) (record {
          spelled = bucket-spelled shape L t n found.0 bucket_bytes stands found.1.there (page.given (owner_page L t) refl);
          number_is = refl;
          inside = λ k s. found.1.inside k (of_cell k s).0 (of_cell k s).1;
        })
