-- The pages of an image that stands for a table keep all rules.
use Rattle.std.proofs.Common.{◌≡◌, ◌≢◌, ◌<◌, ◌≤◌, ◌+◌, ◌*◌, ◌/◌, ◌↔◌, ◌∙◌, ℕ, List, [], Option, Some, None, true, true≢false, length, map, sum, slice_index, get_or, refl, sym, ap, subst, arith}
use Rattle.std.specs.Prelude.{IsSome}
use Rattle.std.proofs.lemmas.Option.{slice_get-get_or}
use Rattle.std.proofs.lemmas.List.Elements.{All-contains}
use Rattle.grid_types.specs.declared.shape.Shape.{Shape}
use Rattle.grid_types.specs.declared.owner.Owner.TheVariants.{Part}
use Rattle.grid_types.specs.declared.sizes.TheConstants.{WORDS_ON_PAGE, MOST_ATTRIBUTES, MOST_RECORDS}
use Rattle.grid_types.specs.declared.update.Update.TheVariants.{Remove}
use Rattle.grid_types.specs.Regions.{contains}
use Rattle.grid_types.proofs.Places.{within-limits}
use Rattle.grid_model.specs.Lawful.{nowhere}
use Rattle.grid_model.specs.Lists.{is_among}
use Rattle.grid_model.specs.Tables.{Table}
use Rattle.grid_model.specs.Scales.{scale_of, is_scale}
use Rattle.grid_model.specs.Cells.{dims, cells, parts, all_cells, cell_index, corner, InCellBox}
use Rattle.grid_model.specs.ScaleLaws.{IsCell}
use Rattle.grid_model.specs.Layouts.{BucketBox, Layout, box, number_at, directory, IsDrawn}
use Rattle.grid_model.specs.LayoutLaws.{StandsOver}
use Rattle.grid_model.specs.Roots.{WholeRoot}
use Rattle.grid_model.specs.Spellings.{BucketOf}
use Rattle.grid_model.specs.Buckets.{SpellsBucket}
use Rattle.grid_model.specs.Images.{entry_page, numbers_of, bucket_on, Found, MakesTable, RootSpells}
use Rattle.grid_model.proofs.Boxes.{one-box}
use Rattle.grid_model.proofs.CellLaws.{have-indices}
use Rattle.grid_model.proofs.Counts.{among-found}
use Rattle.grid_model.proofs.Indices.{cell_index-below}
use Rattle.grid_model.proofs.Members.{contains-among, among-from-contains}
use Rattle.grid_model.proofs.Numbered.{found-among}
use Rattle.bucket_page.proofs.Standing.{one_bucket_spelled}
use Rattle.directory_changes.specs.Changes.{cell_box}
use Rattle.shadow_directory.specs.Directories.{SpellDirectory}
use Rattle.shadow_directory.proofs.Regions.{key-in-box, box-has-key}
use Rattle.shadow_directory.proofs.Spelled.{told-page, told-bucket}
use Rattle.shadow_directory.proofs.Told.{spell-it}
use Rattle.history_pages.specs.OwnerPages.{owner_page}
use Rattle.query_paths.proofs.Naming.{lowest-key, lowest-lies, directory-at, cell-box}
use Rattle.file_images.proofs.Buckets.{one_list_of_buckets}
use Rattle.file_images.proofs.Standings.{part_of_owner}
use Rattle.file_finding.proofs.Findings.{few_attributes}
use Rattle.file_finding.proofs.Stood.{stands_over}
use Rattle.grid_check.specs.Rules.{HasPart, HasCells, HasBucket, HasFaces, HasCover, HasRecords, IsNumbered, number_named}
use Rattle.grid_check.specs.Verdicts.{KeepsAll, root_found}
use Rattle.grid_check.specs.declared.verdict.Rule.TheVariants.{Part as PartRule, Cell, Bucket, Face, Cover, Records}
use Rattle.grid_check.proofs.Alike.{named_on_part}
use Rattle.grid_check.proofs.RootLists.{had_there}
use Rattle.grid_check.proofs.Tally.{IsHad, all_had}

-- what there is
there_is : {X : Type 0} (o : Option X) → IsSome o → (x : X) × (o ≡ Some x)
there_is None some = absurd (true≢false (sym some))
there_is (Some x) some = (x, refl)

module _ {K : ℕ} (image : List ℕ) (f : Found K) (n : ℕ) (t : Table) (makes : MakesTable image f n t) (L : Layout K) (root : RootSpells image f L) where
  abbrev s : Shape
  s = f.shape

  abbrev listed : List ℕ
  listed = f.area.parts

  abbrev table : List ℕ
  table = f.area.table

  stands : StandsOver f.shape L f.table
  stands = stands_over image f n t L makes root.sound

  few : K ≤ MOST_ATTRIBUTES
  few = few_attributes K image f.shape makes.is_found.shape

  low : f.shape.capacity ≤ MOST_RECORDS
  low = (within-limits f.shape makes.is_found.shape.lawful).small_capacity

  few_cells : cells L.scales ≤ 1000000
  few_cells = omega (arith, root.sound.few_cells, (within-limits f.shape makes.is_found.shape.lawful).few_cells)

  spell : SpellDirectory (dims L.scales) (directory L) (owner_page L f.table)
  spell = spell-it f.shape L f.table (Remove (record { numbers = [] })) (owner_page L f.table) stands (λ o. refl)

  -- the page of a part is the owner's
  page_there : (p : ℕ) → p < parts L.scales → owner_page L f.table (Part p) ≡ Some (entry_page f.shape image f.area.parts p)
  page_there p lt = part_of_owner L f.table p lt ∙ ap Some (sym (root.pages.directory p lt))

  has_part : (p : ℕ) → p < length f.area.parts → HasPart f.shape image (dims L.scales) f.area.parts p
  has_part p lt =
      let inside : p < parts L.scales = omega (arith, lt, root.pages.count) in
      told-page (dims L.scales) (directory L) (owner_page L f.table) p (entry_page f.shape image f.area.parts p) spell (omega (arith, inside)) (omega (arith, inside, few_cells)) (page_there p inside)

  -- a cell names the number that the directory has at its index
  named_is : (at : ℕ) → at < cells L.scales → number_named f.shape image f.area.parts at ≡ slice_index (directory L) at
  named_is at lt =
      told-bucket (dims L.scales) (directory L) (owner_page L f.table) (at / 1000) at (entry_page f.shape image f.area.parts (at / 1000)) spell lt refl (omega (arith, lt, few_cells)) (page_there (at / 1000) (omega (arith, lt)))

  -- the number of a box is one that a bucket has
  numbered : (m : ℕ) (b : BucketBox K) → box L m ≡ Some b → IsNumbered f.area.table m
  numbered m b there =
      let among = found-among L.boxes m (subst IsSome (sym there) refl) in
      let had = All-contains (IsHad f.area.table) (numbers_of f.area.table) m (all_had f.area.table) (contains-among (numbers_of f.area.table) m (subst (λ (ns : List ℕ). is_among ns m ≡ true) root.pages.numbers among)) in
      record { inside = had.inside; somewhere = had.named }

  -- and a number that a bucket has is that of a box
  boxed : (m : ℕ) → m < length f.area.table → slice_index f.area.table m ≢ nowhere → (b : BucketBox K) × (box L m ≡ Some b)
  boxed m lt some =
      let among = among-from-contains (numbers_of f.area.table) m (had_there f.area.table m lt some) in
      there_is (box L m) (among-found L.boxes m (subst (λ (ns : List ℕ). is_among ns m ≡ true) (sym root.pages.numbers) among))

  -- a cell at an index names a number that a bucket has
  each_named : (at : ℕ) → at < cells L.scales → IsNumbered f.area.table (number_named f.shape image f.area.parts at)
  each_named at lt =
      let cell : List ℕ = get_or (all_cells L.scales) at [] in
      let found = (have-indices K).index_of L.scales at cell (slice_get-get_or (all_cells L.scales) at [] (omega (arith, lt, (have-indices K).count L.scales))) in
      let is : number_named f.shape image f.area.parts at ≡ number_at L (corner L.scales cell) =
      named_is at lt ∙ ap (slice_index (directory L)) (sym found.1) ∙ directory-at f.shape L f.table stands cell found.0 in
      let b = cell-box f.shape L f.table stands cell found.0 (number_named f.shape image f.area.parts at) is in
      numbered (number_named f.shape image f.area.parts at) b.0 b.1.there

  has_cells : (p : ℕ) → p < length f.area.parts → HasCells f.shape image (dims L.scales) f.area.parts f.area.table p
  has_cells p lt = record {
    each = λ i inside. subst (IsNumbered f.area.table) (named_on_part f.shape image f.area.parts p i (omega (arith, inside))) (each_named (WORDS_ON_PAGE * p + i) (omega (arith, inside)));
  }

  -- whatever bucket the page of a number spells is that of the number's box
  bucket_is : (m : ℕ) (b : BucketBox K) → box L m ≡ Some b → (x : BucketOf K) → SpellsBucket f.shape.capacity (entry_page f.shape image f.area.table m) x → x ≡ bucket_on f.table (m, b)
  bucket_is m b there x spelled = one_bucket_spelled f.shape.capacity (entry_page f.shape image f.area.table m) x (bucket_on f.table (m, b)) few low spelled (root.pages.buckets m b there)

  has_bucket : (m : ℕ) → m < length f.area.table → slice_index f.area.table m ≢ nowhere → HasBucket K f.shape image f.area.table m
  has_bucket m lt some = let b = boxed m lt some in record { bucket = bucket_on f.table (m, b.0); spelled = root.pages.buckets m b.0 b.1; number_is = refl }

  has_faces : (m : ℕ) → m < length f.area.table → slice_index f.area.table m ≢ nowhere → HasFaces K f.shape image L.scales f.area.table m
  has_faces m lt some x spelled =
      let b = boxed m lt some in
      subst (λ (y : BucketOf K). IsDrawn L.scales y.box) (sym (bucket_is m b.0 b.1 x spelled)) (root.sound.drawn m b.0 b.1)

  lawful : (a : ℕ) → a < length L.scales → is_scale (scale_of L.scales a) ≡ true
  lawful a lt = root.sound.scales a (omega (arith, lt, root.sound.attributes))

  -- a cell names the number of a box exactly where it is one of the box's region
  box_named : (m : ℕ) (b : BucketBox K) → box L m ≡ Some b → (cell : List ℕ) → IsCell (dims L.scales) cell → (number_at L (corner L.scales cell) ≡ m) ↔ InCellBox (cell_box L.scales b.region) cell
  box_named m b there cell is =
      let drawn = root.sound.drawn m b there in
      let region = root.sound.regions m b there in
      let key = lowest-key f.shape L f.table stands cell is in
      let lies = lowest-lies f.shape L f.table stands cell is in (
        (λ same.
            let found = cell-box f.shape L f.table stands cell is m (sym same) in
            key-in-box L.scales b cell root.sound.attributes lawful drawn region is
            (subst (λ (c : BucketBox K). contains c.region (corner L.scales cell) ≡ true) (one-box L m m found.0 b found.1.there there refl) (found.1.inside (corner L.scales cell) key lies))),
        (λ inside.
            let found = cell-box f.shape L f.table stands cell is (number_at L (corner L.scales cell)) refl in
            root.sound.apart (corner L.scales cell) (number_at L (corner L.scales cell)) m found.0 b found.1.there there (found.1.inside (corner L.scales cell) key lies)
            (box-has-key L.scales b cell root.sound.attributes lawful drawn region is inside)),
      )

  has_cover : (m : ℕ) → m < length f.area.table → slice_index f.area.table m ≢ nowhere → HasCover K f.shape image L.scales f.area.parts f.area.table m
  has_cover m lt some x spelled cell is =
      let b = boxed m lt some in
      let same = bucket_is m b.0 b.1 x spelled in
      let by = box_named m b.0 b.1 cell is in
      let named : number_named f.shape image f.area.parts (cell_index (dims L.scales) cell) ≡ number_at L (corner L.scales cell) =
      named_is (cell_index (dims L.scales) cell) (cell_index-below (dims L.scales) cell is) ∙ directory-at f.shape L f.table stands cell is in
      ((λ e. subst (λ (y : BucketOf K). InCellBox (cell_box L.scales y.box.region) cell) (sym same) (by.0 (sym named ∙ e))), (λ inside. named ∙ by.1 (subst (λ (y : BucketOf K). InCellBox (cell_box L.scales y.box.region) cell) same inside)))

  has_records : HasRecords K f.shape image f.area.table f.root.records
  has_records bs has = ap (λ (cs : List (BucketOf K)). sum (map (λ b. length b.rows) cs)) (one_list_of_buckets f.shape image f.area.table few low bs f.buckets has makes.buckets) ∙ makes.records.once ∙ sym root.records

  abbrev over : List (List ℕ) → WholeRoot
  over scales = record { fields = f.root; area = record { scales = scales; parts = f.area.parts; table = f.area.table } }

  kept : KeepsAll K f.shape image (over L.scales)
  kept PartRule = has_part
  kept Cell = has_cells
  kept Bucket = has_bucket
  kept Face = has_faces
  kept Cover = has_cover
  kept Records = has_records

  -- what the root of such an image names keeps all rules
  pub keeps_all : KeepsAll K f.shape image (root_found f)
  keeps_all = subst (λ (scales : List (List ℕ)). KeepsAll K f.shape image (over scales)) root.scales kept
