-- The image of a new file is one: its pages stand in their order, and each has all its bytes.
use Rattle.std.proofs.Common.{◌≡◌, ◌<◌, ◌≤◌, ◌+◌, ◌*◌, ◌-◌, ◌/◌, ◌%◌, ℕ, zero, suc, Bool, true, false, cond, List, [], ◌∷◌, ◌++◌, length, map, take, drop, get_or, replicate, All, IsTrue, codes, refl, ap, ◌∙◌, length-append, arith}
use Rattle.std.specs.Prelude.{nat_lt, ◌==◌}
use Rattle.std.specs.List.{flat_map}
use Rattle.std.proofs.Math.Seq.{drop-append-add}
use Rattle.std.proofs.lemmas.List.{length-replicate, length-map, length-take, get_or_append_left, get_or-append_right, take_at}
use Rattle.std.proofs.lemmas.List.Elements.{All-cons, All-nil, All-tail, All-replicate, All-append, All-map}
use Rattle.std.proofs.lemmas.List.FromFn.{length-range_with_len, get_or-map-range_with_len}
use Rattle.grid_types.specs.declared.shape.Shape.{Shape}
use Rattle.grid_types.specs.Keys.{top}
use Rattle.grid_types.specs.Pages.{page_of}
use Rattle.grid_types.specs.Shapes.{is_shape, area_pages, file_pages, table_page, data_page}
use Rattle.grid_types.specs.Shapes as places
use Rattle.grid_types.proofs.Places.{within-limits, table-page, gate-page, data-page-is}
use Rattle.page_fields.specs.Fields.{bytes_of}
use Rattle.page_fields.specs.Padded.{padded, numbers}
use Rattle.page_fields.proofs.BytesOf.{length-bytes_of, length-numbers, length-padded}
use Rattle.root_pages.proofs.Heads.{length-area_head}
use Rattle.root_pages.proofs.Shapes.{length-shape_bytes}
use Rattle.grid_model.specs.Lists.{below}
use Rattle.grid_model.specs.Layouts.{whole}
use Rattle.grid_model.specs.Scales.{scale_of}
use Rattle.grid_model.specs.Spellings.{page, shape_bytes, root_bytes, area_head, scale_spelling, list_spelling, bucket_table_spelling, directory_spelling, bucket_head, bucket_spelling, gate_spelling}
use Rattle.grid_model.specs.Images.{half_of_scale, area_spelling}
use Rattle.file_images.specs.NewFiles.{new_fields, new_area, new_directory, new_bucket, IsNewFile, blank_pages, header_pages, table_areas, half_pages, data_pages, new_pages, new_image}
use Rattle.file_images.proofs.Wholes.{length_root, root_front, is_new}

-- these are as many bytes as a page has
abbrev IsPage : List ℕ → Type 0
IsPage bytes = length bytes ≡ 4096

-- pages one behind the other
abbrev joined : List (List ℕ) → List ℕ
joined pages = flat_map (λ page. page) pages

-- each stands in its place
page_at : (pages : List (List ℕ)) (i : ℕ) → All IsPage pages → i < length pages → page_of i (joined pages) ≡ get_or pages i []
page_at [] i all lt = absurd (omega (arith, lt))
page_at (p ∷ ps) zero all lt = take_at p (joined ps) 4096 (all 0 [] (omega arith))
page_at (p ∷ ps) (suc i) all lt =
    let at : suc i * 4096 ≡ length p + i * 4096 = omega (arith, all 0 [] (omega arith)) in
    ap (λ (n : ℕ). take 4096 (drop n (p ++ joined ps))) at ∙ ap (take 4096) (drop-append-add p (joined ps) (i * 4096)) ∙ page_at ps i (All-tail IsPage p ps all) (omega (arith, lt))

length_joined : (pages : List (List ℕ)) → All IsPage pages → length (joined pages) ≡ length pages * 4096
length_joined [] all = refl
length_joined (p ∷ ps) all = length-append p (joined ps) ∙ omega (arith, all 0 [] (omega arith), length_joined ps (All-tail IsPage p ps all))

-- a page of a head and a body has all its bytes
whole_page : (head body : List ℕ) → length head ≤ 96 → length body ≤ 4000 → IsPage (page head body)
unfolding page
whole_page head body small short = length-append (padded 96 head) (padded 4000 body) ∙ omega (arith, length-padded 96 head small, length-padded 4000 body short)

no_boundaries : (K i : ℕ) → scale_of (replicate K []) i ≡ []
no_boundaries zero zero = refl
no_boundaries zero (suc i) = refl
no_boundaries (suc K) zero = refl
no_boundaries (suc K) (suc i) = no_boundaries K i

half_of_none : (b : Bool) → cond b (take {A = ℕ} 500 []) (drop 500 []) ≡ []
half_of_none true = refl
half_of_none false = refl

-- each page of the new root's table area has all its bytes
area_is_page : (K : ℕ) (s : Shape) (i : ℕ) → IsPage (area_spelling 0 (new_area K s) i)
unfolding scale_spelling list_spelling bucket_table_spelling
area_is_page K s i = by (nat_lt i 8) (i == 8)
  where
    scale : List ℕ
    scale = half_of_scale (i % 2) (scale_of (replicate K []) (i / 2))

    none : scale ≡ []
    none = ap (half_of_scale (i % 2)) (no_boundaries K (i / 2)) ∙ half_of_none (i % 2 == 0)

    entries : List ℕ
    entries = take 1000 (drop (1000 * (i - 9)) (new_area K s).table)

    by : (low eight : Bool) → IsPage (cond low (scale_spelling 0 i scale) (cond eight (list_spelling 0 i (0 ∷ [])) (bucket_table_spelling 0 i entries)))
    by true eight = whole_page (area_head (codes "GFS1") i (length scale) 0) (numbers 8 scale) (omega (arith, length-area_head (codes "GFS1") i (length scale) 0 refl)) (omega (arith, length-numbers 8 scale, ap length none))
    by false true = whole_page (area_head (codes "GFL1") i 1 0) (numbers 4 (0 ∷ [])) (omega (arith, length-area_head (codes "GFL1") i 1 0 refl)) (omega (arith, length-numbers 4 (0 ∷ [])))
    by false false = whole_page (area_head (codes "GFT1") i (length entries) 0) (numbers 4 entries) (omega (arith, length-area_head (codes "GFT1") i (length entries) 0 refl)) (omega (arith, length-numbers 4 entries, length-take 1000 (drop (1000 * (i - 9)) (new_area K s).table)))

gate_is_page : (h : ℕ) (gates : List ℕ) → length gates ≤ 4000 → IsPage (gate_spelling h gates)
unfolding gate_spelling
gate_is_page h gates few = whole_page (codes "GFG1" ++ bytes_of 4 h) gates (omega (arith, length-bytes_of 4 h)) few

directory_is_page : IsPage new_directory
unfolding directory_spelling
directory_is_page = whole_page (codes "GFD1" ++ (bytes_of 4 0 ++ bytes_of 4 1)) (numbers 4 (0 ∷ [])) (omega (arith, length-append (bytes_of 4 0) (bytes_of 4 1), length-bytes_of 4 0, length-bytes_of 4 1)) (omega (arith, length-numbers 4 (0 ∷ [])))

bucket_is_page : (K : ℕ) → K ≤ 4 → IsPage (bucket_spelling (new_bucket K))
unfolding bucket_spelling bucket_head
bucket_is_page K few =
    let lo = padded 32 (numbers 8 (whole K).lo) in
    let hi = padded 32 (numbers 8 (whole K).hi) in
    let lows : length lo ≡ 32 = length-padded 32 (numbers 8 (whole K).lo) (omega (arith, few, length-numbers 8 (whole K).lo, length-replicate {A = ℕ} K 0)) in
    let highs : length hi ≡ 32 = length-padded 32 (numbers 8 (whole K).hi) (omega (arith, few, length-numbers 8 (whole K).hi, length-replicate K top)) in
    let ends = hi ++ replicate {A = ℕ} 16 0 in
    let last : length (lo ++ ends) ≡ 80 = length-append lo ends ∙ omega (arith, lows, length-append hi (replicate {A = ℕ} 16 0), highs, length-replicate {A = ℕ} 16 0) in
    let middle = 0 ∷ K ∷ 0 ∷ 0 ∷ 0 ∷ 0 ∷ (lo ++ ends) in
    let head : length (bucket_head (new_bucket K)) ≡ 96 = omega (arith, length-append (bytes_of 4 0) (bytes_of 2 0 ++ middle), length-append (bytes_of 2 0) middle, length-bytes_of 4 0, length-bytes_of 2 0, last) in
    length-append (bucket_head (new_bucket K)) (padded 4000 []) ∙ omega (arith, head, length-padded 4000 [] (omega arith))

module _ (K : ℕ) (s : Shape) (lawful : IsTrue (is_shape s)) (attributes : s.k ≡ K) where
  few_attributes : K ≤ 4
  few_attributes = omega (arith, attributes, (within-limits s lawful).few_attributes)

  blank_are_pages : (n : ℕ) → All IsPage (blank_pages n)
  blank_are_pages n = All-replicate IsPage n (replicate 4096 0) (length-replicate {A = ℕ} 4096 0)

  abbrev front : List ℕ
  front = root_front K s

  length_front : length front ≡ 128
  length_front =
      let rest = padded 8 (1 ∷ []) ++ root_bytes (new_fields K) in
      length-append (shape_bytes s) rest ∙ omega (arith, length-shape_bytes s, length-append (padded 8 (1 ∷ [])) (root_bytes (new_fields K)), length-padded 8 (1 ∷ []) (omega arith), length_root K few_attributes)

  headers_are_pages : All IsPage (header_pages K s)
  headers_are_pages = All-cons IsPage (padded 4096 front) (padded 4096 (shape_bytes s) ∷ []) (length-padded 4096 front (omega (arith, length_front))) (All-cons IsPage (padded 4096 (shape_bytes s)) [] (length-padded 4096 (shape_bytes s) (omega (arith, length-shape_bytes s))) (All-nil IsPage))

  areas_are_pages : All IsPage (table_areas K s)
  areas_are_pages = All-append IsPage (map (area_spelling 0 (new_area K s)) (below (area_pages s))) (blank_pages (area_pages s)) (All-map IsPage (area_spelling 0 (new_area K s)) (below (area_pages s)) (λ i d lt. area_is_page K s (get_or (below (area_pages s)) i d))) (blank_are_pages (area_pages s))

  half_are_pages : (h : ℕ) → All IsPage (half_pages s h)
  half_are_pages h = All-cons IsPage (gate_spelling h (replicate s.slots 0)) (blank_pages s.slots) (gate_is_page h (replicate s.slots 0) (omega (arith, length-replicate {A = ℕ} s.slots 0, (within-limits s lawful).few_slots))) (blank_are_pages s.slots)

  data_are_pages : All IsPage (data_pages K s)
  data_are_pages = All-cons IsPage new_directory (bucket_spelling (new_bucket K) ∷ blank_pages (s.pages - 2)) directory_is_page (All-cons IsPage (bucket_spelling (new_bucket K)) (blank_pages (s.pages - 2)) (bucket_is_page K few_attributes) (blank_are_pages (s.pages - 2)))

  abbrev halves : List (List ℕ)
  halves = half_pages s 0 ++ (half_pages s 1 ++ data_pages K s)

  all_are_pages : All IsPage (new_pages K s)
  all_are_pages = All-append IsPage (header_pages K s) (table_areas K s ++ halves) headers_are_pages
      (All-append IsPage (table_areas K s) halves areas_are_pages (All-append IsPage (half_pages s 0) (half_pages s 1 ++ data_pages K s) (half_are_pages 0) (All-append IsPage (half_pages s 1) (data_pages K s) (half_are_pages 1) data_are_pages)))

  blank_count : (n : ℕ) → length (blank_pages n) ≡ n
  blank_count n = length-replicate n (replicate 4096 0)

  areas_count : length (table_areas K s) ≡ 2 * area_pages s
  areas_count =
      let named = map (area_spelling 0 (new_area K s)) (below (area_pages s)) in
      length-append named (blank_pages (area_pages s)) ∙ omega (arith, length-map (below (area_pages s)) (area_spelling 0 (new_area K s)), length-range_with_len 0 (area_pages s), blank_count (area_pages s))

  half_count : (h : ℕ) → length (half_pages s h) ≡ 1 + s.slots
  half_count h = omega (arith, blank_count s.slots)

  halves_count : length halves ≡ 2 + 2 * s.slots + s.pages
  halves_count =
      length-append (half_pages s 0) (half_pages s 1 ++ data_pages K s)
      ∙ omega (arith, half_count 0, half_count 1, length-append (half_pages s 1) (data_pages K s), blank_count (s.pages - 2), (within-limits s lawful).some_pages)

  page_count : length (new_pages K s) ≡ file_pages s
  unfolding file_pages
  page_count = length-append (header_pages K s) (table_areas K s ++ halves) ∙ omega (arith, length-append (table_areas K s) halves, areas_count, halves_count)

  -- a page of the image stands in the list
  listed : (i : ℕ) → i < file_pages s → page_of i (new_image K s) ≡ get_or (new_pages K s) i []
  listed i lt = page_at (new_pages K s) i all_are_pages (omega (arith, lt, page_count))

  -- a page behind the table areas
  in_halves : (i n : ℕ) → i < file_pages s → i ≡ 2 + 2 * area_pages s + n → page_of i (new_image K s) ≡ get_or halves n []
  in_halves i n lt at =
      let first : i - 2 ≡ 2 * area_pages s + n = omega (arith, at) in
      let second : i - 2 - 2 * area_pages s ≡ n = omega (arith, at) in
      listed i lt
      ∙ get_or-append_right (header_pages K s) (table_areas K s ++ halves) 2 i [] refl (omega (arith, at))
      ∙ get_or-append_right (table_areas K s) halves (2 * area_pages s) (i - 2) [] areas_count (omega (arith, first))
      ∙ ap (λ (k : ℕ). get_or halves k []) second

  -- and one behind the first half
  in_second : (i n : ℕ) → i < file_pages s → i ≡ 3 + 2 * area_pages s + s.slots + n → page_of i (new_image K s) ≡ get_or (half_pages s 1 ++ data_pages K s) n []
  in_second i n lt at =
      let rest : 1 + s.slots + n - (1 + s.slots) ≡ n = omega arith in
      in_halves i (1 + s.slots + n) lt (omega (arith, at))
      ∙ get_or-append_right (half_pages s 0) (half_pages s 1 ++ data_pages K s) (1 + s.slots) (1 + s.slots + n) [] (half_count 0) (omega arith)
      ∙ ap (λ (k : ℕ). get_or (half_pages s 1 ++ data_pages K s) k []) rest

  -- and a data page
  in_data : (i n : ℕ) → i < file_pages s → i ≡ 4 + 2 * area_pages s + 2 * s.slots + n → page_of i (new_image K s) ≡ get_or (data_pages K s) n []
  in_data i n lt at =
      let rest : 1 + s.slots + n - (1 + s.slots) ≡ n = omega arith in
      in_second i (1 + s.slots + n) lt (omega (arith, at))
      ∙ get_or-append_right (half_pages s 1) (data_pages K s) (1 + s.slots) (1 + s.slots + n) [] (half_count 1) (omega arith)
      ∙ ap (λ (k : ℕ). get_or (data_pages K s) k []) rest

  enough : 8 + 2 * area_pages s + 2 * s.slots < file_pages s
  unfolding file_pages
  enough = omega (arith, (within-limits s lawful).some_pages)

  -- page i of the new root's table area
  in_area : (i : ℕ) → i < area_pages s → page_of (table_page s 0 i) (new_image K s) ≡ area_spelling 0 (new_area K s) i
  in_area i lt =
      let at = (table-page s i).0 in
      let rest : table_page s 0 i - 2 ≡ i = omega (arith, at) in
      let named = map (area_spelling 0 (new_area K s)) (below (area_pages s)) in
      let some : length named ≡ area_pages s = length-map (below (area_pages s)) (area_spelling 0 (new_area K s)) ∙ length-range_with_len 0 (area_pages s) in
      listed (table_page s 0 i) (omega (arith, at, lt, enough))
      ∙ get_or-append_right (header_pages K s) (table_areas K s ++ halves) 2 (table_page s 0 i) [] refl (omega (arith, at))
      ∙ ap (λ (k : ℕ). get_or (table_areas K s ++ halves) k []) rest
      ∙ get_or_append_left (table_areas K s) halves [] i (omega (arith, lt, areas_count))
      ∙ get_or_append_left named (blank_pages (area_pages s)) [] i (omega (arith, lt, some))
      ∙ get_or-map-range_with_len (area_spelling 0 (new_area K s)) 0 (area_pages s) i i [] lt (omega arith)

  in_gates : (h : ℕ) → h < 2 → page_of (places.gate_page s h) (new_image K s) ≡ gate_spelling h (replicate s.slots 0)
  in_gates zero two = in_halves (places.gate_page s 0) 0 (omega (arith, (gate-page s).0, enough)) (omega (arith, (gate-page s).0))
  in_gates (suc zero) two = in_second (places.gate_page s 1) 0 (omega (arith, (gate-page s).1, enough)) (omega (arith, (gate-page s).1))
  in_gates (suc (suc h)) two = absurd (omega (arith, two))

  -- the image of a new file is one
  pub is_new_file : IsNewFile K s (new_image K s)
  is_new_file = is_new K s (new_image K s) lawful attributes (omega (arith, length_joined (new_pages K s) all_are_pages, page_count)) (record {
    zeroth = listed 0 (omega (arith, enough));
    first = listed 1 (omega (arith, enough));
    area = in_area;
    gates = in_gates;
    directory = in_data (data_page s 0) 0 (omega (arith, data-page-is s 0, enough)) (data-page-is s 0);
    bucket = in_data (data_page s 1) 1 (omega (arith, data-page-is s 1, enough)) (data-page-is s 1);
  })
