-- An image whose pages are those of a new file is that of a new file.
use Rattle.std.proofs.Common.{◌≡◌, ◌<◌, ◌≤◌, ◌*◌, ◌-◌, ℕ, List, [], ◌∷◌, ◌++◌, length, take, drop, slice_index, replicate, IsTrue, refl, sym, ap, ◌∙◌, append_assoc, length-append, arith}
use Rattle.std.proofs.lemmas.List.{length-replicate, get_or-replicate, get_or-append_right, get_or-drop, take_at}
use Rattle.grid_types.specs.declared.shape.Shape.{Shape}
use Rattle.grid_types.specs.Pages.{page_of}
use Rattle.grid_types.specs.Shapes.{is_shape, area_pages, file_pages, table_page, data_page}
use Rattle.grid_types.specs.Shapes as places
use Rattle.grid_types.proofs.Places.{within-limits}
use Rattle.page_fields.specs.Fields.{bytes_of}
use Rattle.page_fields.specs.Padded.{padded, numbers}
use Rattle.page_fields.proofs.BytesOf.{length-bytes_of, length-numbers, length-padded}
use Rattle.page_fields.proofs.Places.{behind}
use Rattle.root_pages.proofs.Shapes.{length-shape_bytes}
use Rattle.grid_model.specs.Spellings.{shape_bytes, root_bytes, bucket_spelling, gate_spelling}
use Rattle.grid_model.specs.Images.{area_spelling}
use Rattle.file_images.specs.NewFiles.{new_fields, new_area, new_directory, new_bucket, IsNewFile}

-- the fields of a new file's root are 56 bytes
pub length_root : (K : ℕ) → K ≤ 4 → length (root_bytes (new_fields K)) ≡ 56
unfolding root_bytes
length_root K few =
    let eight = bytes_of 8 0 in
    let four = bytes_of 4 1 in
    let counts = padded 16 (numbers 4 (replicate K 0)) in
    let sixteen : length counts ≡ 16 = length-padded 16 (numbers 4 (replicate K 0)) (omega (arith, few, length-numbers 4 (replicate K 0), length-replicate {A = ℕ} K 0)) in
    let tail = counts ++ (four ++ four) in
    omega (arith, length-append eight (eight ++ (eight ++ (eight ++ tail))), length-append eight (eight ++ (eight ++ tail)), length-append eight (eight ++ tail), length-append eight tail, length-append counts (four ++ four), length-append four four, sixteen, length-bytes_of 8 0, length-bytes_of 4 1)

-- the bytes of header page 0 that are not zeros
abbrev pub root_front : ℕ → Shape → List ℕ
root_front K s = shape_bytes s ++ (padded 8 (1 ∷ []) ++ root_bytes (new_fields K))

-- the pages of a new file that say something
pub record HasPages (K : ℕ) (s : Shape) (image : List ℕ) : Type 0 where
  pub zeroth : page_of 0 image ≡ padded 4096 (root_front K s)
  pub first : page_of 1 image ≡ padded 4096 (shape_bytes s)
  pub area : (i : ℕ) → i < area_pages s → page_of (table_page s 0 i) image ≡ area_spelling 0 (new_area K s) i
  pub gates : (h : ℕ) → h < 2 → page_of (places.gate_page s h) image ≡ gate_spelling h (replicate s.slots 0)
  pub directory : page_of (data_page s 0) image ≡ new_directory
  pub bucket : page_of (data_page s 1) image ≡ bucket_spelling (new_bucket K)

module _ (K : ℕ) (s : Shape) (image : List ℕ) (lawful : IsTrue (is_shape s)) (attributes : s.k ≡ K) (long : file_pages s * 4096 ≤ length image) (has : HasPages K s image) where
  few_attributes : K ≤ 4
  few_attributes = omega (arith, attributes, (within-limits s lawful).few_attributes)

  abbrev rest : List ℕ
  rest = replicate (4096 - length (root_front K s)) 0

  zeroth_is : page_of 0 image ≡ root_front K s ++ rest
  unfolding padded
  zeroth_is = has.zeroth

  first_is : page_of 1 image ≡ shape_bytes s ++ replicate (4096 - length (shape_bytes s)) 0
  unfolding padded
  first_is = has.first

  -- header page 0, field by field
  abbrev gate_and_rest : List ℕ
  gate_and_rest = padded 8 (1 ∷ []) ++ (root_bytes (new_fields K) ++ rest)

  zeroth_at0 : page_of 0 image ≡ shape_bytes s ++ gate_and_rest
  zeroth_at0 = zeroth_is ∙ simp append_assoc

  zeroth_at64 : drop 64 (page_of 0 image) ≡ gate_and_rest
  zeroth_at64 = behind 0 64 64 (page_of 0 image) (shape_bytes s) gate_and_rest zeroth_at0 (length-shape_bytes s) refl

  zeroth_at72 : drop 72 (page_of 0 image) ≡ root_bytes (new_fields K) ++ rest
  zeroth_at72 = behind 64 8 72 (page_of 0 image) (padded 8 (1 ∷ [])) (root_bytes (new_fields K) ++ rest) zeroth_at64 (length-padded 8 (1 ∷ []) (omega arith)) refl

  gate_is : slice_index gate_and_rest 0 ≡ 1
  unfolding padded
  gate_is = refl

  second_gate : slice_index (page_of 1 image) 64 ≡ 0
  second_gate =
      ap (λ (bytes : List ℕ). slice_index bytes 64) first_is
      ∙ get_or-append_right (shape_bytes s) (replicate (4096 - length (shape_bytes s)) 0) 64 64 0 (length-shape_bytes s) (omega arith)
      ∙ get_or-replicate (4096 - length (shape_bytes s)) 0 0 0 (omega (arith, length-shape_bytes s))

  -- such an image is that of a new file
  pub is_new : IsNewFile K s image
  is_new = record {
    shape = record {
      lawful = lawful;
      attributes = attributes;
      first = ap (take 64) zeroth_at0 ∙ take_at (shape_bytes s) gate_and_rest 64 (length-shape_bytes s);
      second = ap (take 64) first_is ∙ take_at (shape_bytes s) (replicate (4096 - length (shape_bytes s)) 0) 64 (length-shape_bytes s);
      long = long;
    };
    opened = sym (get_or-drop 64 (page_of 0 image) 0 0) ∙ ap (λ (bytes : List ℕ). slice_index bytes 0) zeroth_at64 ∙ gate_is;
    fields = ap (take 56) zeroth_at72 ∙ take_at (root_bytes (new_fields K)) rest 56 (length_root K few_attributes);
    closed = λ e. absurd (omega (arith, e, second_gate));
    area = has.area;
    gates = has.gates;
    directory = has.directory;
    bucket = has.bucket;
  }
