-- The bytes of a shape and of a root's fields, field by field.
use Rattle.std.proofs.Common.{◌≡◌, ◌≤◌, ◌+◌, ◌-◌, ℕ, List, [], ◌∷◌, ◌++◌, length, take, codes, replicate, ap, ◌∙◌, append_assoc, length-append, slice_index, arith}
use Rattle.std.proofs.lemmas.List.{replicate-append-replicate, take_at, get_or-append_right, get_or-replicate}
use Rattle.grid_types.specs.declared.shape.Shape.{Shape}
use Rattle.page_fields.specs.Fields.{bytes_of}
use Rattle.page_fields.specs.Padded.{padded, numbers}
use Rattle.page_fields.proofs.BytesOf.{length-bytes_of, length-padded}
use Rattle.grid_model.specs.Spellings.{shape_bytes, RootFields, root_bytes}

-- the fields of a shape
abbrev pub shape_fields : Shape → List ℕ
shape_fields s = codes "GRIDFILE" ++ (bytes_of 2 1 ++ (s.k ∷ 0 ∷ (bytes_of 2 s.capacity ++ (0 ∷ 0 ∷ (bytes_of 4 s.pages ++ (bytes_of 4 s.slots ++ (bytes_of 4 s.boundaries ++ bytes_of 4 s.cells)))))))

pub length-shape_fields : (s : Shape) → length (shape_fields s) ≡ 32
length-shape_fields s =
    let v = bytes_of 2 1 in
    let c = bytes_of 2 s.capacity in
    let p = bytes_of 4 s.pages in
    let t = bytes_of 4 s.slots in
    let b = bytes_of 4 s.boundaries in
    let e = bytes_of 4 s.cells in
    omega (
      arith,
      length-append v (s.k ∷ 0 ∷ (c ++ (0 ∷ 0 ∷ (p ++ (t ++ (b ++ e)))))),
      length-append c (0 ∷ 0 ∷ (p ++ (t ++ (b ++ e)))),
      length-append p (t ++ (b ++ e)),
      length-append t (b ++ e),
      length-append b e,
      length-bytes_of 2 1,
      length-bytes_of 2 s.capacity,
      length-bytes_of 4 s.pages,
      length-bytes_of 4 s.slots,
      length-bytes_of 4 s.boundaries,
      length-bytes_of 4 s.cells,
    )

pub shape_is : (s : Shape) → shape_bytes s ≡ shape_fields s ++ replicate 32 0
unfolding shape_bytes padded
shape_is s =
    let left : 64 - length (shape_fields s) ≡ 32 = omega (arith, length-shape_fields s) in
    ap (λ (n : ℕ). shape_fields s ++ replicate n 0) left

pub length-shape_bytes : (s : Shape) → length (shape_bytes s) ≡ 64
unfolding shape_bytes
length-shape_bytes s = length-padded 64 (shape_fields s) (omega (arith, length-shape_fields s))

-- bytes that are filled up twice
padded_twice : (n m : ℕ) (bytes : List ℕ) → length bytes ≤ m → m ≤ n → padded n (padded m bytes) ≡ padded n bytes
unfolding padded
padded_twice n m bytes few le =
    let more : n - length (padded m bytes) ≡ n - m = omega (arith, length-padded m bytes few) in
    let zeros = replicate-append-replicate {A = ℕ} (m - length bytes) (n - m) 0 in
    let all : m - length bytes + (n - m) ≡ n - length bytes = omega arith in
    ap (λ (k : ℕ). (bytes ++ replicate (m - length bytes) 0) ++ replicate k 0) more
    ∙ append_assoc bytes (replicate (m - length bytes) 0) (replicate (n - m) 0)
    ∙ ap (λ (z : List ℕ). bytes ++ z) (zeros ∙ ap (λ (k : ℕ). replicate k 0) all)

-- a page of a shape's fields and zeros
pub header_is : (s : Shape) → padded 4096 (shape_bytes s) ≡ padded 4096 (shape_fields s)
unfolding shape_bytes
header_is s = padded_twice 4096 64 (shape_fields s) (omega (arith, length-shape_fields s)) (omega arith)

-- the front of a page once a shape was written, field by field
pub shape_written : (s : Shape) (a1 a2 a3 a4 a5 a6 a7 a8 a9 : List ℕ) → a1 ≡ codes "GRIDFILE" → a2 ≡ a1 ++ bytes_of 2 1 → a3 ≡ a2 ++ s.k ∷ 0 ∷ [] → a4 ≡ a3 ++ bytes_of 2 s.capacity → a5 ≡ a4 ++ 0 ∷ 0 ∷ [] → a6 ≡ a5 ++ bytes_of 4 s.pages
    → a7 ≡ a6 ++ bytes_of 4 s.slots → a8 ≡ a7 ++ bytes_of 4 s.boundaries → a9 ≡ a8 ++ bytes_of 4 s.cells → a9 ≡ shape_fields s
shape_written s a1 a2 a3 a4 a5 a6 a7 a8 a9 e1 e2 e3 e4 e5 e6 e7 e8 e9 = e9 ∙ rw (e8, e7, e6, e5, e4, e3, e2, e1) (simp append_assoc)

-- a new header page begins with the shape, and its gate is closed
pub header_front : (s : Shape) → take 64 (padded 4096 (shape_bytes s)) ≡ shape_bytes s
unfolding padded
header_front s = take_at (shape_bytes s) (replicate (4096 - length (shape_bytes s)) 0) 64 (length-shape_bytes s)

pub header_closed : (s : Shape) → slice_index (padded 4096 (shape_bytes s)) 64 ≡ 0
unfolding padded
header_closed s =
    get_or-append_right (shape_bytes s) (replicate (4096 - length (shape_bytes s)) 0) 64 64 0 (length-shape_bytes s) (omega arith)
    ∙ get_or-replicate (4096 - length (shape_bytes s)) 0 0 0 (omega (arith, length-shape_bytes s))

-- a root's fields once they were written, one behind the other
pub fields_written : (r : RootFields) (a1 a2 a3 a4 a5 a6 a7 : List ℕ) → a1 ≡ bytes_of 8 r.number → a2 ≡ a1 ++ bytes_of 8 r.session → a3 ≡ a2 ++ bytes_of 8 r.front → a4 ≡ a3 ++ bytes_of 8 r.records → a5 ≡ a4 ++ padded 16 (numbers 4 r.boundaries)
    → a6 ≡ a5 ++ bytes_of 4 r.parts → a7 ≡ a6 ++ bytes_of 4 r.buckets → a7 ≡ root_bytes r
unfolding root_bytes
fields_written r a1 a2 a3 a4 a5 a6 a7 e1 e2 e3 e4 e5 e6 e7 = e7 ∙ rw (e6, e5, e4, e3, e2, e1) (simp append_assoc)
