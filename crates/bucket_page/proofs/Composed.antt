-- The page of a bucket with one record more, or with one replaced, made of parts of the bucket's page.
use Rattle.std.proofs.Common.{◌≡◌, ◌<◌, ◌≤◌, ◌+◌, ◌-◌, ◌*◌, ℕ, List, ◌∷◌, ◌++◌, length, take, drop, get_or, set, suc, replicate, refl, sym, ap, subst, ◌∙◌, append_assoc, length-append, arith, codes}
use Rattle.std.specs.List.{flat_map, insert}
use Rattle.std.proofs.lemmas.List.{take-append-drop, take_at, take_all, drop_at, drop_more, set_split, length-set, length-drop, length-take-le, length-replicate, take-replicate, get_or-take, get_or-drop}
use Rattle.std.proofs.lemmas.Grind.{flat_map-append}
use Rattle.grid_types.specs.declared.update.Record.{Record}
use Rattle.page_fields.specs.Fields.{bytes_of}
use Rattle.page_fields.specs.Padded.{padded, numbers}
use Rattle.page_fields.proofs.BytesOf.{length-bytes_of}
use Rattle.page_fields.proofs.Places.{behind}
use Rattle.grid_model.proofs.Corners.{length-key}
use Rattle.grid_model.specs.Spellings.{BucketOf, record_bytes, bucket_head, bucket_spelling}
use Rattle.grid_model.specs.Buckets.{IsBucket}
use Rattle.bucket_page.proofs.Pointwise.{IsRow, by_index}
use Rattle.bucket_page.specs.Putting.{with_rows}
use Rattle.bucket_page.proofs.Standing.{length_row}
use Rattle.bucket_page.proofs.FrameThere.{length-rows_spelled}

-- a part of an append that ends inside its last zeros
part_with_zeros : (n m k : ℕ) (xs : List ℕ) → n ≡ length xs + k → k ≤ m → take n (xs ++ replicate m 0) ≡ xs ++ replicate k 0
part_with_zeros n m k xs is le =
    let rest : replicate m 0 ≡ replicate k 0 ++ drop k (replicate {A = ℕ} m 0) = sym (take-append-drop k (replicate m 0)) ∙ ap (λ (z : List ℕ). z ++ drop k (replicate m 0)) (take-replicate k m 0 le) in
    let size : length (xs ++ replicate k 0) ≡ n = length-append xs (replicate k 0) ∙ omega (arith, is, length-replicate {A = ℕ} k 0) in
    ap (λ (z : List ℕ). take n (xs ++ z)) rest ∙ ap (take n) (sym (append_assoc xs (replicate k 0) (drop k (replicate m 0)))) ∙ take_at (xs ++ replicate k 0) (drop k (replicate m 0)) n size

-- five parts that are written one behind the other, three of them out of another page
pub assembled : (A c X F B R new page t0 t1 t2 t3 t4 t5 : List ℕ) (m start : ℕ) → page ≡ A ++ (c ++ (X ++ (F ++ (B ++ replicate m 0)))) → length A ≡ 8 → length c ≡ 2 → length X ≡ 86 → start ≡ 96 + length F → 80 ≤ m → 4016 - start ≡ length B + (m - 80)
    → take 8 t1 ≡ take 0 t0 ++ take 8 page → take 10 t2 ≡ take 8 t1 ++ new → take start t3 ≡ take 10 t2 ++ take (start - 10) (drop 10 page) → take (start + 80) t4 ≡ take start t3 ++ R → take 4096 t5 ≡ take (start + 80) t4 ++ take (4016 - start) (drop start page) → length t5 ≡ 4096
    → t5 ≡ A ++ (new ++ (X ++ (F ++ (R ++ (B ++ replicate (m - 80) 0)))))
assembled A c X F B R new page t0 t1 t2 t3 t4 t5 m start e la lc lx is room fill f1 f2 f3 f4 f5 whole =
    let Z : List ℕ = replicate m 0 in
    let Y : List ℕ = replicate (m - 80) 0 in
    let p1 : take 8 page ≡ A = ap (take 8) e ∙ take_at A (c ++ (X ++ (F ++ (B ++ Z)))) 8 la in
    let d10 : drop 10 page ≡ X ++ (F ++ (B ++ Z)) = behind 8 2 10 page c (X ++ (F ++ (B ++ Z))) (behind 0 8 8 page A (c ++ (X ++ (F ++ (B ++ Z)))) e la refl) lc refl in
    let joined : drop 10 page ≡ (X ++ F) ++ (B ++ Z) = d10 ∙ sym (append_assoc X F (B ++ Z)) in
    let long : length (X ++ F) ≡ 86 + length F = length-append X F ∙ omega (arith, lx) in
    let p3 : take (start - 10) (drop 10 page) ≡ X ++ F = ap (take (start - 10)) joined ∙ take_at (X ++ F) (B ++ Z) (start - 10) (omega (arith, long, is)) in
    let ds : drop start page ≡ B ++ Z = behind 10 (86 + length F) start page (X ++ F) (B ++ Z) joined long (omega (arith, is)) in
    let p5 : take (4016 - start) (drop start page) ≡ B ++ Y = ap (take (4016 - start)) ds ∙ part_with_zeros (4016 - start) m (m - 80) B fill (omega arith) in
    let g1 : take 8 t1 ≡ A = f1 ∙ p1 in
    let g2 : take 10 t2 ≡ A ++ new = f2 ∙ ap (λ (x : List ℕ). x ++ new) g1 in
    let g3 : take start t3 ≡ (A ++ new) ++ (X ++ F) = f3 ∙ ap (λ (x : List ℕ). x ++ take (start - 10) (drop 10 page)) g2 ∙ ap (λ (x : List ℕ). (A ++ new) ++ x) p3 in
    let g4 : take (start + 80) t4 ≡ ((A ++ new) ++ (X ++ F)) ++ R = f4 ∙ ap (λ (x : List ℕ). x ++ R) g3 in
    let g5 : take 4096 t5 ≡ (((A ++ new) ++ (X ++ F)) ++ R) ++ (B ++ Y) = f5 ∙ ap (λ (x : List ℕ). x ++ take (4016 - start) (drop start page)) g4 ∙ ap (λ (x : List ℕ). (((A ++ new) ++ (X ++ F)) ++ R) ++ x) p5 in
    let flat : (((A ++ new) ++ (X ++ F)) ++ R) ++ (B ++ Y) ≡ A ++ (new ++ (X ++ (F ++ (R ++ (B ++ Y))))) = simp append_assoc in
    sym (take_all 4096 t5 (omega (arith, whole))) ∙ g5 ∙ flat

-- the parts of a bucket's head around the number of its records
unfoldable pub outer : {K : ℕ} → BucketOf K → List ℕ
outer b = codes "GFB1" ++ bytes_of 4 b.number

unfoldable pub inner : {K : ℕ} → BucketOf K → List ℕ
inner {K} b = b.box.turn ∷ K ∷ 0 ∷ 0 ∷ 0 ∷ 0 ∷ (padded 32 (numbers 8 b.box.region.lo) ++ (padded 32 (numbers 8 b.box.region.hi) ++ replicate 16 0))

-- a spelling in parts
pub in_parts : {K : ℕ} (b : BucketOf K) (flat F G : List ℕ) (n m : ℕ) → flat ≡ flat_map record_bytes b.rows → flat ≡ F ++ G → n ≡ length b.rows → m ≡ 4000 - length flat → bucket_spelling b ≡ outer b ++ (bytes_of 2 n ++ (inner b ++ (F ++ (G ++ replicate m 0))))
unfolding bucket_spelling bucket_head padded outer inner
in_parts {K} b flat F G n m is parts count left =
    let Z : List ℕ = replicate m 0 in
    let joined : (codes "GFB1" ++ (bytes_of 4 b.number ++ (bytes_of 2 n ++ inner b))) ++ (flat ++ Z) ≡ (codes "GFB1" ++ bytes_of 4 b.number) ++ (bytes_of 2 n ++ (inner b ++ (flat ++ Z))) = simp append_assoc in
    rw (← is, ← count, ← left) (joined ∙ ap (λ (x : List ℕ). outer b ++ (bytes_of 2 n ++ (inner b ++ x))) (ap (λ (x : List ℕ). x ++ Z) parts ∙ append_assoc F G Z))

pub length-outer : {K : ℕ} (b : BucketOf K) → length (outer b) ≡ 8
unfolding outer
length-outer b = length-append (codes "GFB1") (bytes_of 4 b.number) ∙ omega (arith, length-bytes_of 4 b.number)

pub length-inner : (K : ℕ) (b : BucketOf K) (c : ℕ) → K ≤ 4 → IsBucket c b → length (inner b) ≡ 86
unfolding inner
length-inner K b c few whole =
    let fits = by_index K c b whole in
    let lo = padded 32 (numbers 8 b.box.region.lo) in
    let hi = padded 32 (numbers 8 b.box.region.hi) in
    let a : length lo ≡ 32 = length-key K b.box.region.lo few fits.lo in
    let z : length hi ≡ 32 = length-key K b.box.region.hi few fits.hi in
    let more : length (lo ++ (hi ++ replicate 16 0)) ≡ 80 = length-append lo (hi ++ replicate 16 0) ∙ omega (arith, a, z, length-append hi (replicate {A = ℕ} 16 0), length-replicate {A = ℕ} 16 0) in
    omega (arith, more)

-- the lengths of the records in front of an index and from it on
pub front_long : (K : ℕ) (rows : List (Record K)) (at : ℕ) → K ≤ 4 → at ≤ length rows → ((i : ℕ) (d : Record K) → i < length rows → IsRow K (get_or rows i d)) → length (flat_map record_bytes (take at rows)) ≡ 80 * at
front_long K rows at few le each =
    let size : length (take at rows) ≡ at = length-take-le at rows le in
    length-rows_spelled (take at rows) few (λ i d lt. subst (IsRow K) (sym (get_or-take at rows i d (omega (arith, lt, size)))) (each i d (omega (arith, lt, size, le)))) ∙ ap (λ (n : ℕ). 80 * n) size

pub back_long : (K : ℕ) (rows : List (Record K)) (at : ℕ) → K ≤ 4 → at ≤ length rows → ((i : ℕ) (d : Record K) → i < length rows → IsRow K (get_or rows i d)) → length (flat_map record_bytes (drop at rows)) ≡ 80 * (length rows - at)
back_long K rows at few le each =
    let size : length (drop at rows) ≡ length rows - at = length-drop at rows in
    length-rows_spelled (drop at rows) few (λ i d lt. subst (IsRow K) (sym (get_or-drop at rows i d)) (each (at + i) d (omega (arith, lt, size, le)))) ∙ ap (λ (n : ℕ). 80 * n) size

-- the page that is made of these parts is the spelling of the bucket with the record at the index
pub inserted : (K c n at start : ℕ) (b : BucketOf K) (r : Record K) (page t0 t1 t2 t3 t4 t5 : List ℕ) → K ≤ 4 → IsBucket c b → page ≡ bucket_spelling b → length b.rows ≡ n → n < 48 → at ≤ n → start ≡ 96 + 80 * at → length t3 ≡ 4096 → length t4 ≡ 4096 → length t5 ≡ 4096
    → take 8 t1 ≡ take 0 t0 ++ take 8 page → take 10 t2 ≡ take 8 t1 ++ bytes_of 2 (n + 1) → take start t3 ≡ take 10 t2 ++ take (start - 10) (drop 10 page) → take (start + 80) t4 ≡ take start t3 ++ record_bytes r → take 4096 t5 ≡ take (start + 80) t4 ++ take (4016 - start) (drop start page)
    → t5 ≡ bucket_spelling (with_rows b (insert b.rows at r))
unfolding outer inner
inserted K c n at start b r page t0 t1 t2 t3 t4 t5 few whole e count room low is l3 l4 l5 f1 f2 f3 f4 f5 =
    let fits = by_index K c b whole in
    let rows = b.rows in
    let F = flat_map record_bytes (take at rows) in
    let B = flat_map record_bytes (drop at rows) in
    let R = record_bytes r in
    let flat = flat_map record_bytes rows in
    let le : at ≤ length rows = omega (arith, count, low) in
    let lf : length F ≡ 80 * at = front_long K rows at few le fits.rows in
    let lb : length B ≡ 80 * (length rows - at) = back_long K rows at few le fits.rows in
    let parts : flat ≡ F ++ B = ap (flat_map record_bytes) (sym (take-append-drop at rows)) ∙ flat_map-append record_bytes (take at rows) (drop at rows) in
    let size : length flat ≡ 80 * n = ap length parts ∙ length-append F B ∙ omega (arith, lf, lb, count, low) in
    let before : page ≡ outer b ++ (bytes_of 2 n ++ (inner b ++ (F ++ (B ++ replicate (4000 - length flat) 0)))) = e ∙ in_parts b flat F B n (4000 - length flat) refl parts (sym count) refl in
    let a4 : length (take (start + 80) t4) ≡ start + 80 = length-take-le (start + 80) t4 (omega (arith, l4, is, low, room)) in
    let a3 : length (take start t3) ≡ start = length-take-le start t3 (omega (arith, l3, is, low, room)) in
    let lr : length R ≡ 80 = omega (arith, a4, a3, ap length f4, length-append (take start t3) R) in
    let made = assembled (outer b) (bytes_of 2 n) (inner b) F B R (bytes_of 2 (n + 1)) page t0 t1 t2 t3 t4 t5 (4000 - length flat) start before (length-outer b) (length-bytes_of 2 n) (length-inner K b c few whole) (omega (arith, is, lf)) (omega (arith, size, room)) (omega (arith, is, lb, size, count, low, room)) f1 f2 f3 f4 f5 l5 in
    let more = insert rows at r in
    let parts_more : flat_map record_bytes more ≡ F ++ (R ++ B) = flat_map-append record_bytes (take at rows) (r ∷ drop at rows) in
    let size_more : length (flat_map record_bytes more) ≡ 80 * n + 80 = ap length parts_more ∙ length-append F (R ++ B) ∙ omega (arith, lf, lr, lb, length-append R B, count, low) in
    let count_more : n + 1 ≡ length more = sym (length-append (take at rows) (r ∷ drop at rows) ∙ omega (arith, length-take-le at rows le, length-drop at rows, count, low)) in
    let after : bucket_spelling (with_rows b more) ≡ outer b ++ (bytes_of 2 (n + 1) ++ (inner b ++ (F ++ ((R ++ B) ++ replicate (4000 - length flat - 80) 0)))) =
    in_parts (with_rows b more) (flat_map record_bytes more) F (R ++ B) (n + 1) (4000 - length flat - 80) refl parts_more count_more (omega (arith, size, size_more)) in
    made ∙ ap (λ (x : List ℕ). outer b ++ (bytes_of 2 (n + 1) ++ (inner b ++ (F ++ x)))) (sym (append_assoc R B (replicate (4000 - length flat - 80) 0))) ∙ sym after

-- the same for a record in place of another
pub replaced_record : (K c n at start : ℕ) (b : BucketOf K) (r : Record K) (page t0 t1 t2 t3 : List ℕ) → K ≤ 4 → IsBucket c b → page ≡ bucket_spelling b → length b.rows ≡ n → n ≤ 48 → at < n → start ≡ 96 + 80 * at → length t2 ≡ 4096 → length t3 ≡ 4096
    → take start t1 ≡ take 0 t0 ++ take start page → take (start + 80) t2 ≡ take start t1 ++ record_bytes r → take 4096 t3 ≡ take (start + 80) t2 ++ drop (start + 80) page
    → t3 ≡ bucket_spelling (with_rows b (set b.rows at r))
unfolding outer inner
replaced_record K c n at start b r page t0 t1 t2 t3 few whole e count most low is l2 l3 f1 f2 f3 =
    let fits = by_index K c b whole in
    let rows = b.rows in
    let lt : at < length rows = omega (arith, count, low) in
    let x : Record K = get_or rows at r in
    let F = flat_map record_bytes (take at rows) in
    let X = record_bytes x in
    let R = record_bytes r in
    let B = flat_map record_bytes (drop (suc at) rows) in
    let flat = flat_map record_bytes rows in
    let more = set rows at r in
    let H = outer b ++ (bytes_of 2 n ++ inner b) in
    let Z : List ℕ = replicate (4000 - length flat) 0 in
    let next : at + 1 ≡ suc at = omega arith in
    let split : rows ≡ take at rows ++ (x ∷ drop (suc at) rows) = sym (take-append-drop at rows) ∙ ap (λ (ys : List (Record K)). take at rows ++ ys) (drop_more rows at r lt ∙ ap (λ (m : ℕ). x ∷ drop m rows) next) in
    let parts : flat ≡ F ++ (X ++ B) = ap (flat_map record_bytes) split ∙ flat_map-append record_bytes (take at rows) (x ∷ drop (suc at) rows) in
    let parts_more : flat_map record_bytes more ≡ F ++ (R ++ B) = ap (flat_map record_bytes) (set_split rows at r lt) ∙ flat_map-append record_bytes (take at rows) (r ∷ drop (suc at) rows) in
    let lf : length F ≡ 80 * at = front_long K rows at few (omega (arith, lt)) fits.rows in
    let lx : length X ≡ 80 = length_row x few (fits.rows at r lt) in
    let lh : length H ≡ 96 = length-append (outer b) (bytes_of 2 n ++ inner b) ∙ omega (arith, length-outer b, length-append (bytes_of 2 n) (inner b), length-bytes_of 2 n, length-inner K b c few whole) in
    let front : length (H ++ F) ≡ start = length-append H F ∙ omega (arith, lh, lf, is) in
    let a2 : length (take (start + 80) t2) ≡ start + 80 = length-take-le (start + 80) t2 (omega (arith, l2, is, low, most)) in
    let before : page ≡ (H ++ F) ++ (X ++ (B ++ Z)) = e ∙ in_parts b flat F (X ++ B) n (4000 - length flat) refl parts (sym count) refl ∙ simp append_assoc in
    let p1 : take start page ≡ H ++ F = ap (take start) before ∙ take_at (H ++ F) (X ++ (B ++ Z)) start front in
    let p3 : drop (start + 80) page ≡ B ++ Z = behind start 80 (start + 80) page X (B ++ Z) (ap (drop start) before ∙ drop_at (H ++ F) (X ++ (B ++ Z)) start front) lx refl in
    let g1 : take start t1 ≡ H ++ F = f1 ∙ p1 in
    let g2 : take (start + 80) t2 ≡ (H ++ F) ++ R = f2 ∙ ap (λ (y : List ℕ). y ++ R) g1 in
    let g3 : take 4096 t3 ≡ ((H ++ F) ++ R) ++ (B ++ Z) = f3 ∙ ap (λ (y : List ℕ). y ++ drop (start + 80) page) g2 ∙ ap (λ (y : List ℕ). ((H ++ F) ++ R) ++ y) p3 in
    let lr : length R ≡ 80 = omega (arith, a2, ap length g2, front, length-append (H ++ F) R) in
    let same : length (flat_map record_bytes more) ≡ length flat = ap length parts_more ∙ length-append F (R ++ B) ∙ omega (arith, length-append R B, lr, lx, ap length parts, length-append F (X ++ B), length-append X B) in
    let count_more : n ≡ length more = sym (length-set rows at r ∙ count) in
    let after : bucket_spelling (with_rows b more) ≡ outer b ++ (bytes_of 2 n ++ (inner b ++ (F ++ ((R ++ B) ++ Z)))) =
    in_parts (with_rows b more) (flat_map record_bytes more) F (R ++ B) n (4000 - length flat) refl parts_more count_more (omega (arith, same)) in
    let joined : ((H ++ F) ++ R) ++ (B ++ Z) ≡ outer b ++ (bytes_of 2 n ++ (inner b ++ (F ++ ((R ++ B) ++ Z)))) = simp append_assoc in
    sym (take_all 4096 t3 (omega (arith, l3))) ∙ g3 ∙ joined ∙ sym after
