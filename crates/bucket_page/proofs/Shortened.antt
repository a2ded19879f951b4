-- The page of a bucket without one of its records, made of parts of the bucket's page; and what its table is then.
use Rattle.std.proofs.Common.{◌≡◌, ◌<◌, ◌≤◌, ◌+◌, ◌-◌, ◌*◌, ℕ, suc, List, ◌∷◌, ◌++◌, length, take, drop, get_or, replicate, refl, sym, ap, ◌∙◌, append_assoc, length-append, arith}
use Rattle.std.specs.List.{flat_map, remove}
use Rattle.std.proofs.lemmas.List.{take-append-drop, take_at, take_all, drop_more, length-drop, length-take-le, replicate-append-replicate}
use Rattle.std.proofs.lemmas.Grind.{flat_map-append}
use Rattle.grid_types.specs.declared.update.Record.{Record}
use Rattle.page_fields.specs.Fields.{bytes_of}
use Rattle.page_fields.proofs.BytesOf.{length-bytes_of}
use Rattle.page_fields.proofs.Places.{behind}
use Rattle.grid_model.specs.Spellings.{BucketOf, record_bytes, bucket_spelling}
use Rattle.grid_model.specs.Buckets.{IsBucket, SpellsBucket}
use Rattle.bucket_page.specs.Putting.{with_rows}
use Rattle.bucket_page.specs.Search.{HasRecordAt}
use Rattle.bucket_page.specs.Changing.{without_key}
use Rattle.bucket_page.proofs.Pointwise.{by_index}
use Rattle.bucket_page.proofs.Standing.{length_row}
use Rattle.bucket_page.proofs.Composed.{in_parts, outer, inner, length-outer, length-inner, front_long, back_long}
use Rattle.bucket_page.proofs.Without.{rows-without, without-lawful}

seven-in-a-row : (A n I F B Z R : List ℕ) → (((A ++ n) ++ (I ++ F)) ++ (B ++ Z)) ++ R ≡ A ++ (n ++ (I ++ (F ++ (B ++ (Z ++ R)))))
seven-in-a-row A n I F B Z R = simp append_assoc

-- the page that is made of these parts is the spelling of the bucket without the record at the index
pub removed : (K c n at start : ℕ) (b : BucketOf K) (d : Record K) (page t0 t1 t2 t3 t4 t5 : List ℕ) → K ≤ 4 → IsBucket c b → page ≡ bucket_spelling b → length b.rows ≡ n → n ≤ 48 → at < n → start ≡ 96 + 80 * at → length t5 ≡ 4096
    → take 8 t1 ≡ take 0 t0 ++ take 8 page → take 10 t2 ≡ take 8 t1 ++ bytes_of 2 (n - 1) → take start t3 ≡ take 10 t2 ++ take (start - 10) (drop 10 page) → take 4016 t4 ≡ take start t3 ++ drop (start + 80) page → take 4096 t5 ≡ take 4016 t4 ++ replicate 80 0
    → t5 ≡ bucket_spelling (with_rows b (remove b.rows at))
unfolding outer inner
removed K c n at start b d page t0 t1 t2 t3 t4 t5 few whole e count most low is long f1 f2 f3 f4 f5 =
    let fits = by_index K c b whole in
    let rows = b.rows in
    let lt : at < length rows = omega (arith, count, low) in
    let x : Record K = get_or rows at d in
    let F = flat_map record_bytes (take at rows) in
    let X = record_bytes x in
    let B = flat_map record_bytes (drop (suc at) rows) in
    let flat = flat_map record_bytes rows in
    let more = remove rows at in
    let m : ℕ = 4000 - length flat in
    let Z : List ℕ = replicate m 0 in
    let A = outer b in
    let C = bytes_of 2 n in
    let new = bytes_of 2 (n - 1) in
    let I = inner b in
    let next : at + 1 ≡ suc at = omega arith in
    let split : rows ≡ take at rows ++ (x ∷ drop (suc at) rows) = sym (take-append-drop at rows) ∙ ap (λ (ys : List (Record K)). take at rows ++ ys) (drop_more rows at d lt ∙ ap (λ (k : ℕ). x ∷ drop k rows) next) in
    let parts : flat ≡ F ++ (X ++ B) = ap (flat_map record_bytes) split ∙ flat_map-append record_bytes (take at rows) (x ∷ drop (suc at) rows) in
    let lf : length F ≡ 80 * at = front_long K rows at few (omega (arith, lt)) fits.rows in
    let lx : length X ≡ 80 = length_row x few (fits.rows at d lt) in
    let lb : length B ≡ 80 * (length rows - suc at) = back_long K rows (suc at) few (omega (arith, lt)) fits.rows in
    let li : length I ≡ 86 = length-inner K b c few whole in
    let size : length flat ≡ 80 * n = ap length parts ∙ length-append F (X ++ B) ∙ omega (arith, lf, lx, lb, length-append X B, count, low) in
    let before : page ≡ A ++ (C ++ (I ++ (F ++ ((X ++ B) ++ Z)))) = e ∙ in_parts b flat F (X ++ B) n m refl parts (sym count) refl in
    let p1 : take 8 page ≡ A = ap (take 8) before ∙ take_at A (C ++ (I ++ (F ++ ((X ++ B) ++ Z)))) 8 (length-outer b) in
    let d10 : drop 10 page ≡ I ++ (F ++ ((X ++ B) ++ Z)) = behind 8 2 10 page C (I ++ (F ++ ((X ++ B) ++ Z))) (behind 0 8 8 page A (C ++ (I ++ (F ++ ((X ++ B) ++ Z)))) before (length-outer b) refl) (length-bytes_of 2 n) refl in
    let joined : drop 10 page ≡ (I ++ F) ++ ((X ++ B) ++ Z) = d10 ∙ sym (append_assoc I F ((X ++ B) ++ Z)) in
    let head : length (I ++ F) ≡ 86 + length F = length-append I F ∙ omega (arith, li) in
    let p3 : take (start - 10) (drop 10 page) ≡ I ++ F = ap (take (start - 10)) joined ∙ take_at (I ++ F) ((X ++ B) ++ Z) (start - 10) (omega (arith, head, is, lf)) in
    let ds : drop start page ≡ X ++ (B ++ Z) = behind 10 (86 + length F) start page (I ++ F) ((X ++ B) ++ Z) joined head (omega (arith, is, lf)) ∙ append_assoc X B Z in
    let p4 : drop (start + 80) page ≡ B ++ Z = behind start 80 (start + 80) page X (B ++ Z) ds lx refl in
    let g1 : take 8 t1 ≡ A = f1 ∙ p1 in
    let g2 : take 10 t2 ≡ A ++ new = f2 ∙ ap (λ (ys : List ℕ). ys ++ new) g1 in
    let g3 : take start t3 ≡ (A ++ new) ++ (I ++ F) = f3 ∙ ap (λ (ys : List ℕ). ys ++ take (start - 10) (drop 10 page)) g2 ∙ ap (λ (ys : List ℕ). (A ++ new) ++ ys) p3 in
    let g4 : take 4016 t4 ≡ ((A ++ new) ++ (I ++ F)) ++ (B ++ Z) = f4 ∙ ap (λ (ys : List ℕ). ys ++ drop (start + 80) page) g3 ∙ ap (λ (ys : List ℕ). ((A ++ new) ++ (I ++ F)) ++ ys) p4 in
    let g5 : take 4096 t5 ≡ (((A ++ new) ++ (I ++ F)) ++ (B ++ Z)) ++ replicate 80 0 = f5 ∙ ap (λ (ys : List ℕ). ys ++ replicate 80 0) g4 in
    let flattened : (((A ++ new) ++ (I ++ F)) ++ (B ++ Z)) ++ replicate 80 0 ≡ A ++ (new ++ (I ++ (F ++ (B ++ (Z ++ replicate 80 0))))) = seven-in-a-row A new I F B Z (replicate 80 0) in
    let zeros : Z ++ replicate 80 0 ≡ replicate (m + 80) 0 = replicate-append-replicate m 80 0 in
    let parts_more : flat_map record_bytes more ≡ F ++ B = flat_map-append record_bytes (take at rows) (drop (suc at) rows) in
    let size_more : length (flat_map record_bytes more) + 80 ≡ 80 * n = omega (arith, ap length parts_more, length-append F B, lf, lb, count, low) in
    let count_more : n - 1 ≡ length more = sym (length-append (take at rows) (drop (suc at) rows) ∙ omega (arith, length-take-le at rows (omega (arith, lt)), length-drop (suc at) rows, count, low)) in
    let after : bucket_spelling (with_rows b more) ≡ A ++ (new ++ (I ++ (F ++ (B ++ replicate (m + 80) 0)))) =
    in_parts (with_rows b more) (flat_map record_bytes more) F B (n - 1) (m + 80) refl parts_more count_more (omega (arith, size, size_more, most)) in
    sym (take_all 4096 t5 (omega (arith, long))) ∙ g5 ∙ flattened ∙ ap (λ (ys : List ℕ). A ++ (new ++ (I ++ (F ++ (B ++ ys))))) zeros ∙ sym after

-- a lawful bucket without the record that has a key is lawful, and is the bucket without the key
pub shortened : (K m : ℕ) (b : BucketOf K) (k page : List ℕ) (at : ℕ) → IsBucket m b → page ≡ bucket_spelling (with_rows b (remove b.rows at)) → HasRecordAt b.rows k at → SpellsBucket m page (without_key b k)
shortened K m b k page at h bytes there =
    record { lawful = without-lawful m b k h; bytes = bytes ∙ ap (λ rows. bucket_spelling (with_rows b rows)) (rows-without k b.rows at h.ascending there) }
