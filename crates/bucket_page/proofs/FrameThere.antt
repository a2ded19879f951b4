-- A page that spells a bucket is framed.
use Rattle.std.proofs.Common.{◌≡◌, ◌<◌, ◌≤◌, ◌+◌, ◌-◌, ◌*◌, ℕ, zero, suc, List, [], ◌∷◌, ◌++◌, length, take, drop, get_or, slice_index, replicate, refl, sym, ap, ◌∙◌, append_assoc, length-append, arith, codes}
use Rattle.std.specs.List.{flat_map}
use Rattle.std.proofs.lemmas.List.{drop-drop, append-nil, take_at}
use Rattle.grid_types.specs.declared.update.Record.{Record}
use Rattle.page_fields.specs.Fields.{bytes_of, AreZeros}
use Rattle.page_fields.specs.Padded.{padded, numbers}
use Rattle.page_fields.proofs.BytesOf.{length-bytes_of, length-numbers}
use Rattle.page_fields.proofs.Places.{behind, byte_there, part_at}
use Rattle.page_fields.proofs.ZeroParts.{zeros_spelled}
use Rattle.grid_model.proofs.Corners.{length-key}
use Rattle.grid_model.specs.Spellings.{BucketOf, record_bytes, bucket_head, bucket_spelling}
use Rattle.grid_model.specs.Buckets.{IsBucket}
use Rattle.bucket_page.specs.Judging.{IsHeadFramed, IsRecordFramed}
use Rattle.page_fields.proofs.ZeroWords.{covered}
use Rattle.bucket_page.proofs.Standing.{length_row}
use Rattle.bucket_page.proofs.Pointwise.{IsRow, by_index}

-- zeros stand behind a corner that is spelled
behind_corner : (K at next : ℕ) (page xs r : List ℕ) → drop at page ≡ padded 32 (numbers 8 xs) ++ r → length xs ≡ K → K ≤ 4 → next ≡ at + 32 → AreZeros (at + 8 * K) next page
unfolding padded
behind_corner K at next page xs r e count few is =
    let zs : List ℕ = replicate (32 - length (numbers 8 xs)) 0 in
    let size : length (numbers 8 xs) ≡ 8 * K = length-numbers 8 xs ∙ ap (λ (n : ℕ). 8 * n) count in
    let tail : drop (at + 8 * K) page ≡ zs ++ r = behind at (8 * K) (at + 8 * K) page (numbers 8 xs) (zs ++ r) (e ∙ append_assoc (numbers 8 xs) zs r) size refl in
    zeros_spelled (at + 8 * K) next (32 - length (numbers 8 xs)) page r tail (omega (arith, size, is, few))

-- a record that is spelled is framed
row_framed : (K at : ℕ) (page rest : List ℕ) (r : Record K) → K ≤ 4 → IsRow K r → drop at page ≡ record_bytes r ++ rest → IsRecordFramed K page at
unfolding record_bytes padded
row_framed K at page rest r few fits e =
    let key = padded 32 (numbers 8 r.key.numbers) in
    let zs : List ℕ = replicate (47 - length r.value) 0 in
    let first : drop at page ≡ key ++ (length r.value ∷ (padded 47 r.value ++ rest)) = e ∙ append_assoc key (length r.value ∷ padded 47 r.value) rest in
    let second : drop (at + 32) page ≡ length r.value ∷ (padded 47 r.value ++ rest) = behind at 32 (at + 32) page key (length r.value ∷ (padded 47 r.value ++ rest)) first (length-key K r.key.numbers few fits.key) refl in
    let third : drop (at + 33) page ≡ padded 47 r.value ++ rest = behind (at + 32) 1 (at + 33) page (length r.value ∷ []) (padded 47 r.value ++ rest) second refl (omega arith) in
    let size : slice_index page (at + 32) ≡ length r.value = byte_there (at + 32) page (length r.value) (padded 47 r.value ++ rest) second in
    let tail : drop (at + 33 + slice_index page (at + 32)) page ≡ zs ++ rest =
    behind (at + 33) (length r.value) (at + 33 + slice_index page (at + 32)) page r.value (zs ++ rest) (third ∙ append_assoc r.value zs rest) refl (omega (arith, size)) in
    let short : length r.value ≤ 40 = fits.short in
    record {
      short = omega (arith, size, short);
      behind_key = behind_corner K at (at + 32) page r.key.numbers (length r.value ∷ (padded 47 r.value ++ rest)) first fits.key.count few refl;
      behind_data = zeros_spelled (at + 33 + slice_index page (at + 32)) (at + 80) (47 - length r.value) page rest tail (omega (arith, size, short));
    }

pub length-rows_spelled : {K : ℕ} (rows : List (Record K)) → K ≤ 4 → ((i : ℕ) (d : Record K) → i < length rows → IsRow K (get_or rows i d)) → length (flat_map record_bytes rows) ≡ 80 * length rows
length-rows_spelled [] few fits = refl
length-rows_spelled (r ∷ rows) few fits =
    length-append (record_bytes r) (flat_map record_bytes rows) ∙ omega (arith, length_row r few (fits zero r (omega arith)), length-rows_spelled rows few (λ i d h. fits (suc i) d (omega (arith, h))))

-- what stands around the fields of a page that spells a bucket
pub record Frame (K count : ℕ) (page : List ℕ) : Type 0 where
  pub head : IsHeadFramed K page
  pub rows : (i : ℕ) → i < count → IsRecordFramed K page (96 + 80 * i)
  pub tail : AreZeros (96 + 80 * count) 4096 page

-- a page that spells a bucket has this around its fields
pub frame_there : (K capacity : ℕ) (page : List ℕ) (b : BucketOf K) → K ≤ 4 → capacity ≤ 48 → IsBucket capacity b → page ≡ bucket_spelling b → Record K → Frame K (length b.rows) page
unfolding padded bucket_spelling bucket_head
frame_there K capacity page b few lawful whole e d =
    let fits = by_index K capacity b whole in
    let lo = padded 32 (numbers 8 b.box.region.lo) in
    let hi = padded 32 (numbers 8 b.box.region.hi) in
    let flat = flat_map record_bytes b.rows in
    let zs : List ℕ = replicate (4000 - length flat) 0 in
    let tail = replicate 16 0 ++ padded 4000 flat in
    let after4 = bytes_of 4 b.number ++ (bytes_of 2 (length b.rows) ++ (b.box.turn ∷ K ∷ 0 ∷ 0 ∷ 0 ∷ 0 ∷ (lo ++ (hi ++ tail)))) in
    let at0 : page ≡ codes "GFB1" ++ after4 = e ∙ simp append_assoc in
    let at4 : drop 4 page ≡ after4 = behind 0 4 4 page (codes "GFB1") after4 at0 refl refl in
    let at8 : drop 8 page ≡ bytes_of 2 (length b.rows) ++ (b.box.turn ∷ K ∷ 0 ∷ 0 ∷ 0 ∷ 0 ∷ (lo ++ (hi ++ tail))) = behind 4 4 8 page (bytes_of 4 b.number) _ at4 (length-bytes_of 4 b.number) refl in
    let at10 : drop 10 page ≡ b.box.turn ∷ K ∷ 0 ∷ 0 ∷ 0 ∷ 0 ∷ (lo ++ (hi ++ tail)) = behind 8 2 10 page (bytes_of 2 (length b.rows)) _ at8 (length-bytes_of 2 (length b.rows)) refl in
    let at11 : drop 11 page ≡ K ∷ 0 ∷ 0 ∷ 0 ∷ 0 ∷ (lo ++ (hi ++ tail)) = behind 10 1 11 page (b.box.turn ∷ []) _ at10 refl refl in
    let at12 : drop 12 page ≡ replicate 4 0 ++ (lo ++ (hi ++ tail)) = behind 11 1 12 page (K ∷ []) _ at11 refl refl in
    let at16 : drop 16 page ≡ lo ++ (hi ++ tail) = behind 12 4 16 page (replicate 4 0) (lo ++ (hi ++ tail)) at12 refl refl in
    let at48 : drop 48 page ≡ hi ++ tail = behind 16 32 48 page lo (hi ++ tail) at16 (length-key K b.box.region.lo few fits.lo) refl in
    let at80 : drop 80 page ≡ tail = behind 48 32 80 page hi tail at48 (length-key K b.box.region.hi few fits.hi) refl in
    let at96 : drop 96 page ≡ flat ++ zs = behind 80 16 96 page (replicate 16 0) (padded 4000 flat) at80 refl refl in
    let size : length flat ≡ 80 * length b.rows = length-rows_spelled b.rows few fits.rows in
    let end : drop (96 + 80 * length b.rows) page ≡ zs ++ [] = behind 96 (80 * length b.rows) (96 + 80 * length b.rows) page flat (zs ++ []) (at96 ∙ ap (λ (z : List ℕ). flat ++ z) (sym (append-nil zs))) size refl in
    record {
      head = record {
        kind = ap (take 4) at0 ∙ take_at (codes "GFB1") after4 4 refl;
        arity = byte_there 11 page K _ at11;
        gap = zeros_spelled 12 16 4 page (lo ++ (hi ++ tail)) at12 (omega arith);
        behind_lo = behind_corner K 16 48 page b.box.region.lo (hi ++ tail) at16 fits.lo.count few refl;
        behind_hi = covered (48 + 8 * K) 80 96 80 page (omega arith) (behind_corner K 48 80 page b.box.region.hi tail at48 fits.hi.count few refl) (zeros_spelled 80 96 16 page (padded 4000 flat) at80 (omega arith));
      };
      rows = λ i lt.
          let p = part_at record_bytes 80 b.rows zs i d (λ k h. length_row (get_or b.rows k d) few (fits.rows k d h)) lt in
          row_framed K (96 + 80 * i) page p.0 (get_or b.rows i d) few (fits.rows i d lt) (sym (drop-drop (80 * i) 96 page) ∙ ap (drop (80 * i)) at96 ∙ p.1);
      tail = zeros_spelled (96 + 80 * length b.rows) 4096 (4000 - length flat) page [] end (omega (arith, size));
    }
