-- A page whose parts are framed is the spelling of the bucket that it tells.
use Rattle.std.proofs.Common.{◌≡◌, ◌<◌, ◌≤◌, ◌+◌, ◌-◌, ◌*◌, ℕ, zero, suc, List, ◌∷◌, ◌++◌, length, drop, slice_index, replicate, refl, sym, ap, subst, ◌∙◌, append_assoc, length-append, arith, codes}
use Rattle.std.specs.List.{flat_map}
use Rattle.std.proofs.lemmas.List.{take-append-drop, drop-drop, drop_more, length-take-le, length-drop}
use Rattle.grid_types.specs.declared.update.Record.{Record}
use Rattle.page_fields.specs.Fields.{number, bytes_of, AreZeros}
use Rattle.page_fields.specs.Padded.{padded, numbers}
use Rattle.page_fields.proofs.BytesOf.{padded_is}
use Rattle.page_fields.proofs.Entries.{AreBytes, number_is, entries_in, entries_are, length-entries, length-entries_in}
use Rattle.page_fields.proofs.ZeroParts.{zeros_are, zeros_to_end}
use Rattle.grid_model.specs.Spellings.{record_bytes, bucket_head, bucket_spelling}
use Rattle.bucket_page.specs.OnPage.{numbers_at, data_at, record_at, records_at, bucket_told}
use Rattle.bucket_page.specs.Judging.{IsHeadFramed, IsRecordFramed}
use Rattle.bucket_page.proofs.OnPage.{numbers_are, length-rows}

-- a corner with zeros behind it is spelled
corner_spelled : (K at next : ℕ) (page : List ℕ) → K ≤ 4 → next ≡ at + 32 → next ≤ length page → AreBytes page → AreZeros (at + 8 * K) next page → drop at page ≡ padded 32 (numbers 8 (numbers_at K at page)) ++ drop next page
unfolding numbers
corner_spelled K at next page few is le fits zeros =
    let xs = entries_in 8 at K page in
    let flat = flat_map (bytes_of 8) xs in
    let long : length flat ≡ 8 * K = length-entries 8 xs ∙ ap (λ (n : ℕ). 8 * n) (length-entries_in 8 at K page) in
    let zs : List ℕ = replicate (next - (at + 8 * K)) 0 in
    let tail : drop (at + 8 * K) page ≡ zs ++ drop next page = zeros_are (at + 8 * K) next page (omega (arith, few, is)) le zeros in
    let filled : flat ++ zs ≡ padded 32 flat = padded_is 32 (next - (at + 8 * K)) flat (omega (arith, long, is)) in
    entries_are 8 at K page (omega (arith, few, is, le)) fits
    ∙ ap (λ (r : List ℕ). flat ++ r) tail
    ∙ sym (append_assoc flat zs (drop next page))
    ∙ ap (λ (f : List ℕ). f ++ drop next page) filled
    ∙ ap (λ (ns : List ℕ). padded 32 (flat_map (bytes_of 8) ns) ++ drop next page) (sym (numbers_are K at page))

-- a record with zeros behind its key and its data is spelled
row_spelled : (K at : ℕ) (page : List ℕ) → K ≤ 4 → at + 80 ≤ length page → AreBytes page → IsRecordFramed K page at → drop at page ≡ record_bytes (record_at K page at) ++ drop (at + 80) page
unfolding record_bytes
row_spelled K at page few le fits framed =
    let n = slice_index page (at + 32) in
    let v = data_at page at in
    let rest = drop (at + 80) page in
    let zs : List ℕ = replicate (at + 80 - (at + 33 + n)) 0 in
    let short : n ≤ 40 = framed.short in
    let key = padded 32 (numbers 8 (numbers_at K at page)) in
    let first : drop at page ≡ key ++ drop (at + 32) page = corner_spelled K at (at + 32) page few refl (omega (arith, le)) fits framed.behind_key in
    let one : at + 32 + 1 ≡ at + 33 = omega arith in
    let second : drop (at + 32) page ≡ n ∷ drop (at + 33) page = drop_more page (at + 32) 0 (omega (arith, le)) ∙ ap (λ (k : ℕ). n ∷ drop k page) one in
    let third : drop (at + 33) page ≡ v ++ drop (at + 33 + n) page = sym (take-append-drop n (drop (at + 33) page)) ∙ ap (λ (r : List ℕ). v ++ r) (drop-drop n (at + 33) page) in
    let fourth : drop (at + 33 + n) page ≡ zs ++ rest = zeros_are (at + 33 + n) (at + 80) page (omega (arith, short)) le framed.behind_data in
    let room : length (drop (at + 33) page) ≡ length page - (at + 33) = length-drop (at + 33) page in
    let size : length v ≡ n = length-take-le n (drop (at + 33) page) (omega (arith, room, short, le)) in
    let filled : v ++ zs ≡ padded 47 v = padded_is 47 (at + 80 - (at + 33 + n)) v (omega (arith, size)) in
    let value : drop (at + 33) page ≡ padded 47 v ++ rest = third ∙ ap (λ (r : List ℕ). v ++ r) fourth ∙ sym (append_assoc v zs rest) ∙ ap (λ (f : List ℕ). f ++ rest) filled in
    first ∙ ap (λ (r : List ℕ). key ++ r) (second ∙ ap (λ (r : List ℕ). n ∷ r) value ∙ ap (λ (k : ℕ). k ∷ (padded 47 v ++ rest)) (sym size)) ∙ sym (append_assoc key (length v ∷ padded 47 v) rest)

-- so many framed records are spelled
rows_spelled : (K at n : ℕ) (page : List ℕ) → K ≤ 4 → at + 80 * n ≤ length page → AreBytes page → ((i : ℕ) → i < n → IsRecordFramed K page (at + 80 * i))
    → drop at page ≡ flat_map record_bytes (records_at K page at n) ++ drop (at + 80 * n) page
rows_spelled K at zero page few le fits framed = ap (λ (k : ℕ). drop k page) (omega arith)
rows_spelled K at (suc n) page few le fits framed =
    let split : at + 80 + 80 * n ≡ at + 80 * suc n = omega arith in
    let moved : (i : ℕ) → i < n → IsRecordFramed K page (at + 80 + 80 * i) = λ i lt. subst (IsRecordFramed K page) (omega arith) (framed (suc i) (omega (arith, lt))) in
    let here : IsRecordFramed K page at = subst (IsRecordFramed K page) (omega arith) (framed zero (omega arith)) in
    let next = rows_spelled K (at + 80) n page few (omega (arith, le)) fits moved in
    let r : Record K = record_at K page at in
    row_spelled K at page few (omega (arith, le)) fits here
    ∙ ap (λ (rest : List ℕ). record_bytes r ++ rest) (next ∙ ap (λ (k : ℕ). flat_map record_bytes (records_at K page (at + 80) n) ++ drop k page) split)
    ∙ sym (append_assoc (record_bytes r) (flat_map record_bytes (records_at K page (at + 80) n)) (drop (at + 80 * suc n) page))

-- the first 96 bytes of a framed page are the head of the bucket that it tells
head_spelled : (K : ℕ) (page : List ℕ) → K ≤ 4 → 96 ≤ length page → AreBytes page → IsHeadFramed K page → page ≡ bucket_head (bucket_told K page) ++ drop 96 page
unfolding bucket_head
head_spelled K page few le fits framed =
    let body = drop 96 page in
    let lo = padded 32 (numbers 8 (numbers_at K 16 page)) in
    let hi = padded 32 (numbers 8 (numbers_at K 48 page)) in
    let turn = slice_index page 10 in
    let at80 : drop 80 page ≡ replicate 16 0 ++ body = zeros_are 80 96 page (omega arith) le (λ i low high. framed.behind_hi i (omega (arith, few, low)) high) in
    let at48 : drop 48 page ≡ hi ++ drop 80 page = corner_spelled K 48 80 page few refl (omega (arith, le)) fits (λ i low high. framed.behind_hi i low (omega (arith, high))) in
    let at16 : drop 16 page ≡ lo ++ drop 48 page = corner_spelled K 16 48 page few refl (omega (arith, le)) fits framed.behind_lo in
    let at12 : drop 12 page ≡ 0 ∷ 0 ∷ 0 ∷ 0 ∷ drop 16 page = zeros_are 12 16 page (omega arith) (omega (arith, le)) framed.gap in
    let at11 : drop 11 page ≡ K ∷ drop 12 page = drop_more page 11 0 (omega (arith, le)) ∙ ap (λ (k : ℕ). k ∷ drop 12 page) framed.arity in
    let at10 : drop 10 page ≡ turn ∷ drop 11 page = drop_more page 10 0 (omega (arith, le)) in
    let at8 : drop 8 page ≡ bytes_of 2 (number 2 (drop 8 page)) ++ drop 10 page = number_is 2 8 10 page (omega (arith, le)) fits refl in
    let at4 : drop 4 page ≡ bytes_of 4 (number 4 (drop 4 page)) ++ drop 8 page = number_is 4 4 8 page (omega (arith, le)) fits refl in
    let at0 : page ≡ codes "GFB1" ++ drop 4 page = sym (take-append-drop 4 page) ∙ ap (λ (k : List ℕ). k ++ drop 4 page) framed.kind in
    let n4 = bytes_of 4 (number 4 (drop 4 page)) in
    let n2 = bytes_of 2 (number 2 (drop 8 page)) in
    let from10 : drop 10 page ≡ turn ∷ K ∷ 0 ∷ 0 ∷ 0 ∷ 0 ∷ (lo ++ (hi ++ (replicate 16 0 ++ body))) =
    at10 ∙ ap (λ (r : List ℕ). turn ∷ r) (at11 ∙ ap (λ (r : List ℕ). K ∷ r) (at12 ∙ ap (λ (r : List ℕ). 0 ∷ 0 ∷ 0 ∷ 0 ∷ r) (at16 ∙ ap (λ (r : List ℕ). lo ++ r) (at48 ∙ ap (λ (r : List ℕ). hi ++ r) at80)))) in
    let fields : page ≡ codes "GFB1" ++ (n4 ++ (n2 ++ (turn ∷ K ∷ 0 ∷ 0 ∷ 0 ∷ 0 ∷ (lo ++ (hi ++ (replicate 16 0 ++ body)))))) =
    at0 ∙ ap (λ (r : List ℕ). codes "GFB1" ++ r) (at4 ∙ ap (λ (r : List ℕ). n4 ++ r) (at8 ∙ ap (λ (r : List ℕ). n2 ++ r) from10)) in
    let joined : (codes "GFB1" ++ (n4 ++ (n2 ++ (turn ∷ K ∷ 0 ∷ 0 ∷ 0 ∷ 0 ∷ (lo ++ (hi ++ replicate 16 0)))))) ++ body
    ≡ codes "GFB1" ++ (n4 ++ (n2 ++ (turn ∷ K ∷ 0 ∷ 0 ∷ 0 ∷ 0 ∷ (lo ++ (hi ++ (replicate 16 0 ++ body)))))) = simp append_assoc in
    let size : bytes_of 2 (length (bucket_told K page).rows) ≡ n2 = ap (bytes_of 2) (length-rows K page 96 (number 2 (drop 8 page))) in
    fields ∙ sym joined ∙ ap (λ (c : List ℕ). (codes "GFB1" ++ (n4 ++ (c ++ (turn ∷ K ∷ 0 ∷ 0 ∷ 0 ∷ 0 ∷ (lo ++ (hi ++ replicate 16 0)))))) ++ body) (sym size)

-- a framed page is the spelling of what it tells
pub page_spelled : (K : ℕ) (page : List ℕ) → K ≤ 4 → length page ≡ 4096 → AreBytes page → IsHeadFramed K page → number 2 (drop 8 page) ≤ 48
    → ((i : ℕ) → i < number 2 (drop 8 page) → IsRecordFramed K page (96 + 80 * i)) → AreZeros (96 + 80 * number 2 (drop 8 page)) 4096 page → page ≡ bucket_spelling (bucket_told K page)
unfolding bucket_spelling
page_spelled K page few long fits framed le rows zeros =
    let count = number 2 (drop 8 page) in
    let flat = flat_map record_bytes (records_at K page 96 count) in
    let zs : List ℕ = replicate (4096 - (96 + 80 * count)) 0 in
    let body : drop 96 page ≡ flat ++ drop (96 + 80 * count) page = rows_spelled K 96 count page few (omega (arith, le, long)) fits rows in
    let tail : drop (96 + 80 * count) page ≡ zs = zeros_to_end (96 + 80 * count) 4096 page (omega (arith, le)) long zeros in
    let size : length flat + length (drop (96 + 80 * count) page) ≡ 4000 = sym (length-append flat (drop (96 + 80 * count) page)) ∙ sym (ap length body) ∙ length-drop 96 page ∙ omega (arith, long) in
    let left : length (drop (96 + 80 * count) page) ≡ length page - (96 + 80 * count) = length-drop (96 + 80 * count) page in
    let filled : flat ++ zs ≡ padded 4000 flat = padded_is 4000 (4096 - (96 + 80 * count)) flat (omega (arith, size, left, long, le)) in
    head_spelled K page few (omega (arith, long)) fits framed
    ∙ ap (λ (r : List ℕ). bucket_head (bucket_told K page) ++ r) (body ∙ ap (λ (r : List ℕ). flat ++ r) tail ∙ filled)
