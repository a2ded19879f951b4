-- A page is sound exactly where it spells the bucket that it tells.
use Rattle.std.proofs.Common.{◌≡◌, ◌<◌, ◌≤◌, ◌+◌, ◌*◌, ℕ, List, length, drop, get_or, sym, ap, subst, ◌∙◌, arith}
use Rattle.grid_types.specs.declared.update.Record.{Record}
use Rattle.grid_types.specs.Keys.{key_cmp}
use Rattle.grid_types.specs.Regions.{Within}
use Rattle.page_fields.specs.Fields.{number, AreZeros}
use Rattle.page_fields.proofs.Entries.{AreBytes}
use Rattle.grid_model.specs.Spellings.{BucketOf}
use Rattle.bucket_page.specs.declared.head.Head.{Head}
use Rattle.grid_model.specs.Buckets.{IsBucket, SpellsBucket}
use Rattle.bucket_page.specs.OnPage.{numbers_at, record_at, records_at, head_told, bucket_told}
use Rattle.bucket_page.specs.Judging.{IsSoundPage}
use Rattle.bucket_page.proofs.OnPage.{bucket_stands, length-rows, row_of, told}
use Rattle.bucket_page.proofs.Standing.{lawful_as_read}
use Rattle.bucket_page.proofs.Pointwise.{AllInside, by_index}
use Rattle.bucket_page.proofs.Tables.{Ascends}
use Rattle.bucket_page.proofs.Framed.{page_spelled}
use Rattle.bucket_page.proofs.FrameThere.{frame_there}

-- the key of a record that a page tells
key_of : (K : ℕ) (page : List ℕ) (n i : ℕ) (d : Record K) → i < n → (get_or (records_at K page 96 n) i d).key.numbers ≡ numbers_at K (96 + 80 * i) page
key_of K page n i d lt = ap (λ (r : Record K). r.key.numbers) (row_of K page 96 n i d lt)

-- a sound page spells the bucket that it tells
pub spelled_by : (K capacity : ℕ) (page : List ℕ) (h : Head K) → K ≤ 4 → capacity ≤ 48 → length page ≡ 4096 → AreBytes page → h ≡ head_told K page → h.count ≤ capacity → IsSoundPage K page h → SpellsBucket capacity page (bucket_told K page)
spelled_by K capacity page h few lawful long fits e room given =
    let n = number 2 (drop 8 page) in
    let s : IsSoundPage K page (head_told K page) = subst (IsSoundPage K page) e given in
    let le : n ≤ capacity = subst (λ (g : Head K). g.count ≤ capacity) e room in
    let all : length (records_at K page 96 n) ≡ n = length-rows K page 96 n in
    let inside : AllInside (head_told K page).region (records_at K page 96 n) = λ i d lt.
    let low : i < n = omega (arith, lt, all) in
    subst (λ (k : List ℕ). Within (numbers_at K 16 page) (numbers_at K 48 page) k) (sym (key_of K page n i d low)) (s.records.each i low).inside in
    let ascending : Ascends (records_at K page 96 n) = λ i d lt.
    let low : i + 1 < n = omega (arith, lt, all) in
    let this : i < n = omega (arith, low) in
    ap (λ (k : List ℕ). key_cmp k (get_or (records_at K page 96 n) (i + 1) d).key.numbers) (key_of K page n i d this) ∙ ap (key_cmp (numbers_at K (96 + 80 * i) page)) (key_of K page n (i + 1) d low) ∙ s.records.ascending i low in
    record {
      lawful = lawful_as_read K capacity page (bucket_told K page) (bucket_stands K page fits (λ i lt. (s.records.each i lt).framed.short)) (omega (arith, all, le)) s.front.turn s.front.not_empty inside ascending;
      bytes = page_spelled K page few long fits s.front.framed (omega (arith, le, lawful)) (λ i lt. (s.records.each i lt).framed) s.records.tail;
    }

-- a page that spells a bucket is sound
pub sound_of : (K capacity : ℕ) (page : List ℕ) (b : BucketOf K) (h : Head K) → K ≤ 4 → capacity ≤ 48 → AreBytes page → h ≡ head_told K page → SpellsBucket capacity page b → (h.count ≤ capacity) × IsSoundPage K page h
sound_of K capacity page b h few lawful fits e s =
    let n = number 2 (drop 8 page) in
    let is : b ≡ bucket_told K page = told K capacity page b few lawful fits s in
    let l = by_index K capacity (bucket_told K page) (subst (IsBucket capacity) is s.lawful) in
    let all : length (records_at K page 96 n) ≡ n = length-rows K page 96 n in
    let count : length b.rows ≡ n = ap (λ (c : BucketOf K). length c.rows) is ∙ all in
    let d : Record K = record_at K page 0 in
    let f = frame_there K capacity page b few lawful s.lawful s.bytes d in
    let sound : IsSoundPage K page (head_told K page) = record {
      front = record { framed = f.head; turn = l.turn; not_empty = l.not_empty };
      records = record {
        each = λ i lt. record {
          framed = f.rows i (omega (arith, lt, count));
          inside = subst (λ (k : List ℕ). Within (numbers_at K 16 page) (numbers_at K 48 page) k) (key_of K page n i d lt) (l.inside i d (omega (arith, lt, all)));
        };
        ascending = λ i lt.
            let this : i < n = omega (arith, lt) in
            ap (λ (k : List ℕ). key_cmp k (numbers_at K (96 + 80 * (i + 1)) page)) (sym (key_of K page n i d this)) ∙ ap (key_cmp (get_or (records_at K page 96 n) i d).key.numbers) (sym (key_of K page n (i + 1) d lt)) ∙ l.ascending i d (omega (arith, lt, all));
        tail = subst (λ (m : ℕ). AreZeros (96 + 80 * m) 4096 page) count f.tail;
      };
    } in
    let le : n ≤ capacity = omega (arith, l.count, all) in
    (subst (λ (g : Head K). g.count ≤ capacity) (sym e) le, subst (IsSoundPage K page) (sym e) sound)
