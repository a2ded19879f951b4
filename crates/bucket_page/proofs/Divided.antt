-- The parts of a lawful bucket are lawful, and so are two lawful buckets that are joined.
use Rattle.std.proofs.Common.{◌≡◌, ◌<◌, ◌≤◌, ◌+◌, ◌%◌, ◌^◌, ℕ, zero, suc, Bool, true, false, List, [], ◌∷◌, map, min, length, get_or, filter, nat_lt, nat_le, slice_index, refl, sym, ap, subst, ◌∙◌, arith, IsTrue}
use Rattle.std.specs.Prelude.{T}
use Rattle.std.specs.FinMap.Entries.{where_key, is_sorted, is_sorted-where_key}
use Rattle.std.proofs.lemmas.List.Elements.{All-filter, filter_passes}
use Rattle.std.proofs.lemmas.List.{length-map}
use Rattle.std.proofs.lemmas.Bool.{or_left, or_right}
use Rattle.grid_types.specs.declared.layout_change.Cut.{Cut}
use Rattle.grid_types.specs.declared.region.Region.{Region}
use Rattle.grid_types.specs.declared.update.Record.{Record}
use Rattle.grid_types.specs.Keys.{key_cmp, IsKey}
use Rattle.grid_types.specs.Regions.{contains, IsRegion, is_within, make_a_box, hull, Within}
use Rattle.grid_types.proofs.Numbers.{both, contains-within}
use Rattle.grid_model.specs.Lone.{record_of}
use Rattle.grid_model.specs.Layouts.{BucketBox}
use Rattle.grid_model.specs.Notes.{left_of, right_of, together}
use Rattle.grid_model.specs.Tables.{IsData, pair_of, pairs_of, with_data}
use Rattle.grid_model.specs.Spellings.{BucketOf}
use Rattle.grid_model.specs.Buckets.{IsBucket}
use Rattle.grid_model.proofs.Hulls.{hull-region, hull-contains}
use Rattle.grid_model.proofs.CutRegions.{left-contains, right-contains}
use Rattle.grid_model.proofs.Divided.{pairs-of-records}
use Rattle.bucket_page.specs.Putting.{with_rows, with_record}
use Rattle.bucket_page.specs.Changing.{left_bucket, right_bucket, with_all}
use Rattle.bucket_page.proofs.Growing.{lawful_put, records_back}

-- the pairs of the records whose keys pass are the entries whose keys pass
pub pairs-filter : {K : ℕ} (p : List ℕ → Bool) (rows : List (Record K)) → pairs_of (filter (λ r. p r.key.numbers) rows) ≡ where_key key_cmp p (pairs_of rows)
pairs-filter p [] = refl
pairs-filter p (r ∷ rows) = by (p r.key.numbers) refl (pairs-filter p rows)
  where
    by : (t : Bool) → p r.key.numbers ≡ t → pairs_of (filter (λ r. p r.key.numbers) rows) ≡ where_key key_cmp p (pairs_of rows) → pairs_of (filter (λ r. p r.key.numbers) (r ∷ rows)) ≡ where_key key_cmp p (pairs_of (r ∷ rows))
    by true e h = rw (e) (ap (λ es. (r.key.numbers, r.value) ∷ es) h)
    by false e h = rw (e) h

-- the records of a lawful bucket whose keys pass are a lawful bucket of each box that has these keys
pub part-lawful : {K : ℕ} (m c : ℕ) (b : BucketOf K) (box : BucketBox K) (number : ℕ) (p : List ℕ → Bool) → IsBucket m b → number < 2 ^ 32 → box.turn < K → IsRegion K box.region
    → ((k : List ℕ) → contains b.box.region k ≡ true → p k ≡ true → contains box.region k ≡ true) → length (filter (λ r. p r.key.numbers) b.rows) ≤ c
    → IsBucket c (record { number = number; box = box; rows = filter (λ r. p r.key.numbers) b.rows })
part-lawful {K} m c b box number p h n t f has few = record {
  number = n;
  turn = t;
  region = f;
  count = few;
  ascending = subst (λ es. T (is_sorted key_cmp es)) (sym (pairs-filter p b.rows)) (is_sorted-where_key key_cmp p (pairs_of b.rows) h.ascending);
  keys = All-filter (λ r. p r.key.numbers) (λ r. IsKey K r.key.numbers) b.rows h.keys;
  inside = λ i d l. has (get_or (filter (λ r. p r.key.numbers) b.rows) i d).key.numbers
      (All-filter (λ r. p r.key.numbers) (λ r. IsTrue (contains b.box.region r.key.numbers)) b.rows h.inside i d l)
      (filter_passes (λ r. p r.key.numbers) b.rows i d l);
  values = All-filter (λ r. p r.key.numbers) (λ r. IsData r.value) b.rows h.values;
}

module _ {K : ℕ} (m c : ℕ) (b : BucketOf K) (cut : Cut) (h : IsBucket m b) (l : cut.attribute < K) (w : IsTrue (is_within b.box.region cut.attribute cut.value)) where
  -- the left part of a lawful bucket is lawful
  pub left-lawful : (left_of b.box cut).turn < K → IsRegion K (left_of b.box cut).region → length (left_bucket b cut).rows ≤ c → IsBucket c (left_bucket b cut)
  left-lawful t f few = part-lawful m c b (left_of b.box cut) b.number (λ k. nat_lt (slice_index k cut.attribute) cut.value) h h.number t f
      (λ k i p. left-contains b.box cut k h.region l w ∙ both (contains b.box.region k) (nat_lt (slice_index k cut.attribute) cut.value) i p) few

  -- the right part is lawful too
  pub right-lawful : (right : ℕ) → right < 2 ^ 32 → (right_of b.box cut).turn < K → IsRegion K (right_of b.box cut).region → length (right_bucket b cut right).rows ≤ c → IsBucket c (right_bucket b cut right)
  right-lawful right n t f few = part-lawful m c b (right_of b.box cut) right (λ k. nat_le cut.value (slice_index k cut.attribute)) h n t f
      (λ k i p. right-contains b.box cut k h.region l w ∙ both (contains b.box.region k) (nat_le cut.value (slice_index k cut.attribute)) i p) few

-- the attribute behind an attribute is one
pub next-below : (a K : ℕ) → a < K → (a + 1) % K < K
next-below a K l = omega (arith, l)

-- each record may be put into buckets of that region
record MayBePut {K : ℕ} (r : Region K) (row : Record K) : Type 0 where
  pub key : IsKey K row.key.numbers
  pub short : IsData row.value
  pub inside : Within r.lo r.hi row.key.numbers

AllMayBePut : {K : ℕ} → Region K → List (Record K) → Type 0
AllMayBePut {K} r rows = (i : ℕ) (d : Record K) → i < length rows → MayBePut r (get_or rows i d)

-- a lawful bucket into which such records are put is lawful
puts-lawful : {K : ℕ} (rows : List (Record K)) (a : ℕ) (b : BucketOf K) → AllMayBePut b.box.region rows → IsBucket a b
    → IsBucket (length (with_all (pairs_of b.rows) rows)) (with_rows b (map record_of (with_all (pairs_of b.rows) rows)))
unfolding AllMayBePut
puts-lawful {K} [] a b each h =
    let long : length b.rows ≡ length (pairs_of b.rows) = sym (length-map b.rows pair_of) in
    let exact : IsBucket (length (pairs_of b.rows)) b = record { number = h.number; turn = h.turn; region = h.region; count = omega (arith, long); ascending = h.ascending; keys = h.keys; inside = h.inside; values = h.values } in
    subst (λ rows. IsBucket (length (pairs_of b.rows)) (with_rows b rows)) (sym (records_back b.rows)) exact
puts-lawful {K} (r ∷ rows) a b each h =
    let one = each zero r (omega arith) in
    let t = with_data (pairs_of b.rows) r.key.numbers r.value in
    let back : pairs_of (with_record b r).rows ≡ t = pairs-of-records K t in
    let put : IsBucket (length t) (with_record b r) = lawful_put K a (length t) b (with_record b r) r.key.numbers r.value h refl refl refl back (omega (arith, length-map t (record_of {K = K}))) one.key one.short one.inside in
    let rest = puts-lawful rows (length t) (with_record b r) (λ i d l. each (suc i) d (omega (arith, l))) put in
    subst (λ u. IsBucket (length (with_all u rows)) (with_rows b (map record_of (with_all u rows)))) back rest

module _ {K : ℕ} (m n : ℕ) (b c : BucketOf K) (h : IsBucket m b) (g : IsBucket n c) (box : make_a_box b.box.region c.box.region ≡ true) where
  whole : Region K
  whole = hull b.box.region c.box.region

  -- the first of the two with the region of both
  widened : IsBucket m (record { number = min b.number c.number; box = together b.box c.box; rows = b.rows })
  widened = record {
    number = omega (arith, h.number, g.number);
    turn = h.turn;
    region = hull-region b.box.region c.box.region h.region g.region;
    count = h.count;
    ascending = h.ascending;
    keys = h.keys;
    inside = λ i d l. hull-contains b.box.region c.box.region (get_or b.rows i d).key.numbers h.region g.region box ∙ or_left (contains b.box.region (get_or b.rows i d).key.numbers) (contains c.box.region (get_or b.rows i d).key.numbers) (h.inside i d l);
    values = h.values;
  }

  others : AllMayBePut (hull b.box.region c.box.region) c.rows
  unfolding AllMayBePut
  others i d l =
      let k = (get_or c.rows i d).key.numbers in
      let region = hull-region b.box.region c.box.region h.region g.region in
      let inside : contains (hull b.box.region c.box.region) k ≡ true = hull-contains b.box.region c.box.region k h.region g.region box ∙ or_right (contains b.box.region k) (contains c.box.region k) (g.inside i d l) in
      record {
        key = g.keys i d l;
        short = g.values i d l;
        inside = (contains-within (hull b.box.region c.box.region).lo (hull b.box.region c.box.region).hi k (region.low.count ∙ sym (g.keys i d l).count) ((g.keys i d l).count ∙ sym region.high.count)).0 inside;
      }

  -- two lawful buckets whose regions are a box together are a lawful bucket when they are joined
  pub joined-lawful : (rows : List (Record K)) (most : ℕ) → pairs_of rows ≡ with_all (pairs_of b.rows) c.rows → length rows ≤ most
      → IsBucket most (record { number = min b.number c.number; box = together b.box c.box; rows = rows })
  joined-lawful rows most is few =
      let all = with_all (pairs_of b.rows) c.rows in
      let put = puts-lawful c.rows m (record { number = min b.number c.number; box = together b.box c.box; rows = b.rows }) others widened in
      let same : map record_of all ≡ rows = ap (map record_of) (sym is) ∙ records_back rows in
      let made : IsBucket (length all) (record { number = min b.number c.number; box = together b.box c.box; rows = rows }) =
      subst (λ rs. IsBucket (length all) (record { number = min b.number c.number; box = together b.box c.box; rows = rs })) same put in
      record { number = made.number; turn = made.turn; region = made.region; count = few; ascending = made.ascending; keys = made.keys; inside = made.inside; values = made.values }
