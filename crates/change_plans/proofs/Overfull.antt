-- A bucket with one record too many: its keys, and how many records its parts have.
use Rattle.std.proofs.Common.{◌≡◌, ◌<◌, ◌≤◌, ◌+◌, ℕ, Bool, true, false, cond, not, List, [], ◌∷◌, map, filter, length, slice_index, nat_lt, nat_le, IsTrue, refl, ap, ◌∙◌, arith, ltb-true}
use Rattle.std.proofs.lemmas.Bool.{lt-leb, le-leb, ltb-false}
use Rattle.std.proofs.lemmas.List.{length-map}
use Rattle.std.proofs.lemmas.List.Filters.{length-filter_both}
use Rattle.grid_types.specs.declared.update.Record.{Record}
use Rattle.grid_types.proofs.Numbers.{first, second}
use Rattle.grid_model.specs.Buckets.{IsBucket}
use Rattle.grid_model.specs.Cuts.{divides, left_part, right_part}
use Rattle.grid_model.specs.Lone.{record_of}
use Rattle.grid_model.specs.Spellings.{BucketOf}
use Rattle.grid_model.specs.Tables.{Table}
use Rattle.split_policy.specs.Rows.{keys_of}
use Rattle.bucket_page.specs.declared.parting.Part.TheVariants.{Left, Right}
use Rattle.bucket_page.specs.Changing.{rows_in}

-- a bucket that is lawful is so at each higher capacity
pub roomier : {K : ℕ} (c d : ℕ) (b : BucketOf K) → IsBucket c b → c ≤ d → IsBucket d b
roomier c d b h le = record { number = h.number; turn = h.turn; region = h.region; count = omega (arith, h.count, le); ascending = h.ascending; keys = h.keys; inside = h.inside; values = h.values }

-- the keys of the records of a table are the table's
pub keys-of-records : (K : ℕ) (t : Table) → keys_of (map (record_of {K = K}) t) ≡ map (λ e. e.0) t
keys-of-records K [] = refl
keys-of-records K (e ∷ t) = ap (λ ks. e.0 ∷ ks) (keys-of-records K t)

-- the keys that pass are those of the records whose keys pass
keys-passing : {K : ℕ} (p : List ℕ → Bool) (rows : List (Record K)) → filter p (keys_of rows) ≡ keys_of (filter (λ r. p r.key.numbers) rows)
keys-passing p [] = refl
keys-passing {K} p (r ∷ rows) = by (p r.key.numbers) (keys-passing p rows)
  where
    by : (b : Bool) → filter p (keys_of rows) ≡ keys_of (filter (λ (x : Record K). p x.key.numbers) rows)
        → cond b (r.key.numbers ∷ filter p (keys_of rows)) (filter p (keys_of rows)) ≡ keys_of (cond b (r ∷ filter (λ (x : Record K). p x.key.numbers) rows) (filter (λ (x : Record K). p x.key.numbers) rows))
    by true rest = ap (λ ks. r.key.numbers ∷ ks) rest
    by false rest = rest

count-passing : {K : ℕ} (p : List ℕ → Bool) (rows : List (Record K)) → length (filter p (keys_of rows)) ≡ length (filter (λ r. p r.key.numbers) rows)
count-passing p rows = ap length (keys-passing p rows) ∙ length-map (filter (λ r. p r.key.numbers) rows) (λ r. r.key.numbers)

-- a number is at least another one where it is not below it
other-side : (v x : ℕ) → nat_le v x ≡ not (nat_lt x v)
other-side v x = by (nat_lt x v) refl
  where
    by : (t : Bool) → nat_lt x v ≡ t → nat_le v x ≡ not t
    by true e = lt-leb v x (ltb-true x v e)
    by false e = le-leb v x (ltb-false x v e)

module _ {K : ℕ} (rows : List (Record K)) (a v capacity : ℕ) (divided : IsTrue (divides (keys_of rows) a v)) (few : length rows ≤ capacity + 1) where
  some-left : 0 < length (rows_in Left rows a v)
  some-left = let same = count-passing (λ k. nat_lt (slice_index k a) v) rows in let some = ltb-true 0 (length (left_part (keys_of rows) a v)) (first (nat_lt 0 (length (left_part (keys_of rows) a v))) (nat_lt 0 (length (right_part (keys_of rows) a v))) divided) in omega (arith, same, some)

  some-right : 0 < length (rows_in Right rows a v)
  some-right = let same = count-passing (λ k. nat_le v (slice_index k a)) rows in let some = ltb-true 0 (length (right_part (keys_of rows) a v)) (second (nat_lt 0 (length (left_part (keys_of rows) a v))) (nat_lt 0 (length (right_part (keys_of rows) a v))) divided) in omega (arith, same, some)

  both-parts : length (rows_in Left rows a v) + length (rows_in Right rows a v) ≡ length rows
  both-parts = length-filter_both (λ (r : Record K). nat_lt (slice_index r.key.numbers a) v) (λ (r : Record K). nat_le v (slice_index r.key.numbers a)) (λ r. other-side v (slice_index r.key.numbers a)) rows

  -- of records that are one too many and that are divided each part has room
  pub left-fits : length (rows_in Left rows a v) ≤ capacity
  left-fits = let some = some-right in let all = both-parts in omega (arith, some, all, few)

  pub right-fits : length (rows_in Right rows a v) ≤ capacity
  right-fits = let some = some-left in let all = both-parts in omega (arith, some, all, few)
