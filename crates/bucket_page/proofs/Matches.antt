-- The records of a page that match a query, one more at a time.
use Rattle.std.proofs.Common.{◌≡◌, ◌+◌, ◌*◌, ℕ, List, [], ◌∷◌, ◌++◌, Bool, true, false, length, refl, ap, ◌∙◌}
use Rattle.std.specs.Prelude.{cond}
use Rattle.std.specs.FinMap.Entries.{where_key}
use Rattle.std.proofs.lemmas.List.{map-append, append-nil, length_push}
use Rattle.grid_types.specs.declared.query.Query.{Query}
use Rattle.grid_types.specs.Keys.{key_cmp}
use Rattle.grid_types.specs.Queries.{matches}
use Rattle.grid_model.specs.Tables.{Table, pair_of, pairs_of}
use Rattle.grid_model.specs.Listings.{rows}
use Rattle.bucket_page.specs.OnPage.{numbers_at, data_at, record_at, records_at}
use Rattle.bucket_page.proofs.OnPage.{rows_more}

-- what matches among entries and those behind them
where_append : (p : List ℕ → Bool) (a b : Table) → where_key key_cmp p (a ++ b) ≡ where_key key_cmp p a ++ where_key key_cmp p b
where_append p [] b = refl
where_append p (e ∷ a) b = by (p e.0) (where_append p a b)
  where
    by : (t : Bool) → where_key key_cmp p (a ++ b) ≡ where_key key_cmp p a ++ where_key key_cmp p b
        → cond t (e ∷ where_key key_cmp p (a ++ b)) (where_key key_cmp p (a ++ b)) ≡ cond t (e ∷ where_key key_cmp p a) (where_key key_cmp p a) ++ where_key key_cmp p b
    by true rest = ap (λ (es : Table). e ∷ es) rest
    by false rest = rest

-- the entries of one record more
entries_more : (K : ℕ) (page : List ℕ) (n : ℕ) → pairs_of (records_at K page 96 (n + 1)) ≡ pairs_of (records_at K page 96 n) ++ (numbers_at K (96 + 80 * n) page, data_at page (96 + 80 * n)) ∷ []
entries_more K page n = ap pairs_of (rows_more K page 96 n) ∙ map-append pair_of (records_at K page 96 n) (record_at K page (96 + 80 * n) ∷ [])

-- a record more that matches is one more in the list
pub one_more : {K : ℕ} (page : List ℕ) (q : Query K) (n : ℕ) → matches q.sides (numbers_at K (96 + 80 * n) page) ≡ true
    → rows (pairs_of (records_at K page 96 (n + 1))) q ≡ rows (pairs_of (records_at K page 96 n)) q ++ (numbers_at K (96 + 80 * n) page, data_at page (96 + 80 * n)) ∷ []
unfolding rows
one_more {K} page q n hit =
    let p = matches q.sides in
    let x = numbers_at K (96 + 80 * n) page in
    let v = data_at page (96 + 80 * n) in
    let before : Table = pairs_of (records_at K page 96 n) in
    ap (where_key key_cmp p) (entries_more K page n) ∙ where_append p before ((x, v) ∷ []) ∙ ap (λ (t : Bool). where_key key_cmp p before ++ cond t ((x, v) ∷ []) []) hit

-- a record more that does not match changes nothing
pub none_more : {K : ℕ} (page : List ℕ) (q : Query K) (n : ℕ) → matches q.sides (numbers_at K (96 + 80 * n) page) ≡ false
    → rows (pairs_of (records_at K page 96 (n + 1))) q ≡ rows (pairs_of (records_at K page 96 n)) q
unfolding rows
none_more {K} page q n miss =
    let p = matches q.sides in
    let x = numbers_at K (96 + 80 * n) page in
    let v = data_at page (96 + 80 * n) in
    let before : Table = pairs_of (records_at K page 96 n) in
    ap (where_key key_cmp p) (entries_more K page n) ∙ where_append p before ((x, v) ∷ []) ∙ ap (λ (t : Bool). where_key key_cmp p before ++ cond t ((x, v) ∷ []) []) miss ∙ append-nil (where_key key_cmp p before)

pub none_at_first : {K : ℕ} (q : Query K) → rows [] q ≡ []
unfolding rows
none_at_first q = refl

-- then the list is one longer
pub one_longer : {K : ℕ} (page : List ℕ) (q : Query K) (n : ℕ) → matches q.sides (numbers_at K (96 + 80 * n) page) ≡ true
    → length (rows (pairs_of (records_at K page 96 (n + 1))) q) ≡ length (rows (pairs_of (records_at K page 96 n)) q) + 1
one_longer {K} page q n hit = ap length (one_more page q n hit) ∙ length_push (rows (pairs_of (records_at K page 96 n)) q) (numbers_at K (96 + 80 * n) page, data_at page (96 + 80 * n))
