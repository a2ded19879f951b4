-- How many records match.
use Rattle.std.proofs.Common.{◌≡◌, ◌<◌, ◌≤◌, ◌+◌, ◌*◌, ℕ, Bool, true, false, cond, List, [], ◌∷◌, ◌++◌, length, min, arith, length-append}
use Rattle.std.proofs.lemmas.List.{length-map}
use Rattle.std.specs.FinMap.Entries.{where_key}
use Rattle.grid_types.specs.declared.query.Query.{Query}
use Rattle.grid_types.specs.declared.update.Record.{Record}
use Rattle.grid_types.specs.Keys.{key_cmp}
use Rattle.grid_types.specs.Queries.{matches}
use Rattle.grid_model.specs.Listings.{rows}
use Rattle.grid_model.specs.Tables.{Table, pair_of, pairs_of}
use Rattle.query_paths.specs.Gathering.{most_in_cells}

-- no more entries pass than there are
pub few-pass : (p : List ℕ → Bool) (t : Table) → length (where_key key_cmp p t) ≤ length t
few-pass p [] = omega arith
few-pass p (e ∷ t) = by (p e.0) (few-pass p t)
  where
    by : (b : Bool) → length (where_key key_cmp p t) ≤ length t → length (cond b (e ∷ where_key key_cmp p t) (where_key key_cmp p t)) ≤ length (e ∷ t)
    by true h = omega (arith, h)
    by false h = omega (arith, h)

-- no more records match than there are
pub few-rows : {K : ℕ} (rs : List (Record K)) (q : Query K) → length (rows (pairs_of rs) q) ≤ length rs
unfolding rows
few-rows rs q = omega (arith, few-pass (matches q.sides) (pairs_of rs), length-map rs pair_of)

-- a count that does not come near its end is exact
pub counted-more : {K : ℕ} (rs : List (Record K)) (q : Query K) (found : Table) (before count n after : ℕ) → length found ≤ most_in_cells → before ≡ length found → length rs ≡ count → count ≤ 48 → n ≡ length (rows (pairs_of rs) q)
    → after ≡ min (before + n) 18446744073709551615 → after ≡ length (found ++ rows (pairs_of rs) q)
unfolding most_in_cells
counted-more rs q found before count n after few is c m e h = omega (arith, few, is, c, m, e, h, few-rows rs q, length-append found (rows (pairs_of rs) q))

-- the buckets of the cells below an index have no more records than that
pub few-in-cells : (n i : ℕ) → n ≤ 48 * i → i < 1000000 → n ≤ most_in_cells
unfolding most_in_cells
few-in-cells n i h l = omega (arith, h, l)
