-- What a search tells of the table of the records.
use Rattle.std.proofs.Common.{◌≡◌, ℕ, List, None, sym, get_or}
use Rattle.grid_types.specs.declared.update.Record.{Record}
use Rattle.grid_model.specs.Tables.{get, pairs_of}
use Rattle.grid_model.proofs.TableLaws.{one_key}
use Rattle.bucket_page.proofs.Tables.{Ascends}
use Rattle.bucket_page.specs.Search.{HasRecordAt, IsFoundAt, FitsBefore}
use Rattle.bucket_page.proofs.Places.{found_there, found_before}

-- a record that is found stands in the table of the records
pub found_at : {K : ℕ} (k : List ℕ) (rows : List (Record K)) (at : ℕ) → IsFoundAt k rows at → HasRecordAt rows k at
found_at k rows at f = record {
  inside = f.inside;
  key = λ d. sym (one_key k (get_or rows at d).key.numbers (f.equal d));
  value = λ d. found_there k rows at d f.inside f.below f.equal;
}

-- where a key would stand in front of a record, the table of the records does not have it
pub none_before : {K : ℕ} (k : List ℕ) (rows : List (Record K)) (at : ℕ) → Ascends rows → FitsBefore k rows at → get (pairs_of rows) k ≡ None
none_before k rows at a f = found_before k rows at a f.inside f.below f.above
