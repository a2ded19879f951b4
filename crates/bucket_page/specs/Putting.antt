-- A bucket with other records.
use Rattle.std.specs.Prelude.{ℕ, List, map}
use Rattle.grid_types.specs.declared.update.Record.{Record}
use Rattle.grid_model.specs.Lone.{record_of}
use Rattle.grid_model.specs.Tables.{pairs_of, with_data}
use Rattle.grid_model.specs.Spellings.{BucketOf}

-- the bucket of the same number and box with these records
abbrev pub with_rows : {K : ℕ} → BucketOf K → List (Record K) → BucketOf K
with_rows b rows = record { number = b.number; box = b.box; rows = rows }

-- the bucket with a record put into it: its records are those of its table with that data at that key
abbrev pub with_record : {K : ℕ} → BucketOf K → Record K → BucketOf K
with_record b r = with_rows b (map record_of (with_data (pairs_of b.rows) r.key.numbers r.value))
