-- A bucket without a record, the parts of a bucket that is cut, and two buckets that are joined.
use Rattle.std.specs.Prelude.{ℕ, Bool, List, map, filter, fold, min, nat_lt, nat_le, slice_index}
use Rattle.grid_types.specs.declared.layout_change.Cut.{Cut}
use Rattle.grid_types.specs.declared.update.Record.{Record}
use Rattle.grid_model.specs.Lone.{record_of}
use Rattle.grid_model.specs.Notes.{left_of, right_of, together}
use Rattle.grid_model.specs.Tables.{Table, pairs_of, with_data, without}
use Rattle.grid_model.specs.Spellings.{BucketOf}
use Rattle.bucket_page.specs.declared.parting.Part.{Part}
use Rattle.bucket_page.specs.declared.parting.Part.TheVariants.{Left, Right}
use Rattle.bucket_page.specs.Putting.{with_rows}

-- the bucket without the record of a key
abbrev pub without_key : {K : ℕ} → BucketOf K → List ℕ → BucketOf K
without_key b k = with_rows b (map record_of (without (pairs_of b.rows) k))

-- whether a number in the attribute of a cut is one of a part: below the boundary on the left, else on the right
abbrev pub lies_in : Part → ℕ → ℕ → Bool
lies_in Left n v = nat_lt n v
lies_in Right n v = nat_le v n

-- the records of a part
abbrev pub rows_in : {K : ℕ} → Part → List (Record K) → ℕ → ℕ → List (Record K)
rows_in part rows a v = filter (λ r. lies_in part (slice_index r.key.numbers a) v) rows

-- the left part of a bucket that is cut: it keeps the number, and has the records below the boundary
abbrev pub left_bucket : {K : ℕ} → BucketOf K → Cut → BucketOf K
left_bucket b c = record { number = b.number; box = left_of b.box c; rows = rows_in Left b.rows c.attribute c.value }

-- the right part: it gets a number of its own, and has the other records
abbrev pub right_bucket : {K : ℕ} → BucketOf K → Cut → ℕ → BucketOf K
right_bucket b c right = record { number = right; box = right_of b.box c; rows = rows_in Right b.rows c.attribute c.value }

-- a table with these records put into it
abbrev pub with_all : {K : ℕ} → Table → List (Record K) → Table
with_all t rows = fold (λ u r. with_data u r.key.numbers r.value) t rows

-- two buckets joined: the box of both under the lower number with the turn of the first, and the records of both
abbrev pub joined_buckets : {K : ℕ} → BucketOf K → BucketOf K → BucketOf K
joined_buckets b c = record { number = min b.number c.number; box = together b.box c.box; rows = map record_of (with_all (pairs_of b.rows) c.rows) }
