-- A bucket in memory, as the model sees it, and with a record put into it.
use Rattle.std.proofs.Common.{◌≡◌, map, sym, ap, ◌∙◌, ℕ}
use Rattle.grid_types.specs.declared.update.Record.{Record}
use Rattle.grid_model.specs.Lone.{record_of}
use Rattle.grid_model.specs.Spellings.{BucketOf}
use Rattle.grid_model.specs.Tables.{pairs_of, with_data}
use Rattle.bucket_page.specs.declared.bucket.Bucket.{Bucket}
use Rattle.bucket_page.specs.Putting.{with_record}
use Rattle.bucket_page.proofs.Growing.{records_back}

-- the model's bucket in memory
abbrev pub in_memory : {K : ℕ} → BucketOf K → Bucket K
in_memory b = record { number = b.number; turn = b.box.turn; region = b.box.region; rows = record { items = b.rows } }

-- a bucket of the same number and box whose table has a record put into it is the bucket with the record
pub put-in-memory : {K : ℕ} (old new : BucketOf K) (r : Record K) → new.number ≡ old.number → new.box.region ≡ old.box.region → new.box.turn ≡ old.box.turn → pairs_of new.rows ≡ with_data (pairs_of old.rows) r.key.numbers r.value → new ≡ with_record old r
put-in-memory old new r number region turn pairs =
    let rows = sym (records_back new.rows) ∙ ap (map record_of) pairs in
    λ i. record { number = number i; box = record { region = region i; turn = turn i }; rows = rows i }
