-- A bucket in memory as the model sees it.
use Rattle.std.specs.Prelude.{ℕ}
use Rattle.grid_model.specs.Spellings.{BucketOf}
use Rattle.bucket_page.specs.declared.bucket.Bucket.{Bucket}

-- the model's bucket: its number, its box and its records
abbrev pub bucket_of : {K : ℕ} → Bucket K → BucketOf K
bucket_of b = record { number = b.number; box = record { region = b.region; turn = b.turn }; rows = b.rows.items }
