-- A lawful bucket, said by the indices of its records.
use Rattle.std.proofs.Common.{◌<◌, ◌≤◌, ◌^◌, ◌∙◌, ℕ, List, length, get_or, slice_index, sym}
use Rattle.grid_types.specs.declared.update.Record.{Record}
use Rattle.grid_types.specs.Keys.{IsKey}
use Rattle.grid_types.proofs.Numbers.{contains-within}
use Rattle.grid_model.specs.Buckets.{IsBucket}
use Rattle.grid_model.specs.Tables.{IsData}
use Rattle.grid_types.specs.declared.region.Region.{Region}
use Rattle.grid_types.specs.Regions.{Within}
use Rattle.grid_model.specs.Spellings.{BucketOf}
use Rattle.bucket_page.proofs.Tables.{Ascends, sorted, ascends}

-- each key lies in the region
abbrev pub AllInside : {K : ℕ} → Region K → List (Record K) → Type 0
AllInside {K} region rows = (i : ℕ) (d : Record K) → i < length rows → Within region.lo region.hi (get_or rows i d).key.numbers

-- a record has a key of K numbers and lawful data
pub record IsRow (K : ℕ) (r : Record K) : Type 0 where
  pub key : IsKey K r.key.numbers
  pub short : IsData r.value

-- each record of a bucket is one, and the others of its facts
pub record IsBucketByIndex (K capacity : ℕ) (b : BucketOf K) : Type 0 where
  pub number : b.number < 2 ^ 32
  pub turn : b.box.turn < K
  pub lo : IsKey K b.box.region.lo
  pub hi : IsKey K b.box.region.hi
  pub not_empty : (a : ℕ) → a < K → slice_index b.box.region.lo a ≤ slice_index b.box.region.hi a
  pub count : length b.rows ≤ capacity
  pub rows : (i : ℕ) (d : Record K) → i < length b.rows → IsRow K (get_or b.rows i d)
  pub inside : AllInside b.box.region b.rows
  pub ascending : Ascends b.rows

-- a lawful bucket by the indices of its records
pub by_index : (K capacity : ℕ) (b : BucketOf K) → IsBucket capacity b → IsBucketByIndex K capacity b
by_index K capacity b s = record {
  number = s.number;
  turn = s.turn;
  lo = s.region.low;
  hi = s.region.high;
  not_empty = s.region.not_empty;
  count = s.count;
  rows = λ i d h. record { key = s.keys i d h; short = s.values i d h };
  inside = λ i d h. (contains-within b.box.region.lo b.box.region.hi (get_or b.rows i d).key.numbers (s.region.low.count ∙ sym (s.keys i d h).count) ((s.keys i d h).count ∙ sym s.region.high.count)).0 (s.inside i d h);
  ascending = ascends b.rows s.ascending;
}

-- a bucket that is lawful by the indices of its records is lawful
pub from_index : (K capacity : ℕ) (b : BucketOf K) → IsBucketByIndex K capacity b → IsBucket capacity b
from_index K capacity b s = record {
  number = s.number;
  turn = s.turn;
  region = record { low = s.lo; high = s.hi; not_empty = s.not_empty };
  count = s.count;
  ascending = sorted b.rows s.ascending;
  keys = λ i d h. (s.rows i d h).key;
  inside = λ i d h. (contains-within b.box.region.lo b.box.region.hi (get_or b.rows i d).key.numbers (s.lo.count ∙ sym (s.rows i d h).key.count) ((s.rows i d h).key.count ∙ sym s.hi.count)).1 (s.inside i d h);
  values = λ i d h. (s.rows i d h).short;
}
