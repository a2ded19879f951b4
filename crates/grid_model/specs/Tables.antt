-- A table is a finite map from keys to data: the list of its entries, in the order of their keys.
use Rattle.std.specs.Prelude.{◌≡◌, ◌≤◌, ℕ, List, T, not, length, Option, Some, map}
use Rattle.std.specs.Ordering.{eq_by_cmp}
use Rattle.std.specs.FinMap.Entries.{put, where_key, find, is_sorted}
use Rattle.grid_types.specs.declared.sizes.TheConstants.{LONGEST_DATA}
use Rattle.grid_types.specs.declared.update.Record.{Record}
use Rattle.grid_types.specs.declared.update.Update.{Update}
use Rattle.grid_types.specs.declared.update.Update.TheVariants.{Put, Remove}
use Rattle.grid_types.specs.Keys.{key_cmp, IsKey}

-- a pair is a key, as the list of its numbers, with its data
abbrev pub Table : Type 0
Table = List (List ℕ × List ℕ)

-- entries are a table where each key stands below the next
abbrev pub IsTable : Table → Type 0
IsTable t = T (is_sorted key_cmp t)

-- the data that a table has at a key
abbrev pub get : Table → List ℕ → Option (List ℕ)
get t k = find key_cmp k t

-- data is no longer than the longest
abbrev pub IsData : List ℕ → Type 0
IsData d = length d ≤ LONGEST_DATA

-- each key of a table has K numbers of 64 bits
abbrev pub HasKeys : ℕ → Table → Type 0
HasKeys K t = (k d : List ℕ) → get t k ≡ Some d → IsKey K k

-- the data of each key of a table is no longer than the longest
abbrev pub HasValues : Table → Type 0
HasValues t = (k d : List ℕ) → get t k ≡ Some d → IsData d

-- entries are a table of K attributes: keys ascend, each has K numbers, and its data is no longer than the longest
pub record IsTableOf (K : ℕ) (t : Table) : Type 0 where
  pub table : IsTable t
  pub keys : HasKeys K t
  pub values : HasValues t

-- the table with this data at that key
abbrev pub with_data : Table → List ℕ → List ℕ → Table
with_data t k d = put key_cmp k d t

-- the table without that key
abbrev pub without : Table → List ℕ → Table
without t k = where_key key_cmp (λ x. not (eq_by_cmp key_cmp k x)) t

-- what an update makes of a table
unfoldable pub effect : {K : ℕ} → Table → Update K → Table
effect t (Put r) = with_data t r.key.numbers r.value
effect t (Remove k) = without t k.numbers

-- a record is a pair: its key with its data
abbrev pub pair_of : {K : ℕ} → Record K → List ℕ × List ℕ
pair_of r = (r.key.numbers, r.value)

-- the entries of some records
abbrev pub pairs_of : {K : ℕ} → List (Record K) → Table
pairs_of rows = map pair_of rows
