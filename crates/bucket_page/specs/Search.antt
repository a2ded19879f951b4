-- A key among records that ascend.
use Rattle.std.specs.Prelude.{◌≡◌, ◌<◌, ◌≤◌, ℕ, List, Some, length, get_or}
use Rattle.std.specs.declared.cmp.Ordering.TheVariants.{Less, Equal, Greater}
use Rattle.grid_types.specs.declared.update.Record.{Record}
use Rattle.grid_types.specs.Keys.{key_cmp}
use Rattle.grid_model.specs.Tables.{get, pairs_of}

-- a record with that key stands at an index, and its data is what the table of the records has at the key
pub record HasRecordAt {K : ℕ} (rows : List (Record K)) (wanted : List ℕ) (i : ℕ) : Type 0 where
  pub inside : i < length rows
  pub key : (d : Record K) → (get_or rows i d).key.numbers ≡ wanted
  pub value : (d : Record K) → get (pairs_of rows) wanted ≡ Some (get_or rows i d).value

-- the keys in front of an index lie below a key
abbrev pub AreBelow : {K : ℕ} → List ℕ → List (Record K) → ℕ → Type 0
AreBelow {K} key rows n = (i : ℕ) (d : Record K) → i < n → key_cmp key (get_or rows i d).key.numbers ≡ Greater

-- the record at an index has the key, and those in front of it lie below
pub record IsFoundAt {K : ℕ} (key : List ℕ) (rows : List (Record K)) (at : ℕ) : Type 0 where
  pub inside : at < length rows
  pub below : AreBelow key rows at
  pub equal : (d : Record K) → key_cmp key (get_or rows at d).key.numbers ≡ Equal

-- a key would stand at an index: the records in front of it lie below, and the one there, if there is one, lies above
pub record FitsBefore {K : ℕ} (key : List ℕ) (rows : List (Record K)) (at : ℕ) : Type 0 where
  pub inside : at ≤ length rows
  pub below : AreBelow key rows at
  pub above : (d : Record K) → at < length rows → key_cmp key (get_or rows at d).key.numbers ≡ Less
