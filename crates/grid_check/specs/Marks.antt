-- Keys that updates name, each marked where a table has it, and how many records updates leave.
use Rattle.std.specs.Prelude.{◌≡◌, ◌≤◌, ◌+◌, ◌-◌, ◌||◌, ◌==◌, ℕ, List, Bool, true, false, cond, not, All, Option, Some, None, IsSome, is_some, length, map, filter, flat_map, fold, slice_index}
use Rattle.std.specs.BTreeMap as tree
use Rattle.std.specs.List.{list_any}
use Rattle.std.specs.Option.{option_map}
use Rattle.std.specs.Ordering.{eq_by_cmp}
use Rattle.grid_types.specs.declared.layout_change.LoggedUpdate.{LoggedUpdate}
use Rattle.grid_types.specs.declared.shape.Shape.{Shape}
use Rattle.grid_types.specs.declared.update.Record.{Record}
use Rattle.grid_types.specs.Keys.{key_cmp}
use Rattle.grid_model.specs.Lawful.{nowhere}
use Rattle.grid_model.specs.Lists.{below}
use Rattle.grid_model.specs.Notes.{updated_key}
use Rattle.grid_model.specs.Spellings.{BucketOf}
use Rattle.grid_model.specs.Tables.{Table, IsTable, get}
use Rattle.grid_model.specs.Images.{entry_page, logged_effect, HasBuckets}
use Rattle.bucket_page.specs.OnPage.{bucket_told}

-- keys with a mark each
abbrev pub Marks : Type 0
Marks = tree.BTreeMap (List ℕ) Bool

-- the mark of a key, if it has one
abbrev pub mark_of : Marks → List ℕ → Option Bool
mark_of m k = tree.get key_cmp m k

-- a key is among these
abbrev pub is_key_among : List (List ℕ) → List ℕ → Bool
is_key_among keys k = list_any (λ m. eq_by_cmp key_cmp m k) keys

-- each key with a mark that is among these is marked, and the others are marked as they were
abbrev pub MarksKeys : List (List ℕ) → Marks → Marks → Type 0
MarksKeys keys old new = (k : List ℕ) → mark_of new k ≡ option_map (λ b. b || is_key_among keys k) (mark_of old k)

-- a key is marked so, if it has a mark, and the others are marked as they were
abbrev pub TurnsMark : List ℕ → Bool → Marks → Marks → Type 0
TurnsMark key there old new = (k : List ℕ) → mark_of new k ≡ cond (eq_by_cmp key_cmp key k) (option_map (λ b. there) (mark_of old key)) (mark_of old k)

-- the keys of records
abbrev pub keys_in : {K : ℕ} → List (Record K) → List (List ℕ)
keys_in rows = map (λ r. r.key.numbers) rows

-- the keys of the records that the bucket page of a number tells
abbrev pub keys_at : (K : ℕ) → Shape → List ℕ → List ℕ → ℕ → List (List ℕ)
keys_at K s image table n = keys_in (bucket_told K (entry_page s image table n)).rows

-- the numbers below n that buckets have
abbrev pub numbers_below : List ℕ → ℕ → List ℕ
numbers_below table n = filter (λ m. not (slice_index table m == nowhere)) (below n)

-- the keys of the records that the bucket pages of the numbers below n tell
abbrev pub keys_below : (K : ℕ) → Shape → List ℕ → List ℕ → ℕ → List (List ℕ)
keys_below K s image table n = flat_map (keys_at K s image table) (numbers_below table n)

-- the keys of the records of the buckets that the pages of a table spell are marked
abbrev pub MarksBuckets : (K : ℕ) → Shape → List ℕ → List ℕ → Marks → Marks → Type 0
MarksBuckets K s image table old new = (buckets : List (BucketOf K)) → HasBuckets s image table buckets → MarksKeys (keys_in (flat_map (λ b. b.rows) buckets)) old new

-- a key with a mark is marked exactly where a table has it
abbrev pub MarkTable : Table → Marks → Type 0
MarkTable t m = (k : List ℕ) (b : Bool) → mark_of m k ≡ Some b → b ≡ is_some (get t k)

-- no key is marked
abbrev pub NoneMarked : Marks → Type 0
NoneMarked m = (k : List ℕ) (b : Bool) → mark_of m k ≡ Some b → b ≡ false

-- the key of each update has a mark
abbrev pub HaveMarks : {K : ℕ} → Marks → List (LoggedUpdate K) → Type 0
HaveMarks m us = All (λ u. IsSome (mark_of m (updated_key u.update))) us

-- each key that had a mark has one
abbrev pub KeepsMarks : Marks → Marks → Type 0
KeepsMarks old new = (k : List ℕ) → IsSome (mark_of old k) → IsSome (mark_of new k)

-- how many records there are behind a put, by the mark that its key had: one more where the key was not there
abbrev pub with_one : Option Bool → ℕ → ℕ
with_one None n = n
with_one (Some true) n = n
with_one (Some false) n = n + 1

-- how many records there are behind a removal, by the mark that its key had: one fewer where the key was there
abbrev pub without_one : Option Bool → ℕ → ℕ
without_one None n = n
without_one (Some true) n = n - 1
without_one (Some false) n = n

-- updates are counted: where keys were marked as a table had them, and these many records were its, they are marked as the table has them after the updates, and so many records are its
pub record CountsRecords {K : ℕ} (us : List (LoggedUpdate K)) (old new : Marks) (before now : ℕ) : Type 0 where
  pub keeps : KeepsMarks old new
  pub most : now ≤ before + length us
  pub marked : (t : Table) → IsTable t → MarkTable t old → HaveMarks old us → MarkTable (fold logged_effect t us) new
  pub counted : (t : Table) → IsTable t → MarkTable t old → HaveMarks old us → before ≡ length t → now ≡ length (fold logged_effect t us)
