-- The records of buckets, put together into a table, and their keys.
use Rattle.std.proofs.Common.{All, ◌≡◌, ◌≢◌, ◌+◌, ◌==◌, ◌||◌, ◌++◌, ◌∙◌, ℕ, Bool, true, false, cond, not, List, [], ◌∷◌, Option, Some, map, filter, flat_map, slice_index, refl, sym, ap, arith}
use Rattle.std.specs.Prelude.{is_some, fold}
use Rattle.std.specs.Cmp.{eq_by_cmp_equiv}
use Rattle.std.specs.Cmp.Lexicographic.{nat_list_cmp_total}
use Rattle.std.specs.FinMap.Entries.{find-put}
use Rattle.std.specs.Ordering.{eq_by_cmp}
use Rattle.std.proofs.lemmas.Bool.{ne_eqb, eq-eqb, eqb-true, eqb-false}
use Rattle.std.proofs.lemmas.List.{map-append, map-id, append-nil}
use Rattle.std.proofs.lemmas.List.Concat.{flat_map-append}
use Rattle.std.proofs.lemmas.List.Elements.{filter-append, All-head, All-tail}
use Rattle.std.proofs.lemmas.List.FromFn.{map-range_with_len_more}
use Rattle.grid_types.specs.declared.shape.Shape.{Shape}
use Rattle.grid_types.specs.declared.update.Record.{Record}
use Rattle.grid_types.specs.Keys.{key_cmp}
use Rattle.grid_model.specs.Lawful.{nowhere}
use Rattle.grid_model.specs.Lists.{below}
use Rattle.grid_model.specs.Spellings.{BucketOf}
use Rattle.grid_model.specs.Tables.{Table, get}
use Rattle.grid_model.specs.Images.{entry_page}
use Rattle.grid_model.proofs.Gathered.{put_in}
use Rattle.bucket_page.specs.OnPage.{bucket_told}
use Rattle.grid_check.specs.Dumps.{rows_told}
use Rattle.grid_check.specs.Marks.{is_key_among, keys_in, keys_at, numbers_below}

module _ {K : ℕ} where
  -- it has the keys that it had, and those of the records
  pub keys_after : (rs : List (Record K)) (t : Table) (k : List ℕ) → is_some (get (fold put_in t rs) k) ≡ (is_some (get t k) || is_key_among (keys_in rs) k)
  keys_after [] t k = by (is_some (get t k))
    where
      by : (b : Bool) → b ≡ (b || false)
      by true = refl
      by false = refl
  keys_after (r ∷ rs) t k =
      keys_after rs (put_in t r) k
      ∙ ap (λ (o : Option (List ℕ)). is_some o || is_key_among (keys_in rs) k) (find-put key_cmp nat_list_cmp_total k r.key.numbers r.value t)
      ∙ ap (λ b. is_some (cond b (Some r.value) (get t k)) || is_key_among (keys_in rs) k) ((eq_by_cmp_equiv nat_list_cmp_total).symm k r.key.numbers)
      ∙ by (eq_by_cmp key_cmp r.key.numbers k) (get t k)
    where
      rest : Bool
      rest = is_key_among (keys_in rs) k

      both : (b : Bool) → true ≡ (b || true)
      both true = refl
      both false = refl

      by : (b : Bool) (o : Option (List ℕ)) → (is_some (cond b (Some r.value) o) || rest) ≡ (is_some o || (b || rest))
      by true o = both (is_some o)
      by false o = refl

-- the buckets that pages spell have the records that the pages tell
pub rows_spelled : {K : ℕ} (s : Shape) (image table : List ℕ) (bs : List (BucketOf K)) → All (λ b. b ≡ bucket_told K (entry_page s image table b.number)) bs → flat_map (λ b. b.rows) bs ≡ flat_map (rows_told K s image table) (map (λ b. b.number) bs)
rows_spelled s image table [] each = refl
rows_spelled {K} s image table (b ∷ bs) each =
    ap (λ (rs : List (Record K)). b.rows ++ rs) (rows_spelled s image table bs (All-tail (λ c. c ≡ bucket_told K (entry_page s image table c.number)) b bs each))
    ∙ ap (λ (c : BucketOf K). c.rows ++ flat_map (rows_told K s image table) (map (λ d. d.number) bs)) (All-head (λ c. c ≡ bucket_told K (entry_page s image table c.number)) b bs each)

-- the records of the buckets that pages spell have the keys that the pages tell
pub keys_spelled : {K : ℕ} (s : Shape) (image table : List ℕ) (bs : List (BucketOf K)) → All (λ b. b ≡ bucket_told K (entry_page s image table b.number)) bs → keys_in (flat_map (λ b. b.rows) bs) ≡ flat_map (keys_at K s image table) (map (λ b. b.number) bs)
keys_spelled s image table [] each = refl
keys_spelled {K} s image table (b ∷ bs) each =
    map-append (λ (r : Record K). r.key.numbers) b.rows (flat_map (λ c. c.rows) bs)
    ∙ ap (λ (ks : List (List ℕ)). keys_in b.rows ++ ks) (keys_spelled s image table bs (All-tail (λ c. c ≡ bucket_told K (entry_page s image table c.number)) b bs each))
    ∙ ap (λ (c : BucketOf K). keys_in c.rows ++ flat_map (keys_at K s image table) (map (λ d. d.number) bs)) (All-head (λ c. c ≡ bucket_told K (entry_page s image table c.number)) b bs each)

one_below : (n : ℕ) → below (n + 1) ≡ below n ++ n ∷ []
one_below n = sym (map-id (below (n + 1))) ∙ map-range_with_len_more (λ m. m) 0 n n (omega arith) ∙ ap (λ (ns : List ℕ). ns ++ n ∷ []) (map-id (below n))

-- what is told of each number that a bucket has, one number more
module _ {X : Type 0} (f : ℕ → List X) (table : List ℕ) (n : ℕ) where
  next : (b : Bool) → not (slice_index table n == nowhere) ≡ b → flat_map f (numbers_below table (n + 1)) ≡ flat_map f (numbers_below table n) ++ flat_map f (cond b (n ∷ []) [])
  next b e =
      ap (λ (ns : List ℕ). flat_map f (filter (λ m. not (slice_index table m == nowhere)) ns)) (one_below n)
      ∙ ap (flat_map f) (filter-append (λ m. not (slice_index table m == nowhere)) (below n) (n ∷ []))
      ∙ flat_map-append f (numbers_below table n) (filter (λ m. not (slice_index table m == nowhere)) (n ∷ []))
      ∙ ap (λ t. flat_map f (numbers_below table n) ++ flat_map f (cond t (n ∷ []) [])) e

  -- one that a bucket has
  pub told_more : slice_index table n ≢ nowhere → flat_map f (numbers_below table (n + 1)) ≡ flat_map f (numbers_below table n) ++ f n
  told_more named = next true (ap not (ne_eqb (slice_index table n) nowhere named)) ∙ ap (λ (xs : List X). flat_map f (numbers_below table n) ++ xs) (append-nil (f n))

  -- and one that none has
  pub told_same : slice_index table n ≡ nowhere → flat_map f (numbers_below table (n + 1)) ≡ flat_map f (numbers_below table n)
  told_same out = next false (ap not (eq-eqb (slice_index table n) nowhere out)) ∙ append-nil (flat_map f (numbers_below table n))

-- a number that no bucket has is nowhere
pub nowhere_there : (table : List ℕ) (n : ℕ) → (slice_index table n ≢ nowhere → ⊥) → slice_index table n ≡ nowhere
nowhere_there table n none = by (slice_index table n == nowhere) refl
  where
    by : (b : Bool) → (slice_index table n == nowhere) ≡ b → slice_index table n ≡ nowhere
    by true e = eqb-true (slice_index table n) nowhere e
    by false e = absurd (none (eqb-false (slice_index table n) nowhere e))
