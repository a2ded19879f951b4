-- The records without a key: those that are left where one has it, and all of them where none does.
use Rattle.std.proofs.Common.{◌≡◌, ◌<◌, ◌≤◌, ◌+◌, ◌⊎◌, inl, inr, ℕ, suc, Bool, true, false, not, List, [], ◌∷◌, ◌++◌, map, filter, length, take, drop, get_or, refl, sym, ap, subst, ◌∙◌, true≢false, arith}
use Rattle.std.specs.Prelude.{All}
use Rattle.std.specs.List.{remove}
use Rattle.std.specs.Ordering.{eq_by_cmp}
use Rattle.std.specs.declared.cmp.Ordering.TheVariants.{Less, Equal, Greater}
use Rattle.std.specs.Cmp.Lexicographic.{nat_list_cmp_total}
use Rattle.std.specs.FinMap.Entries.{is_sorted-where_key}
use Rattle.std.proofs.lemmas.List.{take-append-drop, drop_more, length-drop, length-take-le, get_or-take, get_or-drop}
use Rattle.std.proofs.lemmas.List.Elements.{All-head, All-tail, filter-append}
use Rattle.std.proofs.lemmas.List.Filters.{length-filter_both}
use Rattle.grid_types.specs.declared.update.Record.{Record}
use Rattle.grid_types.specs.Keys.{key_cmp}
use Rattle.grid_model.specs.Lone.{record_of}
use Rattle.grid_model.specs.Spellings.{BucketOf}
use Rattle.grid_model.specs.Buckets.{IsBucket}
use Rattle.grid_model.specs.Tables.{IsTable, pairs_of, without}
use Rattle.grid_model.proofs.Divided.{pairs-of-records}
use Rattle.bucket_page.specs.Changing.{without_key}
use Rattle.bucket_page.specs.Putting.{with_rows}
use Rattle.bucket_page.specs.Search.{HasRecordAt, FitsBefore}
use Rattle.bucket_page.proofs.Divided.{pairs-filter, part-lawful}
use Rattle.bucket_page.proofs.Finding.{earlier, found_in_order}
use Rattle.bucket_page.proofs.Growing.{records_back}
use Rattle.bucket_page.proofs.Tables.{Ascends, ascends}

-- what all pass is kept whole
kept : {X : Type 0} (p : X → Bool) (xs : List X) → All (λ x. p x ≡ true) xs → filter p xs ≡ xs
kept p [] h = refl
kept p (x ∷ xs) h = by (p x) (All-head (λ y. p y ≡ true) x xs h) refl (kept p xs (All-tail (λ y. p y ≡ true) x xs h))
  where
    by : (t : Bool) → p x ≡ true → p x ≡ t → filter p xs ≡ xs → filter p (x ∷ xs) ≡ x ∷ xs
    by true one e rest = rw e (ap (λ ys. x ∷ ys) rest)
    by false one e rest = absurd (true≢false (sym one ∙ e))

-- whether a key is another one than this
other_than : List ℕ → List ℕ → Bool
other_than k x = not (eq_by_cmp key_cmp k x)

passes-below : (k x : List ℕ) → key_cmp k x ≡ Less → other_than k x ≡ true
unfolding other_than
passes-below k x e = rw e refl

passes-above : (k x : List ℕ) → key_cmp k x ≡ Greater → other_than k x ≡ true
unfolding other_than
passes-above k x e = rw e refl

fails : (k x : List ℕ) → key_cmp k x ≡ Equal → other_than k x ≡ false
unfolding other_than
fails k x e = rw e refl

-- the records without the one that has the key are those of the other keys
others-left : {K : ℕ} (k : List ℕ) (rows : List (Record K)) (at : ℕ) → Ascends rows → at < length rows → ((d : Record K) → (get_or rows at d).key.numbers ≡ k) → remove rows at ≡ filter (λ r. not (eq_by_cmp key_cmp k r.key.numbers)) rows
unfolding other_than
others-left {K} k rows at a lt key =
    let p : Record K → Bool = λ r. other_than k r.key.numbers in
    let found = found_in_order k rows at a lt key in
    let d : Record K = record_of ([], []) in
    let x : Record K = get_or rows at d in
    let next : at + 1 ≡ suc at = omega arith in
    let short : length (take at rows) ≡ at = length-take-le at rows (omega (arith, lt)) in
    let split : rows ≡ take at rows ++ (x ∷ drop (suc at) rows) = sym (take-append-drop at rows) ∙ ap (λ (ys : List (Record K)). take at rows ++ ys) (drop_more rows at d lt ∙ ap (λ (n : ℕ). x ∷ drop n rows) next) in
    let front : All (λ r. p r ≡ true) (take at rows) = λ i e l.
    ap p (get_or-take at rows i e (omega (arith, l, short))) ∙ passes-above k (get_or rows i e).key.numbers (found.below i e (omega (arith, l, short))) in
    let back : All (λ r. p r ≡ true) (drop (suc at) rows) = λ i e l.
    let inside : suc at + i < length rows = omega (arith, l, length-drop (suc at) rows) in
    ap p (get_or-drop (suc at) rows i e)
    ∙ passes-below k (get_or rows (suc at + i) e).key.numbers (subst (λ (y : List ℕ). key_cmp y (get_or rows (suc at + i) e).key.numbers ≡ Less) (key e) (earlier rows e at (suc at + i) a (omega arith) inside)) in
    let dropped : filter p (x ∷ drop (suc at) rows) ≡ drop (suc at) rows = first_fails p x (drop (suc at) rows) (fails k x.key.numbers (found.equal d)) ∙ kept p (drop (suc at) rows) back in
    sym (ap (filter p) split ∙ filter-append p (take at rows) (x ∷ drop (suc at) rows) ∙ ap (λ (ys : List (Record K)). ys ++ filter p (x ∷ drop (suc at) rows)) (kept p (take at rows) front) ∙ ap (λ (ys : List (Record K)). take at rows ++ ys) dropped)
  where
    first_fails : (p : Record K → Bool) (x : Record K) (xs : List (Record K)) → p x ≡ false → filter p (x ∷ xs) ≡ filter p xs
    first_fails p x xs e = rw e refl

-- where a key would stand between records that ascend, all of them have other keys
others-all : {K : ℕ} (k : List ℕ) (rows : List (Record K)) (at : ℕ) → Ascends rows → FitsBefore k rows at → rows ≡ filter (λ r. not (eq_by_cmp key_cmp k r.key.numbers)) rows
unfolding other_than
others-all {K} k rows at a f = sym (kept p rows (λ i e l. by i e l (sides i at)))
  where
    p : Record K → Bool
    p r = other_than k r.key.numbers

    sides : (i n : ℕ) → (i < n) ⊎ ((i ≡ n) ⊎ (n < i))
    sides i n = grind arith

    by : (i : ℕ) (e : Record K) → i < length rows → (i < at) ⊎ ((i ≡ at) ⊎ (at < i)) → p (get_or rows i e) ≡ true
    by i e l (inl low) = passes-above k (get_or rows i e).key.numbers (f.below i e low)
    by i e l (inr (inl same)) = passes-below k (get_or rows i e).key.numbers (subst (λ n. key_cmp k (get_or rows n e).key.numbers ≡ Less) (sym same) (f.above e (omega (arith, l, same))))
    by i e l (inr (inr high)) =
        let here : key_cmp k (get_or rows at e).key.numbers ≡ Less = f.above e (omega (arith, l, high)) in
        passes-below k (get_or rows i e).key.numbers (nat_list_cmp_total.trans k (get_or rows at e).key.numbers (get_or rows i e).key.numbers here (earlier rows e at i a high l))

-- the records of other keys are those of the table without the key
others-are : {K : ℕ} (k : List ℕ) (rows : List (Record K)) → filter (λ r. not (eq_by_cmp key_cmp k r.key.numbers)) rows ≡ map record_of (without (pairs_of rows) k)
others-are k rows =
    let p : List ℕ → Bool = λ x. not (eq_by_cmp key_cmp k x) in
    sym (records_back (filter (λ r. p r.key.numbers) rows)) ∙ ap (map record_of) (pairs-filter p rows)

-- records without the one that has a key are those of the table without the key
pub rows-without : {K : ℕ} (k : List ℕ) (rows : List (Record K)) (at : ℕ) → IsTable (pairs_of rows) → HasRecordAt rows k at → remove rows at ≡ map record_of (without (pairs_of rows) k)
rows-without k rows at h there = others-left k rows at (ascends rows h) there.inside there.key ∙ others-are k rows

-- records none of which has a key are those of the table without it
pub rows-lacking : {K : ℕ} (k : List ℕ) (rows : List (Record K)) (at : ℕ) → IsTable (pairs_of rows) → FitsBefore k rows at → rows ≡ map record_of (without (pairs_of rows) k)
rows-lacking k rows at h f = others-all k rows at (ascends rows h) f ∙ others-are k rows

-- the records of a bucket without a key ascend
pub without-ascends : {K : ℕ} (b : BucketOf K) (k : List ℕ) → IsTable (pairs_of b.rows) → IsTable (pairs_of (without_key b k).rows)
without-ascends {K} b k h = subst IsTable (sym (pairs-of-records K (without (pairs_of b.rows) k))) (is_sorted-where_key key_cmp (λ x. not (eq_by_cmp key_cmp k x)) (pairs_of b.rows) h)

-- a lawful bucket without a key is lawful
pub without-lawful : {K : ℕ} (m : ℕ) (b : BucketOf K) (k : List ℕ) → IsBucket m b → IsBucket m (without_key b k)
without-lawful m b k h =
    let p : List ℕ → Bool = λ x. not (eq_by_cmp key_cmp k x) in
    let few : length (filter (λ r. p r.key.numbers) b.rows) ≤ m = omega (arith, h.count, length-filter_both (λ r. p r.key.numbers) (λ r. not (p r.key.numbers)) (λ r. refl) b.rows) in
    subst (λ rows. IsBucket m (with_rows b rows)) (others-are k b.rows) (part-lawful m m b b.box b.number p h h.number h.turn h.region (λ x i j. i) few)
