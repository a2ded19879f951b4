-- Entries in order, of which each test passes as many as of a table, are the table.
use Rattle.std.proofs.Common.{◌≡◌, ◌≤◌, ◌+◌, ◌&&◌, ◌⊎◌, inl, inr, ℕ, suc, Bool, true, false, cond, T, List, [], ◌∷◌, get_or, Contains, count_by, refl, sym, ap, ◌∙◌, subst, arith, true≢false, is_lt, is_eq}
use Rattle.std.proofs.lemmas.List.{length-map, get_or-map}
use Rattle.std.proofs.lemmas.List.MinMax.{ranks_by}
use Rattle.std.proofs.lemmas.List.Sorted.{sorted_far, IsPermutation-map, sum_by-IsPermutation}
use Rattle.std.proofs.lemmas.List.Sums.{sum_by-cons}
use Rattle.std.specs.Cmp.{tied_itself}
use Rattle.std.specs.Cmp.Lexicographic.{nat_list_cmp_total}
use Rattle.std.specs.FinMap.Entries.{is_sorted, is_sorted-where_key, below_all}
use Rattle.std.specs.List.Sorted.{IsPermutation, IsSortedByKey}
use Rattle.std.specs.Ordering.{eq_by_cmp}
use Rattle.std.specs.declared.cmp.Ordering.TheVariants.{Less}
use Rattle.grid_types.specs.declared.query.Query.{Query}
use Rattle.grid_types.specs.declared.update.Record.{Record}
use Rattle.grid_types.specs.Keys.{key_cmp}
use Rattle.grid_types.specs.Queries.{matches}
use Rattle.grid_types.proofs.Numbers.{first, second, both}
use Rattle.grid_model.specs.Listings.{rows}
use Rattle.grid_model.specs.Lone.{record_of}
use Rattle.grid_model.specs.Tables.{Table, IsTable, pair_of, pairs_of}
use Rattle.grid_model.proofs.Members.{contains-split, contains-none, contains-first, contains-later}
use Rattle.grid_model.proofs.TableLaws.{one_key, equal_order}
use Rattle.grid_model.proofs.Truths.{part-one, part-two, only-less}
use Rattle.query_paths.proofs.Counts.{count-all}
use Rattle.query_paths.proofs.Rowed.{counts-one}

-- whether an entry is this one
is_entry : List ℕ × List ℕ → List ℕ × List ℕ → Bool
is_entry x e = eq_by_cmp key_cmp x.0 e.0 && eq_by_cmp key_cmp x.1 e.1

itself : (x : List ℕ × List ℕ) → is_entry x x ≡ true
unfolding is_entry
itself x = both (eq_by_cmp key_cmp x.0 x.0) (eq_by_cmp key_cmp x.1 x.1) (ap is_eq (tied_itself nat_list_cmp_total x.0)) (ap is_eq (tied_itself nat_list_cmp_total x.1))

same-entry : (x e : List ℕ × List ℕ) → is_entry x e ≡ true → e ≡ x
unfolding is_entry
same-entry x e h =
    let k = one_key x.0 e.0 (equal_order (key_cmp x.0 e.0) (first (eq_by_cmp key_cmp x.0 e.0) (eq_by_cmp key_cmp x.1 e.1) h)) in
    let d = one_key x.1 e.1 (equal_order (key_cmp x.1 e.1) (second (eq_by_cmp key_cmp x.0 e.0) (eq_by_cmp key_cmp x.1 e.1) h)) in
    λ i. (sym k i, sym d i)

-- an item that is counted is there
counted-there : {X : Type 0} (p : X → Bool) (xs : List X) → 1 ≤ count_by p xs → (x : X) × Contains xs x × (p x ≡ true)
counted-there p [] h = absurd (omega (arith, h))
counted-there {X} p (x ∷ xs) h = by (p x) refl (counted-there p xs)
  where
    by : (t : Bool) → p x ≡ t → (1 ≤ count_by p xs → (y : X) × Contains xs y × (p y ≡ true)) → (y : X) × Contains (x ∷ xs) y × (p y ≡ true)
    by true e rest = (x, contains-first x xs, e)
    by false e rest =
        let none : ◌≡◌ {A = ℕ} (cond (p x) 1 0) 0 = ap (λ t. cond t 1 0) e in
        let r = rest (omega (arith, h, sum_by-cons (λ y. cond (p y) 1 0) x xs, none)) in (r.0, contains-later x xs r.0 r.1, r.2)

-- an entry of the one is one of the other
counted-in : (xs ys : Table) (x : List ℕ × List ℕ) → Contains xs x → count_by (is_entry x) xs ≡ count_by (is_entry x) ys → Contains ys x
counted-in xs ys x m e =
    let some = counts-one (is_entry x) xs x m (itself x) in
    let r = counted-there (is_entry x) ys (omega (arith, some, e)) in
    subst (Contains ys) (same-entry x r.0 r.2) r.1

above-first : (k : List ℕ) (ys : Table) (x : List ℕ × List ℕ) → T (below_all key_cmp k ys) → Contains ys x → key_cmp k x.0 ≡ Less
above-first k [] x s m = contains-none x m
above-first k (y ∷ ys) x s m = by (contains-split y ys x m) (above-first k ys x (part-two (is_lt (key_cmp k y.0)) (below_all key_cmp k ys) s))
  where
    by : (y ≡ x) ⊎ Contains ys x → (Contains ys x → key_cmp k x.0 ≡ Less) → key_cmp k x.0 ≡ Less
    by (inl e) rest = ap (λ (z : List ℕ × List ℕ). key_cmp k z.0) (sym e) ∙ only-less (key_cmp k y.0) (part-one (is_lt (key_cmp k y.0)) (below_all key_cmp k ys) s)
    by (inr g) rest = rest g

-- entries whose keys do not descend
abbrev pub InOrder : Table → Type 0
InOrder xs = IsSortedByKey (λ (e : List ℕ × List ℕ). e.0) key_cmp xs

tail-in-order : (x : List ℕ × List ℕ) (xs : Table) → InOrder (x ∷ xs) → InOrder xs
tail-in-order x xs up = λ k d low high.
    subst (λ n. is_lt (key_cmp (get_or (x ∷ xs) n d).0 (get_or xs k d).0) ≡ false) (suc-more k) (up (suc k) d (omega arith) (omega (arith, high)))
  where
    suc-more : (k : ℕ) → suc k + 1 ≡ suc (k + 1)
    suc-more k = omega arith

first-least : (x y : List ℕ × List ℕ) (xs : Table) → InOrder (x ∷ xs) → Contains xs y → is_lt (key_cmp y.0 x.0) ≡ false
first-least x y xs up m =
    ap (λ (z : List ℕ × List ℕ). is_lt (key_cmp z.0 x.0)) (sym m.2)
    ∙ sorted_far (λ a b. is_lt (key_cmp a.0 b.0)) (ranks_by nat_list_cmp_total (λ (e : List ℕ × List ℕ). e.0)) (x ∷ xs) up 0 (suc m.0) y (omega arith) (omega (arith, m.1))

-- entries in order of which each test passes as many as of a table are the table
pub same-listing : (xs ys : Table) → InOrder xs → IsTable ys → ((test : List ℕ × List ℕ → Bool) → count_by test xs ≡ count_by test ys) → xs ≡ ys
same-listing [] [] up s h = refl
same-listing [] (y ∷ ys) up s h = absurd (omega (arith, count-all [] (y ∷ ys) h))
same-listing (x ∷ xs) [] up s h = absurd (omega (arith, count-all (x ∷ xs) [] h))
same-listing (x ∷ xs) (y ∷ ys) up s h =
    let e = heads (contains-split y ys x (counted-in (x ∷ xs) (y ∷ ys) x (contains-first x xs) (h (is_entry x)))) (contains-split x xs y (counted-in (y ∷ ys) (x ∷ xs) y (contains-first y ys) (sym (h (is_entry y))))) in
    let rest = same-listing xs ys (tail-in-order x xs up) (part-two (below_all key_cmp y.0 ys) (is_sorted key_cmp ys) s) (λ test.
    let here : ◌≡◌ {A = ℕ} (cond (test x) 1 0) (cond (test y) 1 0) = ap (λ (z : List ℕ × List ℕ). cond (test z) 1 0) e in
    omega (arith, h test, sum_by-cons (λ z. cond (test z) 1 0) x xs, sum_by-cons (λ z. cond (test z) 1 0) y ys, here)) in
    λ i. e i ∷ rest i
  where
    heads : (y ≡ x) ⊎ Contains ys x → (x ≡ y) ⊎ Contains xs y → x ≡ y
    heads (inl e) g = sym e
    heads (inr m) (inl e) = e
    heads (inr m) (inr n) =
        let low = above-first y.0 ys x (part-one (below_all key_cmp y.0 ys) (is_sorted key_cmp ys) s) m in
        absurd (true≢false (sym (ap is_lt low) ∙ first-least x y xs up n))

module _ {K : ℕ} where
  in-order : (rs : List (Record K)) → IsSortedByKey (λ (r : Record K). r.key.numbers) key_cmp rs → InOrder (pairs_of rs)
  in-order rs up = λ k d low high.
      let d' : Record K = record_of d in
      let long = length-map rs (pair_of {K = K}) in
      ap (λ (z : List ℕ × List ℕ). is_lt (key_cmp z.0 (get_or (pairs_of rs) k d).0)) (get_or-map pair_of rs (k + 1) d' d (omega (arith, high, long)))
      ∙ ap (λ (z : List ℕ × List ℕ). is_lt (key_cmp (get_or rs (k + 1) d').key.numbers z.0)) (get_or-map pair_of rs k d' d (omega (arith, high, long)))
      ∙ up k d' low (omega (arith, high, long))

  -- records that were put in order are the rows of a table of which each test passed as many
  pub listing-is : (before after : List (Record K)) (ys : Table) → IsPermutation before after → IsSortedByKey (λ (r : Record K). r.key.numbers) key_cmp after → IsTable ys
      → ((test : List ℕ × List ℕ → Bool) → count_by test (pairs_of before) ≡ count_by test ys) → pairs_of after ≡ ys
  listing-is before after ys moved up s h = same-listing (pairs_of after) ys (in-order after up) s (λ test.
      sum_by-IsPermutation (λ (e : List ℕ × List ℕ). cond (test e) 1 0) (pairs_of before) (pairs_of after) (IsPermutation-map pair_of before after moved) ∙ h test)

-- the records of a table that match ascend
pub rows-ascend : {K : ℕ} (t : Table) (q : Query K) → IsTable t → IsTable (rows t q)
unfolding rows
rows-ascend t q h = is_sorted-where_key key_cmp (matches q.sides) t h
