-- How many records a region has after a put or a removal, and which keys they have.
use Rattle.std.proofs.Common.{◌≡◌, ◌≤◌, ◌+◌, ℕ, suc, Bool, true, false, cond, not, ◌&&◌, T, List, [], ◌∷◌, map, length, filter, Some, None, refl, sym, ap, ◌∙◌, arith, true≢false, is_eq, is_lt, is_some}
use Rattle.std.proofs.lemmas.List.{length-map}
use Rattle.std.specs.Ordering.{eq_by_cmp}
use Rattle.std.specs.declared.cmp.Ordering.{Ordering}
use Rattle.std.specs.declared.cmp.Ordering.TheVariants.{Less, Equal, Greater}
use Rattle.std.specs.Cmp.Lexicographic.{nat_list_cmp_total}
use Rattle.std.specs.FinMap.Entries.{where_key, is_sorted, below_all, by_order}
use Rattle.grid_types.specs.Keys.{key_cmp}
use Rattle.grid_model.specs.Tables.{Table, IsTable, get, with_data, without}
use Rattle.grid_model.proofs.Truths.{part-one, part-two, only-less}

-- the keys of a table's entries
abbrev pub keys_of : Table → List (List ℕ)
keys_of t = map (λ e. e.0) t

-- what passes one test and then another passes both
pub filter-both : {X : Type 0} (p q : X → Bool) (xs : List X) → filter q (filter p xs) ≡ filter (λ x. p x && q x) xs
filter-both p q [] = refl
filter-both {X} p q (x ∷ xs) = by (p x) (filter-both p q xs)
  where
    by : (t : Bool) → filter q (filter p xs) ≡ filter (λ y. p y && q y) xs → filter q (cond t (x ∷ filter p xs) (filter p xs)) ≡ cond (t && q x) (x ∷ filter (λ y. p y && q y) xs) (filter (λ y. p y && q y) xs)
    by true rest = ap (λ l. cond (q x) (x ∷ l) l) rest
    by false rest = rest

-- tests that answer alike pass the same
pub filter-alike : {X : Type 0} (p q : X → Bool) (xs : List X) → ((x : X) → p x ≡ q x) → filter p xs ≡ filter q xs
filter-alike p q xs same = ap (λ r. filter r xs) (λ i x. same x i)

-- the keys of the entries that pass are the keys that pass
pub keys-where : (p : List ℕ → Bool) (t : Table) → keys_of (where_key key_cmp p t) ≡ filter p (keys_of t)
keys-where p [] = refl
keys-where p (e ∷ t) = by (p e.0) (keys-where p t)
  where
    by : (b : Bool) → keys_of (where_key key_cmp p t) ≡ filter p (keys_of t) → keys_of (cond b (e ∷ where_key key_cmp p t) (where_key key_cmp p t)) ≡ cond b (e.0 ∷ filter p (keys_of t)) (filter p (keys_of t))
    by true rest = ap (λ l. e.0 ∷ l) rest
    by false rest = rest

-- there are as many
pub length-where : (p : List ℕ → Bool) (t : Table) → length (where_key key_cmp p t) ≡ length (filter p (keys_of t))
length-where p t = sym (length-map (where_key key_cmp p t) (λ e. e.0)) ∙ ap length (keys-where p t)

-- the keys after a put do not depend on its data
pub keys-put : (k d f : List ℕ) (t : Table) → keys_of (with_data t k d) ≡ keys_of (with_data t k f)
keys-put k d f [] = refl
keys-put k d f (e ∷ t) = by (key_cmp k e.0) (keys-put k d f t)
  where
    by : (o : Ordering) → keys_of (with_data t k d) ≡ keys_of (with_data t k f)
        → keys_of (by_order o ((k, d) ∷ e ∷ t) ((e.0, d) ∷ t) (e ∷ with_data t k d)) ≡ keys_of (by_order o ((k, f) ∷ e ∷ t) ((e.0, f) ∷ t) (e ∷ with_data t k f))
    by Less rest = refl
    by Equal rest = refl
    by Greater rest = ap (λ l. e.0 ∷ l) rest

at_least : (b : Bool) (n : ℕ) → n ≤ cond b (suc n) n
at_least true n = omega arith
at_least false n = omega arith

at_most : (b : Bool) (m n : ℕ) → m ≤ n → cond b (suc m) m ≤ cond b (suc n) n
at_most true m n h = omega (arith, h)
at_most false m n h = h

not_below : (k x : List ℕ) (t : Table) → key_cmp k x ≡ Less → T (below_all key_cmp x t) → get t k ≡ None
not_below k x [] o h = refl
not_below k x (e ∷ t) o h =
    ap (λ r. cond (is_eq r) (Some e.1) (get t k)) (nat_list_cmp_total.trans k x e.0 o (only-less (key_cmp x e.0) (part-one (is_lt (key_cmp x e.0)) (below_all key_cmp x t) h)))
    ∙ not_below k x t o (part-two (is_lt (key_cmp x e.0)) (below_all key_cmp x t) h)

-- a key below the first is not there
missed : (k : List ℕ) (e : List ℕ × List ℕ) (t : Table) → key_cmp k e.0 ≡ Less → T (below_all key_cmp e.0 t) → get (e ∷ t) k ≡ None
missed k e t o h = ap (λ r. cond (is_eq r) (Some e.1) (get t k)) o ∙ not_below k e.0 t o h

one_or_none : (b : Bool) (n : ℕ) → cond b (suc n) n ≤ n + 1
one_or_none true n = omega arith
one_or_none false n = omega arith

module _ (p : List ℕ → Bool) where
  -- how many entries pass
  abbrev count : Table → ℕ
  count t = length (where_key key_cmp p t)

  count-first : (e : List ℕ × List ℕ) (t : Table) → count (e ∷ t) ≡ cond (p e.0) (suc (count t)) (count t)
  count-first e t = by (p e.0)
    where
      by : (b : Bool) → length (cond b (e ∷ where_key key_cmp p t) (where_key key_cmp p t)) ≡ cond b (suc (count t)) (count t)
      by true = refl
      by false = refl

  more_each : (b : Bool) (m n : ℕ) → m ≤ n + 1 → cond b (suc m) m ≤ cond b (suc n) n + 1
  more_each true m n h = omega (arith, h)
  more_each false m n h = h

  -- after a put one more passes, at most
  pub count-put : (k d : List ℕ) (t : Table) → count (with_data t k d) ≤ count t + 1
  count-put k d [] = let one : count ((k, d) ∷ []) ≡ cond (p k) 1 0 = count-first (k, d) [] in let most = one_or_none (p k) 0 in omega (arith, one, most)
  count-put k d (e ∷ t) = by (key_cmp k e.0) (count-put k d t)
    where
      by : (o : Ordering) → count (with_data t k d) ≤ count t + 1 → count (by_order o ((k, d) ∷ e ∷ t) ((e.0, d) ∷ t) (e ∷ with_data t k d)) ≤ count (e ∷ t) + 1
      by Less rest = let first = count-first (k, d) (e ∷ t) in let most = one_or_none (p k) (count (e ∷ t)) in omega (arith, first, most)
      by Equal rest = let old = count-first e t in let new = count-first (e.0, d) t in omega (arith, old, new)
      by Greater rest = let old = count-first e t in let new = count-first e (with_data t k d) in let most = more_each (p e.0) (count (with_data t k d)) (count t) rest in omega (arith, old, new, most)

  -- as many pass where the key does not
  pub count-put-outside : (k d : List ℕ) (t : Table) → p k ≡ false → count (with_data t k d) ≡ count t
  count-put-outside k d [] out = count-first (k, d) [] ∙ ap (λ b. cond b 1 0) out
  count-put-outside k d (e ∷ t) out = by (key_cmp k e.0) (count-put-outside k d t out)
    where
      by : (o : Ordering) → count (with_data t k d) ≡ count t → count (by_order o ((k, d) ∷ e ∷ t) ((e.0, d) ∷ t) (e ∷ with_data t k d)) ≡ count (e ∷ t)
      by Less rest = count-first (k, d) (e ∷ t) ∙ ap (λ b. cond b (suc (count (e ∷ t))) (count (e ∷ t))) out
      by Equal rest = count-first (e.0, d) t ∙ sym (count-first e t)
      by Greater rest = count-first e (with_data t k d) ∙ ap (λ n. cond (p e.0) (suc n) n) rest ∙ sym (count-first e t)

  -- as many pass where the key is there
  pub count-put-there : (k d : List ℕ) (t : Table) → IsTable t → is_some (get t k) ≡ true → count (with_data t k d) ≡ count t
  count-put-there k d [] s there = absurd (true≢false (sym there))
  count-put-there k d (e ∷ t) s there = by (key_cmp k e.0) refl (count-put-there k d t (part-two _ _ s))
    where
      by : (o : Ordering) → key_cmp k e.0 ≡ o → (is_some (get t k) ≡ true → count (with_data t k d) ≡ count t)
          → count (by_order o ((k, d) ∷ e ∷ t) ((e.0, d) ∷ t) (e ∷ with_data t k d)) ≡ count (e ∷ t)
      by Less o rest = absurd (true≢false (sym there ∙ ap is_some (missed k e t o (part-one (below_all key_cmp e.0 t) (is_sorted key_cmp t) s))))
      by Equal o rest = count-first (e.0, d) t ∙ sym (count-first e t)
      by Greater o rest =
          count-first e (with_data t k d) ∙ ap (λ n. cond (p e.0) (suc n) n) (rest (sym (ap (λ r. is_some (cond (is_eq r) (Some e.1) (get t k))) o) ∙ there)) ∙ sym (count-first e t)

  -- no more pass after a removal
  pub count-without : (k : List ℕ) (t : Table) → count (without t k) ≤ count t
  count-without k [] = omega arith
  count-without k (e ∷ t) = by (eq_by_cmp key_cmp k e.0) (count-without k t)
    where
      by : (b : Bool) → count (without t k) ≤ count t → count (cond (not b) (e ∷ without t k) (without t k)) ≤ count (e ∷ t)
      by true rest = let old = count-first e t in let most = at_least (p e.0) (count t) in omega (arith, old, most, rest)
      by false rest = let old = count-first e t in let new = count-first e (without t k) in let most = at_most (p e.0) (count (without t k)) (count t) rest in omega (arith, old, new, most)
