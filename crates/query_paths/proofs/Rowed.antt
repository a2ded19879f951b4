-- The records of buckets that together have each matching key once are those of the table.
use Rattle.std.proofs.Common.{◌≡◌, ◌≤◌, ◌+◌, ◌==◌, ◌&&◌, ◌⊎◌, inl, inr, ℕ, Bool, true, false, cond, List, [], ◌∷◌, length, map, filter, All, Contains, sum_by, count_by, refl, ap, ◌∙◌, arith, eq-eqb}
use Rattle.std.proofs.lemmas.List.Elements.{All-head, All-tail}
use Rattle.std.proofs.lemmas.List.Sums.{sum_by-cons}
use Rattle.grid_types.specs.declared.query.Query.{Query}
use Rattle.grid_types.specs.declared.region.Region.{Region}
use Rattle.grid_types.specs.Keys.{key_cmp}
use Rattle.grid_types.specs.Queries.{matches}
use Rattle.grid_types.specs.Regions.{contains}
use Rattle.grid_model.specs.Listings.{rows}
use Rattle.grid_model.specs.Tables.{Table}
use Rattle.grid_model.specs.Layouts.{records_inside}
use Rattle.grid_model.specs.Spellings.{BucketOf}
use Rattle.grid_model.proofs.Members.{contains-split, contains-none, contains-first, contains-later}
use Rattle.grid_model.proofs.Summed.{sum-of-both, sum-of-nothing}
use Rattle.std.specs.FinMap.Entries.{where_key}

-- sums of numbers that are the same for each item are the same
pub sum-alike : {X : Type 0} (f g : X → ℕ) (xs : List X) → ((x : X) → Contains xs x → f x ≡ g x) → sum_by f xs ≡ sum_by g xs
sum-alike f g [] h = refl
sum-alike f g (x ∷ xs) h = omega (arith, sum_by-cons f x xs, sum_by-cons g x xs, h x (contains-first x xs), sum-alike f g xs (λ y m. h y (contains-later x xs y m)))

-- an item that passes is counted
pub counts-one : {X : Type 0} (p : X → Bool) (xs : List X) (x : X) → Contains xs x → p x ≡ true → 1 ≤ count_by p xs
counts-one p [] x h e = contains-none x h
counts-one {X} p (y ∷ xs) x h e = by (contains-split y xs x h) (counts-one p xs x)
  where
    by : (y ≡ x) ⊎ Contains xs x → (Contains xs x → p x ≡ true → 1 ≤ count_by p xs) → 1 ≤ count_by p (y ∷ xs)
    by (inl s) rest = let first : ◌≡◌ {A = ℕ} (cond (p y) 1 0) 1 = ap (λ (z : X). cond (p z) 1 0) s ∙ ap (λ t. cond t 1 0) e in omega (arith, sum_by-cons (λ z. cond (p z) 1 0) y xs, first)
    by (inr m) rest = let more = rest m e in omega (arith, sum_by-cons (λ z. cond (p z) 1 0) y xs, more)

-- where each item that passes has one number, no more pass than have it
pub counts-few : {X : Type 0} (p : X → Bool) (f : X → ℕ) (n : ℕ) (xs : List X) → ((x : X) → Contains xs x → p x ≡ true → f x ≡ n) → count_by p xs ≤ length (filter (λ m. m == n) (map f xs))
counts-few p f n [] h = omega arith
counts-few {X} p f n (x ∷ xs) h = by (p x) refl (counts-few p f n xs (λ y m. h y (contains-later x xs y m)))
  where
    at-least : (t : Bool) → length (filter (λ m. m == n) (map f xs)) ≤ length (cond t (f x ∷ filter (λ m. m == n) (map f xs)) (filter (λ m. m == n) (map f xs)))
    at-least true = omega arith
    at-least false = omega arith

    by : (t : Bool) → p x ≡ t → count_by p xs ≤ length (filter (λ m. m == n) (map f xs)) → count_by p (x ∷ xs) ≤ length (filter (λ m. m == n) (map f (x ∷ xs)))
    by true e rest =
        let here : (f x == n) ≡ true = eq-eqb (f x) n (h x (contains-first x xs) e) in
        let more : length (filter (λ m. m == n) (map f (x ∷ xs))) ≡ length (filter (λ m. m == n) (map f xs)) + 1 = ap (λ t. length (cond t (f x ∷ filter (λ m. m == n) (map f xs)) (filter (λ m. m == n) (map f xs)))) here ∙ omega arith in
        let first : ◌≡◌ {A = ℕ} (cond (p x) 1 0) 1 = ap (λ t. cond t 1 0) e in
        omega (arith, sum_by-cons (λ z. cond (p z) 1 0) x xs, first, more, rest)
    by false e rest =
        let first : ◌≡◌ {A = ℕ} (cond (p x) 1 0) 0 = ap (λ t. cond t 1 0) e in
        omega (arith, sum_by-cons (λ z. cond (p z) 1 0) x xs, first, at-least (f x == n), rest)

module _ {K : ℕ} (q : Query K) (test : List ℕ × List ℕ → Bool) where
  -- how many records of a table match and pass the test
  abbrev passing : Table → ℕ
  passing t = count_by test (rows t q)

  -- one entry more passes where it matches and passes the test
  one-passes : (e : List ℕ × List ℕ) (t : Table) → passing (e ∷ t) ≡ cond (matches q.sides e.0 && test e) 1 0 + passing t
  unfolding rows
  one-passes e t = by (matches q.sides e.0)
    where
      by : (m : Bool) → count_by test (cond m (e ∷ where_key key_cmp (matches q.sides) t) (where_key key_cmp (matches q.sides) t)) ≡ cond (m && test e) 1 0 + count_by test (where_key key_cmp (matches q.sides) t)
      by true = sum_by-cons (λ x. cond (test x) 1 0) e (where_key key_cmp (matches q.sides) t)
      by false = omega arith

  -- and of those of a region where this one has its key
  one-inside : (e : List ℕ × List ℕ) (t : Table) (r : Region K) → passing (records_inside (e ∷ t) r) ≡ cond (contains r e.0 && (matches q.sides e.0 && test e)) 1 0 + passing (records_inside t r)
  one-inside e t r = by (contains r e.0)
    where
      by : (b : Bool) → passing (cond b (e ∷ records_inside t r) (records_inside t r)) ≡ cond (b && (matches q.sides e.0 && test e)) 1 0 + passing (records_inside t r)
      by true = one-passes e (records_inside t r)
      by false = omega arith

  -- buckets, each entry that matches in one of them, have together as many of them as the table
  pub as-many-rows : (read : List (BucketOf K)) (t : Table) → All (λ e. matches q.sides e.0 ≡ true → count_by (λ (b : BucketOf K). contains b.box.region e.0) read ≡ 1) t
      → sum_by (λ (b : BucketOf K). count_by test (rows (records_inside t b.box.region) q)) read ≡ count_by test (rows t q)
  unfolding rows
  as-many-rows read [] h = sum-alike (λ (b : BucketOf K). passing (records_inside [] b.box.region)) (λ b. 0) read (λ b m. refl) ∙ sum-of-nothing read
  as-many-rows read (e ∷ t) h =
      ap (λ (f : BucketOf K → ℕ). sum_by f read) (λ i b. one-inside e t b.box.region i)
      ∙ sum-of-both (λ (b : BucketOf K). cond (contains b.box.region e.0 && (matches q.sides e.0 && test e)) 1 0) (λ (b : BucketOf K). passing (records_inside t b.box.region)) read
      ∙ omega (arith, one-passes e t, once (matches q.sides e.0) refl (test e), as-many-rows read t (All-tail (λ (x : List ℕ × List ℕ). matches q.sides x.0 ≡ true → count_by (λ (b : BucketOf K). contains b.box.region x.0) read ≡ 1) e t h))
    where
      here : matches q.sides e.0 ≡ true → count_by (λ (b : BucketOf K). contains b.box.region e.0) read ≡ 1
      here = All-head (λ (x : List ℕ × List ℕ). matches q.sides x.0 ≡ true → count_by (λ (b : BucketOf K). contains b.box.region x.0) read ≡ 1) e t h

      and-true : (a : Bool) → (a && true) ≡ a
      and-true true = refl
      and-true false = refl

      and-false : (a : Bool) → (a && false) ≡ false
      and-false true = refl
      and-false false = refl

      none : sum_by (λ (b : BucketOf K). cond (contains b.box.region e.0 && false) 1 0) read ≡ 0
      none = sum-alike (λ (b : BucketOf K). cond (contains b.box.region e.0 && false) 1 0) (λ b. 0) read (λ b m. ap (λ t. cond t 1 0) (and-false (contains b.box.region e.0))) ∙ sum-of-nothing read

      once : (m : Bool) → matches q.sides e.0 ≡ m → (s : Bool) → sum_by (λ (b : BucketOf K). cond (contains b.box.region e.0 && (m && s)) 1 0) read ≡ cond (m && s) 1 0
      once true is true = sum-alike (λ (b : BucketOf K). cond (contains b.box.region e.0 && true) 1 0) (λ b. cond (contains b.box.region e.0) 1 0) read (λ b g. ap (λ t. cond t 1 0) (and-true (contains b.box.region e.0))) ∙ here is
      once true is false = none
      once false is s = none
