-- The records that are held under bucket numbers are those of the buckets that the pages spell.
use Rattle.std.proofs.Common.{◌≡◌, ◌≢◌, ◌<◌, ◌≤◌, ◌+◌, ◌==◌, ◌||◌, ◌∙◌, ℕ, Bool, true, false, cond, not, Contains, List, [], ◌∷◌, All, length, map, sum, filter, flat_map, slice_index, nat_le, refl, sym, ap, subst, arith}
use Rattle.std.specs.Prelude.{sum_by, if◌then◌else◌}
use Rattle.std.proofs.lemmas.Bool.{ne_eqb, eqb-false}
use Rattle.std.proofs.lemmas.List.{get_or-map}
use Rattle.std.proofs.lemmas.List.Elements.{All-head, All-tail, All-map, All-nil, All-cons}
use Rattle.std.proofs.lemmas.List.FromFn.{sum_by-map-range_with_len_more}
use Rattle.std.proofs.lemmas.List.Sums.{sum-map, sum_by-cons}
use Rattle.grid_types.specs.declared.shape.Shape.{Shape}
use Rattle.grid_types.specs.declared.sizes.TheConstants.{MOST_ATTRIBUTES, MOST_RECORDS}
use Rattle.grid_model.specs.Lawful.{nowhere}
use Rattle.grid_model.specs.Lists.{below}
use Rattle.grid_model.specs.Spellings.{BucketOf}
use Rattle.grid_model.specs.Buckets.{SpellsBucket}
use Rattle.grid_model.specs.Images.{entry_page, numbers_of, HasBuckets}
use Rattle.grid_model.proofs.Counts.{among-filter, among-range}
use Rattle.grid_model.proofs.Members.{among-from-contains}
use Rattle.std.proofs.lemmas.List.Elements.{All-contains_itself, All-weaker}
use Rattle.bucket_page.specs.OnPage.{bucket_told}
use Rattle.bucket_page.proofs.Standing.{one_bucket_spelled}
use Rattle.grid_check.specs.Rules.{HasRecords}
use Rattle.grid_check.specs.Reads.{AreHeld}
use Rattle.grid_check.specs.Covers.{records_under}
use Rattle.grid_check.specs.Marks.{Marks, MarksKeys, MarksBuckets, keys_at, keys_below}
use Rattle.grid_check.specs.declared.holding.Holding.{Holding}
use Rattle.grid_check.proofs.Held.{item}
use Rattle.grid_check.proofs.Tabled.{keys_spelled}

-- a number of a table that a bucket has
pub record IsHad (table : List ℕ) (n : ℕ) : Type 0 where
  pub inside : n < length table
  pub named : slice_index table n ≢ nowhere

not_false : (b : Bool) → not b ≡ true → b ≡ false
not_false true e = sym e
not_false false e = refl

not_true : (b : Bool) → not b ≡ false → b ≡ true
not_true true e = refl
not_true false e = sym e

-- each of the numbers of a table is one that a bucket has
pub all_had : (table : List ℕ) → All (IsHad table) (numbers_of table)
all_had table = All-weaker (λ n. Contains (numbers_of table) n) (IsHad table) had (numbers_of table) (All-contains_itself (numbers_of table))
  where
    had : (n : ℕ) → Contains (numbers_of table) n → IsHad table n
    had n c =
        let in_filter = among-filter (λ m. not (slice_index table m == nowhere)) (below (length table)) n (among-from-contains (numbers_of table) n c) in
        record {
          inside = omega (arith, (among-range 0 (length table) n in_filter.0).1);
          named = eqb-false (slice_index table n) nowhere (not_false (slice_index table n == nowhere) in_filter.1);
        }

-- what adds nothing may be left out
sum_without : (p : ℕ → Bool) (r : ℕ → ℕ) → ((n : ℕ) → p n ≡ false → r n ≡ 0) → (ns : List ℕ) → sum_by r ns ≡ sum_by r (filter p ns)
sum_without p r none [] = refl
sum_without p r none (n ∷ ns) = by (p n) refl (sum_without p r none ns)
  where
    by : (t : Bool) → p n ≡ t → sum_by r ns ≡ sum_by r (filter p ns) → sum_by r (n ∷ ns) ≡ sum_by r (cond t (n ∷ filter p ns) (filter p ns))
    by true e rest = omega (arith, sum_by-cons r n ns, sum_by-cons r n (filter p ns), rest)
    by false e rest = omega (arith, sum_by-cons r n ns, rest, none n e)

mapped_sum : (r : ℕ → ℕ) (ns : List ℕ) → sum_by (λ x. x) (map r ns) ≡ sum_by r ns
mapped_sum r [] = refl
mapped_sum r (n ∷ ns) = omega (arith, sum_by-cons (λ x. x) (r n) (map r ns), sum_by-cons r n ns, mapped_sum r ns)

-- what is counted of the items is counted of what they are mapped to
sum_alike : {X : Type 0} (f : X → ℕ) (number : X → ℕ) (r : ℕ → ℕ) (xs : List X) → All (λ x. f x ≡ r (number x)) xs → sum (map f xs) ≡ sum_by r (map number xs)
sum_alike f number r xs all = sum-map f xs ∙ go xs all
  where
    go : (xs : List _) → All (λ x. f x ≡ r (number x)) xs → sum_by f xs ≡ sum_by r (map number xs)
    go [] all = refl
    go (x ∷ xs) all = omega (arith, sum_by-cons f x xs, sum_by-cons r (number x) (map number xs), All-head (λ y. f y ≡ r (number y)) x xs all, go xs (All-tail (λ y. f y ≡ r (number y)) x xs all))

-- one more number is counted
pub one_counted : (r : ℕ → ℕ) (n count more : ℕ) → count ≡ sum_by (λ x. x) (map r (below n)) → more ≡ r n → count + more ≡ sum_by (λ x. x) (map r (below (n + 1)))
one_counted r n count more is here = omega (arith, is, here, sum_by-map-range_with_len_more (λ x. x) r 0 n n (omega arith))

-- each bucket that a page spells is the one that the page tells
pub all_told : {K : ℕ} (s : Shape) → K ≤ MOST_ATTRIBUTES → s.capacity ≤ MOST_RECORDS → (image table : List ℕ) → ((n : ℕ) → IsHad table n → SpellsBucket s.capacity (entry_page s image table n) (bucket_told K (entry_page s image table n)))
    → (bs : List (BucketOf K)) → HasBuckets s image table bs → All (λ b. b ≡ bucket_told K (entry_page s image table b.number)) bs
all_told {K} s few low image table told bs has = go bs (subst (All (IsHad table)) (sym has.numbers) (all_had table)) has.each
  where
    go : (bs : List (BucketOf K)) → All (IsHad table) (map (λ b. b.number) bs) → All (λ b. SpellsBucket s.capacity (entry_page s image table b.number) b) bs → All (λ b. b ≡ bucket_told K (entry_page s image table b.number)) bs
    go [] had all = All-nil (λ b. b ≡ bucket_told K (entry_page s image table b.number))
    go (b ∷ bs) had all =
        All-cons (λ b. b ≡ bucket_told K (entry_page s image table b.number)) b bs
        (one_bucket_spelled s.capacity (entry_page s image table b.number) b (bucket_told K (entry_page s image table b.number)) few low (All-head (λ b. SpellsBucket s.capacity (entry_page s image table b.number) b) b bs all) (told b.number (All-head (IsHad table) b.number (map (λ b. b.number) bs) had)))
        (go bs (All-tail (IsHad table) b.number (map (λ b. b.number) bs) had) (All-tail (λ b. SpellsBucket s.capacity (entry_page s image table b.number) b) b bs all))

module _ {K : ℕ} (s : Shape) (few : K ≤ MOST_ATTRIBUTES) (low : s.capacity ≤ MOST_RECORDS) (image table : List ℕ) (holdings : List (Holding K)) (long : length holdings ≡ length table) (held : AreHeld s image table holdings (length table)) where
  nothing_under : (n : ℕ) → not (slice_index table n == nowhere) ≡ false → records_under table holdings n ≡ 0
  nothing_under n e = ap (λ (b : Bool). if b || nat_le (length table) n then 0 else slice_index (map (λ h. h.count) holdings) n) (not_true (slice_index table n == nowhere) e)

  -- under the number of a bucket as many records are held as it has
  pub counted_under : (b : BucketOf K) → IsHad table b.number → SpellsBucket s.capacity (entry_page s image table b.number) b → length b.rows ≡ records_under table holdings b.number
  counted_under b had spelled =
      let inside : b.number < length holdings = omega (arith, had.inside, long) in
      let h = held b.number had.inside had.named (item holdings b.number inside) in
      let told = bucket_told K (entry_page s image table b.number) in
      ap (λ (c : BucketOf K). length c.rows) (one_bucket_spelled s.capacity (entry_page s image table b.number) b told few low spelled h.spelled)
      ∙ sym h.count_is ∙ sym (get_or-map (λ (x : Holding K). x.count) holdings b.number (item holdings b.number inside) 0 inside)
      ∙ (λ i. if (sym (ne_eqb (slice_index table b.number) nowhere had.named) i) || sym (over had.inside) i then 0 else slice_index (map (λ h. h.count) holdings) b.number)
    where
      over : b.number < length table → nat_le (length table) b.number ≡ false
      over lt = grind (arith, lt)

  each_counted : (bs : List (BucketOf K)) → All (IsHad table) (map (λ b. b.number) bs) → All (λ b. SpellsBucket s.capacity (entry_page s image table b.number) b) bs → All (λ b. length b.rows ≡ records_under table holdings b.number) bs
  each_counted [] had all = All-nil (λ b. length b.rows ≡ records_under table holdings b.number)
  each_counted (b ∷ bs) had all =
      All-cons (λ b. length b.rows ≡ records_under table holdings b.number) b bs
      (counted_under b (All-head (IsHad table) b.number (map (λ b. b.number) bs) had) (All-head (λ b. SpellsBucket s.capacity (entry_page s image table b.number) b) b bs all))
      (each_counted bs (All-tail (IsHad table) b.number (map (λ b. b.number) bs) had) (All-tail (λ b. SpellsBucket s.capacity (entry_page s image table b.number) b) b bs all))

  -- the buckets that the pages spell have as many records as are held in all
  pub all_counted : (count n : ℕ) → n ≡ length table → count ≡ sum_by (λ x. x) (map (records_under table holdings) (below n)) → HasRecords K s image table count
  all_counted count n end is bs has =
      let had : All (IsHad table) (map (λ b. b.number) bs) = subst (All (IsHad table)) (sym has.numbers) (all_had table) in
      sum_alike (λ b. length b.rows) (λ b. b.number) (records_under table holdings) bs (each_counted bs had has.each)
      ∙ ap (sum_by (records_under table holdings)) has.numbers
      ∙ sym (sum_without (λ n. not (slice_index table n == nowhere)) (records_under table holdings) nothing_under (below (length table)))
      ∙ sym (is ∙ ap (λ m. sum_by (λ x. x) (map (records_under table holdings) (below m))) end ∙ mapped_sum (records_under table holdings) (below (length table)))

  -- the buckets that the pages of the numbers tell
  abbrev pub told : List (BucketOf K)
  told = map (λ n. bucket_told K (entry_page s image table n)) (numbers_of table)

  -- under a number that a bucket has, the page tells a bucket of that number
  told_there : (n : ℕ) → IsHad table n → SpellsBucket s.capacity (entry_page s image table n) (bucket_told K (entry_page s image table n)) × ((bucket_told K (entry_page s image table n)).number ≡ n)
  told_there n had =
      let h = held n had.inside had.named (item holdings n (omega (arith, had.inside, long))) in
      (h.spelled, h.number_is)

  -- so the keys that the pages tell are those of whatever buckets they spell
  pub keys_marked : (old new : Marks) → MarksKeys (keys_below K s image table (length table)) old new → MarksBuckets K s image table old new
  keys_marked old new marks bs has =
      subst (λ (keys : List (List ℕ)). MarksKeys keys old new) (sym (keys_spelled s image table bs (all_told s few low image table (λ n had. (told_there n had).0) bs has) ∙ ap (flat_map (keys_at K s image table)) has.numbers)) marks

  their_numbers : (ns : List ℕ) → All (IsHad table) ns → map (λ b. b.number) (map (λ n. bucket_told K (entry_page s image table n)) ns) ≡ ns
  their_numbers [] all = refl
  their_numbers (n ∷ ns) all = λ i. (told_there n (All-head (IsHad table) n ns all)).1 i ∷ their_numbers ns (All-tail (IsHad table) n ns all) i

  -- they are the buckets of the table
  pub has_told : HasBuckets s image table told
  has_told = record {
    numbers = their_numbers (numbers_of table) (all_had table);
    each = All-map (λ b. SpellsBucket s.capacity (entry_page s image table b.number) b) (λ n. bucket_told K (entry_page s image table n)) (numbers_of table)
        (All-weaker (IsHad table) (λ n. SpellsBucket s.capacity (entry_page s image table (bucket_told K (entry_page s image table n)).number) (bucket_told K (entry_page s image table n)))
        (λ n had. let t = told_there n had in subst (λ m. SpellsBucket s.capacity (entry_page s image table m) (bucket_told K (entry_page s image table n))) (sym t.1) t.0) (numbers_of table) (all_had table));
  }

  -- they have one number of records
  pub one_count : (n m : ℕ) → HasRecords K s image table n → HasRecords K s image table m → n ≡ m
  one_count n m x y = sym (x told has_told) ∙ y told has_told
