-- There are more data pages than buckets: each owner has a page of its own, and there is a directory part.
use Rattle.std.proofs.Common.{◌≡◌, ℕ, zero, suc, ◌+◌, ◌<◌, ◌≤◌, List, [], ◌∷◌, ◌++◌, Bool, true, false, cond, refl, sym, ◌∙◌, ap, map, length, length-append, arith}
use Rattle.std.specs.Prelude.{◌==◌, is_some, slice_index}
use Rattle.std.specs.List.{count_by}
use Rattle.std.proofs.lemmas.List.{length-map}
use Rattle.std.proofs.lemmas.List.FromFn.{length-range_with_len}
use Rattle.std.proofs.lemmas.List.Sums.{sum_by-cons, sum_by-append, count_by-le-length, length-filter}
use Rattle.std.proofs.lemmas.Bool.{ltb-true}
use Rattle.grid_types.specs.declared.owner.Owner.{Owner}
use Rattle.grid_types.specs.declared.owner.Owner.TheVariants.{Bucket, Part}
use Rattle.grid_types.specs.Owners.{same_owner}
use Rattle.grid_model.specs.Lists.{below, is_among, AreDistinct}
use Rattle.grid_model.specs.Cells.{dims, cells, parts}
use Rattle.grid_model.proofs.Counts.{swap-eq, range-distinct, filter-distinct}
use Rattle.grid_cells.proofs.Products.{product-positive}
use Rattle.page_states.specs.Counts.{once}
use Rattle.page_states.specs.States.{is_current, number_of}
use Rattle.page_states.proofs.OwnersCounted.{current_pages_are_owners}
use Rattle.file_books.specs.Books.{Books, has_page, numbers_now, OwnersHavePages}
use Rattle.file_state.specs.Memories.{AreUsedBelow}
use Rattle.file_state.proofs.Shown.{content_at, no_bytes, serves_shown, counted, once_content}
use Rattle.file_state.proofs.Filters.{among_passing, among_below, count_all}

-- how often owners are in lists of buckets and of parts
bucket_times : (n : ℕ) (ns : List ℕ) → count_by (same_owner (Bucket n)) (map Bucket ns) ≡ count_by (λ k. k == n) ns
bucket_times n [] = refl
bucket_times n (m ∷ ms) = sum_by-cons (once (same_owner (Bucket n))) (Bucket m) (map Bucket ms) ∙ (λ i. cond {A = ℕ} (swap-eq n m i) 1 0 + bucket_times n ms i) ∙ sym (sum_by-cons (once (λ k. k == n)) m ms)

part_times : (n : ℕ) (ns : List ℕ) → count_by (same_owner (Part n)) (map Part ns) ≡ count_by (λ k. k == n) ns
part_times n [] = refl
part_times n (m ∷ ms) = sum_by-cons (once (same_owner (Part n))) (Part m) (map Part ms) ∙ (λ i. cond {A = ℕ} (swap-eq n m i) 1 0 + part_times n ms i) ∙ sym (sum_by-cons (once (λ k. k == n)) m ms)

no_bucket : (n : ℕ) (ns : List ℕ) → count_by (same_owner (Part n)) (map Bucket ns) ≡ 0
no_bucket n [] = refl
no_bucket n (m ∷ ms) = omega (arith, sum_by-cons (once (same_owner (Part n))) (Bucket m) (map Bucket ms), no_bucket n ms)

no_part : (n : ℕ) (ns : List ℕ) → count_by (same_owner (Bucket n)) (map Part ns) ≡ 0
no_part n [] = refl
no_part n (m ∷ ms) = omega (arith, sum_by-cons (once (same_owner (Bucket n))) (Part m) (map Part ms), no_part n ms)

-- numbers that stand once are counted where they are
once_there : (n : ℕ) (ns : List ℕ) → AreDistinct ns → count_by (λ k. k == n) ns ≡ cond (is_among ns n) 1 0
once_there n ns distinct = counted (λ k. k == n) ns (omega (arith, distinct n, length-filter (λ (k : ℕ). k == n) ns))

-- there is a cell
pub interval_there : (scales : List (List ℕ)) (a : ℕ) → a < length (dims scales) → 1 ≤ slice_index (dims scales) a
interval_there [] a low = absurd (omega (arith, low))
interval_there (s ∷ ss) zero low = omega arith
interval_there (s ∷ ss) (suc a) low = interval_there ss a (omega (arith, low))

pub some_cell : (scales : List (List ℕ)) → 1 ≤ cells scales
some_cell scales = product-positive (dims scales) (interval_there scales)

pub some_part : (scales : List (List ℕ)) → 1 ≤ parts scales
some_part scales = omega (arith, some_cell scales)

module _ (b : Books) (size : length b.pages ≡ b.shape.pages) (owners : OwnersHavePages b) where
  -- the owners that have a page, each once
  abbrev pub owners_now : List Owner
  owners_now = map Bucket (numbers_now b) ++ map Part (below (parts b.scales))

  listed : (o : Owner) → count_by (same_owner o) owners_now ≡ once is_some (content_at b.front b.pages o)
  listed (Bucket n) =
      let sum : count_by (same_owner (Bucket n)) owners_now ≡ count_by (same_owner (Bucket n)) (map Bucket (numbers_now b)) + count_by (same_owner (Bucket n)) (map Part (below (parts b.scales))) =
      sum_by-append (once (same_owner (Bucket n))) (map Bucket (numbers_now b)) (map Part (below (parts b.scales))) in
      let first : count_by (same_owner (Bucket n)) (map Bucket (numbers_now b)) ≡ cond (has_page b (Bucket n)) 1 0 =
      bucket_times n (numbers_now b) ∙ once_there n (numbers_now b) (filter-distinct (λ m. has_page b (Bucket m)) (below b.shape.pages) (range-distinct 0 b.shape.pages))
      ∙ ap (λ (t : Bool). cond {A = ℕ} t 1 0) (among_passing (λ m. has_page b (Bucket m)) b.shape.pages n (owners.numbers n)) in
      let second : count_by (same_owner (Bucket n)) (map Part (below (parts b.scales))) ≡ 0 = no_part n (below (parts b.scales)) in
      let all : count_by (same_owner (Bucket n)) owners_now ≡ cond (has_page b (Bucket n)) 1 0 = omega (arith, sum, first, second) in
      all ∙ sym (once_content (has_page b (Bucket n)))
  listed (Part p) =
      let sum : count_by (same_owner (Part p)) owners_now ≡ count_by (same_owner (Part p)) (map Bucket (numbers_now b)) + count_by (same_owner (Part p)) (map Part (below (parts b.scales))) =
      sum_by-append (once (same_owner (Part p))) (map Bucket (numbers_now b)) (map Part (below (parts b.scales))) in
      let first : count_by (same_owner (Part p)) (map Bucket (numbers_now b)) ≡ 0 = no_bucket p (numbers_now b) in
      let second : count_by (same_owner (Part p)) (map Part (below (parts b.scales))) ≡ cond (has_page b (Part p)) 1 0 =
      part_times p (below (parts b.scales)) ∙ once_there p (below (parts b.scales)) (range-distinct 0 (parts b.scales))
      ∙ ap (λ (t : Bool). cond {A = ℕ} t 1 0) (among_below (parts b.scales) p ∙ sym (owners.directory p)) in
      let all : count_by (same_owner (Part p)) owners_now ≡ cond (has_page b (Part p)) 1 0 = omega (arith, sum, first, second) in
      all ∙ sym (once_content (has_page b (Part p)))

  -- buckets and parts together are no more than pages
  pub all_have_room : b.buckets + parts b.scales ≤ b.shape.pages
  all_have_room =
      let many : count_by is_current b.pages ≡ length owners_now = current_pages_are_owners (content_at b.front b.pages) no_bytes b.front b.pages owners_now owners.settled (serves_shown b.front b.pages owners.one) listed in
      let most : count_by is_current b.pages ≤ length b.pages = count_by-le-length is_current b.pages in
      let sum : length owners_now ≡ length (map Bucket (numbers_now b)) + length (map Part (below (parts b.scales))) = length-append (map Bucket (numbers_now b)) (map Part (below (parts b.scales))) in
      let first : length (map Bucket (numbers_now b)) ≡ length (numbers_now b) = length-map (numbers_now b) Bucket in
      let second : length (map Part (below (parts b.scales))) ≡ parts b.scales = length-map (below (parts b.scales)) Part ∙ length-range_with_len 0 (parts b.scales) in
      let counted_buckets : b.buckets ≡ length (numbers_now b) = owners.buckets in
      omega (arith, many, most, sum, first, second, counted_buckets, size)

  pub fewer_buckets : b.buckets < b.shape.pages
  fewer_buckets = omega (arith, all_have_room, some_part b.scales)

  pub fewer_parts : parts b.scales ≤ b.shape.pages
  fewer_parts = omega (arith, all_have_room)

  -- an owner of a number that no page has, has no page
  pub none_beyond : (o : Owner) → b.shape.pages ≤ number_of o → has_page b o ≡ false
  none_beyond (Bucket n) far = by (has_page b (Bucket n)) refl
    where
      by : (t : Bool) → has_page b (Bucket n) ≡ t → has_page b (Bucket n) ≡ false
      by false e = e
      by true e = let low : n < b.shape.pages = owners.numbers n e in absurd (omega (arith, low, far))
  none_beyond (Part p) far = by (has_page b (Part p)) refl
    where
      by : (t : Bool) → has_page b (Part p) ≡ t → has_page b (Part p) ≡ false
      by false e = e
      by true e = let low : p < parts b.scales = ltb-true p (parts b.scales) (sym (owners.directory p) ∙ e) in absurd (omega (arith, low, far, fewer_parts))

  -- some bucket number has no page
  pub one_unused : AreUsedBelow b b.shape.pages → ⊥
  one_unused all =
      let many : length (numbers_now b) ≡ b.shape.pages = count_all (λ n. has_page b (Bucket n)) b.shape.pages all in
      let counted_buckets : b.buckets ≡ length (numbers_now b) = owners.buckets in
      omega (arith, many, counted_buckets, fewer_buckets)

  -- the numbers below which all are used are numbers of pages
  pub used_within : (from : ℕ) → AreUsedBelow b from → from ≤ b.shape.pages
  used_within zero used = omega arith
  used_within (suc from) used = let low : from < b.shape.pages = owners.numbers from (used from (omega arith)) in omega (arith, low)
