-- A root that tells the current pages is one of the file.
use Rattle.std.proofs.Common.{◌≡◌, ◌⊎◌, inl, inr, ℕ, zero, suc, ◌+◌, ◌*◌, ◌/◌, ◌%◌, ◌<◌, ◌≤◌, ◌^◌, List, [], ◌∷◌, ◌++◌, Bool, true, false, ◌&&◌, Some, None, refl, sym, ◌∙◌, ap, subst, map, filter, length, length-append, arith, true≢false, IsTrue}
use Rattle.std.specs.Prelude.{◌==◌, not, slice_get, slice_index, slice_index_or, nat_le, nat_lt}
use Rattle.std.specs.Int.{div_ceil}
use Rattle.std.proofs.lemmas.Bool.{le-leb, lt-ltb, ltb-true, ne_eqb, eq-eqb, or_cases}
use Rattle.std.proofs.lemmas.List.{length-map, get_or-map}
use Rattle.std.proofs.lemmas.List.Folds.{list_any-append}
use Rattle.std.proofs.lemmas.List.Elements.{filter-append}
use Rattle.std.proofs.lemmas.Option.{slice_get_within, same_Some}
use Rattle.grid_types.specs.declared.owner.Owner.{Owner}
use Rattle.grid_types.specs.declared.owner.Owner.TheVariants.{Bucket, Part}
use Rattle.grid_types.specs.Owners.{same_owner}
use Rattle.grid_types.specs.Shapes.{word_pages}
use Rattle.grid_types.proofs.Places.{within-limits}
use Rattle.grid_model.specs.Lists.{below, is_among, AreDistinct}
use Rattle.grid_model.specs.Scales.{scale_of, is_scale}
use Rattle.grid_model.specs.Cells.{cells, parts}
use Rattle.grid_model.specs.Lawful.{nowhere, pages_named, cells_of_counts, IsAreaOf, IsRootOn}
use Rattle.grid_model.proofs.Boundaries.{among-index}
use Rattle.grid_model.proofs.Counts.{count, count-absent, count-filter, among-filter}
use Rattle.page_states.specs.declared.page_state.PageState.{PageState}
use Rattle.page_states.specs.declared.page_state.PageState.TheVariants.{Free, Claimed, Live}
use Rattle.page_states.specs.States.{shows}
use Rattle.page_states.specs.Current.{TellsPages}
use Rattle.page_states.proofs.Endings.{same_owner_refl, same_owner_is}
use Rattle.page_states.proofs.Shown.{second_holds}
use Rattle.file_books.specs.Books.{Books, has_page, AreBooksOf}
use Rattle.grid_model.specs.Spellings.{RootFields}
use Rattle.grid_model.specs.Roots.{AreRootFields}
use Rattle.linear_scales.specs.Limited.{LimitedScale, scales_of}
use Rattle.linear_scales.specs.Roots.{IsRoot, root_fields_of, area_of}
use Rattle.linear_scales.specs.declared.root.Root.{Root}
use Rattle.file_state.specs.declared.memory.Memory.{Memory}
use Rattle.file_state.specs.Memories.{books_of}
use Rattle.file_state.specs.Openings.{is_named}
use Rattle.file_state.specs.Roots.{next_fields}
use Rattle.file_state.proofs.Shown.{any_there, any_gives}
use Rattle.file_state.proofs.Filters.{count_alike}
use Rattle.file_state.proofs.Rooms.{fewer_buckets}
use Rattle.file_state.proofs.Named.{low_nowhere, named_count, at_most_once, all_low}

first_holds : (a b : Bool) → (a && b) ≡ true → a ≡ true
first_holds true b e = refl
first_holds false b e = e

-- how many parts so many cells fill
pub div_ceil_is : (n : ℕ) → div_ceil n 1000 ≡ (n + 999) / 1000
div_ceil_is n = omega arith

-- the cells of the numbers of boundaries are those of the scales
pub counted_cells : (scales : List (List ℕ)) → cells_of_counts (map length scales) ≡ cells scales
counted_cells [] = refl
counted_cells (s ∷ ss) = ap (λ (n : ℕ). (length s + 1) * n) (counted_cells ss)

module _ {K : ℕ} (b : Books) (is : AreBooksOf K b) where
  -- an owner has a page exactly where one is its current one
  current_there : (o : Owner) → has_page b o ≡ true → (p : ℕ) × (from : ℕ) × (slice_get b.pages p ≡ Some (Live o from None))
  current_there o has =
      let w = any_gives (shows o b.front) b.pages has in
      by w.0 w.1 w.2 w.3
    where
      by : (p : ℕ) (x : PageState) → slice_get b.pages p ≡ Some x → shows o b.front x ≡ true → (p : ℕ) × (from : ℕ) × (slice_get b.pages p ≡ Some (Live o from None))
      by p Free there shown = absurd (true≢false (sym shown))
      by p (Claimed s) there shown = absurd (true≢false (sym shown))
      by p (Live w from None) there shown = (p, from, there ∙ ap (λ (z : Owner). Some (Live z from None)) (same_owner_is w o (first_holds (same_owner w o) (nat_le from b.front) shown)))
      by p (Live w from (Some to)) there shown =
          let late : b.front < to = ltb-true b.front to (second_holds (nat_le from b.front) (nat_lt b.front to) (second_holds (same_owner w o) (nat_le from b.front && nat_lt b.front to) shown)) in
          let early : to ≤ b.front = is.owners.settled.ended_by p w from to there in
          absurd (omega (arith, late, early))

  current_shown : (o : Owner) (p from : ℕ) → slice_get b.pages p ≡ Some (Live o from None) → has_page b o ≡ true
  current_shown o p from there = any_there (shows o b.front) b.pages p (Live o from None) there (λ i. same_owner_refl o i && le-leb from b.front (is.owners.settled.began p o from there) i)

  few : b.shape.pages ≤ 65536
  few = (within-limits b.shape is.lawful).few_pages

  page_low : (p : ℕ) (x : PageState) → slice_get b.pages p ≡ Some x → p < b.shape.pages
  page_low p x there = let low : p < length b.pages = slice_get_within b.pages p x there in omega (arith, low, is.size)

  one_owner : (q k j from with_from : ℕ) (owner : ℕ → Owner) → ((i l : ℕ) → owner i ≡ owner l → i ≡ l) → slice_get b.pages q ≡ Some (Live (owner k) from None) → slice_get b.pages q ≡ Some (Live (owner j) with_from None) → k ≡ j
  one_owner q k j from with_from owner one e f =
      let same : Live (owner k) from None ≡ Live (owner j) with_from None = same_Some (Live (owner k) from None) (Live (owner j) with_from None) (sym e ∙ f) in
      one k j (cc)

  module _ (table list : List ℕ) (buckets : TellsPages Bucket nowhere b.pages table (length table)) (numbers : length table ≡ b.shape.pages) (directory : TellsPages Part nowhere b.pages list (length list)) (as_many : length list ≡ parts b.scales) where
    -- the page of a bucket that has one, and of each part
    bucket_told : (n : ℕ) → n < length table → has_page b (Bucket n) ≡ true → (from : ℕ) × (slice_get b.pages (slice_index table n) ≡ Some (Live (Bucket n) from None))
    bucket_told n low has =
        let w = current_there (Bucket n) has in
        (w.1, ap (slice_get b.pages) (buckets.pages n w.0 w.1 low w.2) ∙ w.2)

    part_told : (k : ℕ) → k < length list → (from : ℕ) × (slice_get b.pages (slice_index list k) ≡ Some (Live (Part k) from None))
    part_told k low =
        let w = current_there (Part k) (is.owners.directory k ∙ lt-ltb k (parts b.scales) (omega (arith, low, as_many))) in
        (w.1, ap (slice_get b.pages) (directory.pages k w.0 w.1 low w.2) ∙ w.2)

    none_told : (n : ℕ) → n < length table → has_page b (Bucket n) ≡ false → slice_index table n ≡ nowhere
    none_told n low has = buckets.others n low (λ p from there. true≢false (sym (current_shown (Bucket n) p from there) ∙ has))

    -- a number is named exactly where its bucket has a page
    named_is : (n : ℕ) → n < length table → is_named table n ≡ has_page b (Bucket n)
    named_is n low = by (has_page b (Bucket n)) refl
      where
        by : (t : Bool) → has_page b (Bucket n) ≡ t → is_named table n ≡ t
        by true e =
            let w = bucket_told n low e in
            let less : slice_index table n < nowhere = low_nowhere b.shape.pages (slice_index table n) few (page_low (slice_index table n) (Live (Bucket n) w.0 None) w.1) in
            ap not (ne_eqb (slice_index table n) nowhere (λ same. omega (arith, less, same)))
        by false e = ap not (eq-eqb (slice_index table n) nowhere (none_told n low e))

    pub as_many_buckets : length (pages_named table) ≡ b.buckets
    as_many_buckets =
        sym (named_count table)
        ∙ count_alike (is_named table) (λ n. has_page b (Bucket n)) (length table) named_is
        ∙ ap (λ (m : ℕ). length (filter (λ n. has_page b (Bucket n)) (below m))) numbers
        ∙ sym is.owners.buckets

    from_list : (q : ℕ) → is_among list q ≡ true → (k : ℕ) × (from : ℕ) × (slice_get b.pages q ≡ Some (Live (Part k) from None))
    from_list q there =
        let w = among-index list q there in
        let told = part_told w.0 w.1 in
        (w.0, told.0, ap (slice_get b.pages) (sym w.2) ∙ told.1)

    from_table : (q : ℕ) → is_among (pages_named table) q ≡ true → (n : ℕ) × (from : ℕ) × (slice_get b.pages q ≡ Some (Live (Bucket n) from None))
    from_table q there =
        let both = among-filter (λ p. not (p == nowhere)) table q there in
        let w = among-index table q both.0 in
        let named : is_named table w.0 ≡ true = ap (λ (p : ℕ). not (p == nowhere)) w.2 ∙ both.1 in
        let told = bucket_told w.0 w.1 (sym (named_is w.0 w.1) ∙ named) in
        (w.0, told.0, ap (slice_get b.pages) (sym w.2) ∙ told.1)

    low_named : (q : ℕ) → is_among (list ++ pages_named table) q ≡ true → q < b.shape.pages
    low_named q there = by (or_cases (is_among list q) (is_among (pages_named table) q) (sym (list_any-append (λ m. m == q) list (pages_named table)) ∙ there))
      where
        by : (is_among list q ≡ true) ⊎ (is_among (pages_named table) q ≡ true) → q < b.shape.pages
        by (inl e) = let w = from_list q e in page_low q (Live (Part w.0) w.1 None) w.2
        by (inr e) = let w = from_table q e in page_low q (Live (Bucket w.0) w.1 None) w.2

    once_in_list : (q : ℕ) → count q list ≤ 1
    once_in_list q = at_most_once q list (λ i j low high e f.
        let one = part_told i (omega (arith, low, high)) in
        let two = part_told j high in
        let same : i ≡ j = one_owner q i j one.0 two.0 Part (λ k l g. cc) (ap (slice_get b.pages) (sym e) ∙ one.1) (ap (slice_get b.pages) (sym f) ∙ two.1) in
        omega (arith, low, same))

    once_in_table : (q : ℕ) → (t : Bool) → is_among (pages_named table) q ≡ t → count q (pages_named table) ≤ 1
    once_in_table q false none = omega (arith, count-absent q (pages_named table) none)
    once_in_table q true there = omega (
      arith,
      count-filter (λ p. not (p == nowhere)) q table,
      at_most_once q table (λ i j low high e f.
          let one = bucket_told i (omega (arith, low, high)) (is_there i (omega (arith, low, high)) e) in
          let two = bucket_told j high (is_there j high f) in
          let same : i ≡ j = one_owner q i j one.0 two.0 Bucket (λ k l g. cc) (ap (slice_get b.pages) (sym e) ∙ one.1) (ap (slice_get b.pages) (sym f) ∙ two.1) in
          omega (arith, low, same)),
    )
      where
        is_there : (n : ℕ) → n < length table → slice_index table n ≡ q → has_page b (Bucket n) ≡ true
        is_there n low e = sym (named_is n low) ∙ ap (λ (p : ℕ). not (p == nowhere)) e ∙ (among-filter (λ p. not (p == nowhere)) table q there).1

    distinct_named : AreDistinct (list ++ pages_named table)
    distinct_named q = by (is_among list q) refl (is_among (pages_named table) q) refl
      where
        sum : count q (list ++ pages_named table) ≡ count q list + count q (pages_named table)
        sum = ap length (filter-append (λ m. m == q) list (pages_named table)) ∙ length-append (filter (λ m. m == q) list) (filter (λ m. m == q) (pages_named table))

        by : (s : Bool) → is_among list q ≡ s → (t : Bool) → is_among (pages_named table) q ≡ t → count q (list ++ pages_named table) ≤ 1
        by false e t f = omega (arith, sum, count-absent q list e, once_in_table q t f)
        by true e false f = omega (arith, sum, once_in_list q, count-absent q (pages_named table) f)
        by true e true f =
            let one = from_list q e in
            let two = from_table q f in
            let same : Live (Part one.0) one.1 None ≡ Live (Bucket two.0) two.1 None = same_Some (Live (Part one.0) one.1 None) (Live (Bucket two.0) two.1 None) (sym one.2 ∙ two.2) in
            absurd (cc)

    pub area_told : IsAreaOf b.shape (next_fields b) (record { scales = b.scales; parts = list; table = table })
    area_told = record {
      boundaries = refl;
      scales = λ k d low. subst (λ (s : List ℕ). IsTrue (is_scale s)) (any_default b.scales k [] d low) (is.scales.ascend k (omega (arith, low, is.scales.attributes)));
      parts = as_many;
      numbers = numbers;
      buckets = as_many_buckets;
      pages = all_low b.shape.pages (list ++ pages_named table) low_named;
      distinct = distinct_named;
    }
      where
        any_default : (xs : List (List ℕ)) (k : ℕ) (c d : List ℕ) → k < length xs → slice_index_or xs k c ≡ slice_index_or xs k d
        any_default [] k c d less = absurd (omega (arith, less))
        any_default (x ∷ xs) zero c d less = refl
        any_default (x ∷ xs) (suc k) c d less = any_default xs k c d (omega (arith, less))

  pub fields_told : b.number < 2 ^ 63 → IsRootOn b.shape ((b.number + 1) % 2) (next_fields b)
  fields_told less = record {
    parity = refl;
    number = omega (arith, less);
    session = is.ranges.session;
    front = is.ranges.front;
    attributes = length-map b.scales length ∙ is.scales.attributes ∙ sym is.attributes;
    few_boundaries = λ k d low.
        let inside : k < length b.scales = omega (arith, low, length-map b.scales (λ (s : List ℕ). length s)) in
        let same : slice_index_or (map length b.scales) k d ≡ length (scale_of b.scales k) = get_or-map length b.scales k [] d inside in
        let short : length (scale_of b.scales k) ≤ b.shape.boundaries = is.scales.few_boundaries k (omega (arith, inside, is.scales.attributes)) in
        omega (arith, same, short);
    few_cells = omega (arith, counted_cells b.scales, is.scales.few_cells);
    parts = ap word_pages (sym (counted_cells b.scales));
    some_buckets = is.some;
    few_buckets = fewer_buckets b is.size is.owners;
    records = is.records;
  }

-- a root in memory with the next numbers, the scales and the current pages has the next fields, and is one of the file
module _ {K : ℕ} (m : Memory K) (is : AreBooksOf K (books_of m)) (root : Root K) (number : root.number ≡ m.roots.number + 1) (session : root.session ≡ m.counts.session) (front : root.front ≡ m.counts.front)
    (records : root.records ≡ m.counts.records) (scales : root.scales ≡ m.scales) (count : length root.parts.items ≡ parts (scales_of m.scales)) (numbers : length root.table.items ≡ m.geometry.shape.pages)
    (buckets : TellsPages Bucket nowhere m.pages root.table.items (length root.table.items)) (directory : TellsPages Part nowhere m.pages root.parts.items (length root.parts.items)) where
  pub root_fields_told : root_fields_of root ≡ next_fields (books_of m)
  root_fields_told = λ i. record {
    number = number i;
    session = session i;
    front = front i;
    records = records i;
    boundaries = map length (scales_of (scales i));
    parts = count i;
    buckets = as_many_buckets (books_of m) is root.table.items root.parts.items buckets numbers directory count i;
  }

  area_same : area_of root ≡ record { scales = scales_of m.scales; parts = root.parts.items; table = root.table.items }
  area_same = ap (λ (ss : List LimitedScale). record { scales = scales_of ss; parts = root.parts.items; table = root.table.items }) scales

  pub root_told : m.roots.number < 2 ^ 63 → IsRoot m.geometry.shape root
  root_told less = record {
    fields = subst (AreRootFields m.geometry.shape) (sym root_fields_told) (fields_told (books_of m) is less);
    area = subst (λ (f : RootFields). IsAreaOf m.geometry.shape f (area_of root)) (sym root_fields_told)
        (subst (IsAreaOf m.geometry.shape (next_fields (books_of m))) (sym area_same) (area_told (books_of m) is root.table.items root.parts.items buckets numbers directory count));
  }
