-- The books of a root that is opened are those of a file.
use Rattle.std.proofs.Common.{◌≡◌, ℕ, zero, suc, ◌+◌, ◌<◌, ◌≤◌, List, [], ◌∷◌, ◌++◌, Bool, true, false, ◌||◌, cond, Option, Some, None, refl, sym, ◌∙◌, ap, subst, map, filter, replicate, length, length-append, take_all, arith, IsTrue, All}
use Rattle.std.specs.Prelude.{◌≢◌, ◌==◌, not, slice_get, slice_set, slice_index, slice_index_or, is_some, nat_lt, Contains}
use Rattle.std.specs.List.{list_any, count_by}
use Rattle.std.proofs.lemmas.List.{length-map, get_or-map, length-replicate}
use Rattle.std.proofs.lemmas.List.Folds.{list_any-append}
use Rattle.grid_types.specs.declared.half.Half.TheVariants.{First}
use Rattle.grid_types.specs.declared.owner.Owner.{Owner}
use Rattle.grid_types.specs.declared.owner.Owner.TheVariants.{Bucket, Part}
use Rattle.grid_types.specs.declared.shape.Shape.{Shape}
use Rattle.grid_types.specs.Owners.{same_owner}
use Rattle.grid_types.specs.Shapes.{is_shape, word_pages}
use Rattle.grid_types.proofs.Places.{within-limits}
use Rattle.grid_model.specs.Lists.{below, is_among, AreDistinct}
use Rattle.grid_model.specs.Images.{numbers_of}
use Rattle.grid_model.specs.Lawful.{nowhere, pages_named}
use Rattle.grid_model.proofs.Boundaries.{among-at, among-index}
use Rattle.grid_model.proofs.Counts.{count, few-below, swap-eq, among-filter, among-range}
use Rattle.grid_model.proofs.Members.{contains-filter, among-from-contains}
use Rattle.grid_model.proofs.Truths.{or-left, or-right}
use Rattle.page_states.specs.declared.page_state.PageState.{PageState}
use Rattle.page_states.specs.declared.page_state.PageState.TheVariants.{Free, Claimed, Live}
use Rattle.page_states.specs.States.{shows}
use Rattle.page_states.specs.Effects.{with_end, with_newest, claim_one}
use Rattle.page_states.specs.Laws.{Serves, Settled, with_content}
use Rattle.page_states.specs.Changes.{Publication, pages_of, all_published, with_pages}
use Rattle.std.proofs.lemmas.List.{map-set}
use Rattle.std.proofs.lemmas.Option.{slice_get_within}
use Rattle.page_states.proofs.ClaimedPages.{free_claim_keeps}
use Rattle.page_states.proofs.Lists.{get_set_same}
use Rattle.page_states.proofs.ServedPlaces.{publication_serves}
use Rattle.page_states.proofs.SettledPlaces.{publication_settles, start_settles, claim_settles}
use Rattle.page_states.proofs.VanishedPlaces.{start_serves}
use Rattle.layout_pages.specs.Steps.{bucket_publication, part_publication, named_publications, opened_states}
use Rattle.linear_scales.specs.Limited.{LimitedScale, scales_of, limits_of}
use Rattle.linear_scales.specs.Roots.{IsRoot, whole_of, area_of}
use Rattle.linear_scales.specs.declared.root.Root.{Root}
use Rattle.file_books.specs.Books.{AreBooksOf}
use Rattle.file_books.specs.Effects.{opened_books}
use Rattle.grid_types.specs.declared.geometry.Geometry.{Geometry}
use Rattle.file_state.specs.declared.memory.Memory.{Memory}
use Rattle.file_state.specs.Memories.{books_of, IsMemory}
use Rattle.file_state.specs.Openings.{is_named, AreBeginnable, IsNoneOf}
use Rattle.file_state.proofs.Shown.{no_bytes, few_shown, shown_is}
use Rattle.file_state.proofs.Filters.{among_passing, among_below, count_alike}
use Rattle.file_state.proofs.Named.{low_nowhere, named_pages, named_count, all_entries, apart, once_there, count_named, count_both, all_low}
use Rattle.file_state.proofs.Beginning.{free_beside}
use Rattle.file_state.proofs.Walks.{published_length, published_append}
use Rattle.file_state.proofs.Rooted.{counted_cells}

set_twice : {X : Type 0} (xs : List X) (p : ℕ) (x y : X) → slice_set (slice_set xs p x) p y ≡ slice_set xs p y
set_twice [] p x y = refl
set_twice (z ∷ xs) zero x y = refl
set_twice (z ∷ xs) (suc p) x y = ap (λ ys. z ∷ ys) (set_twice xs p x y)

-- a free page that begins is served as one that was claimed first
begin_serves : (content : Owner → Option (List ℕ)) (page at : ℕ) (owner : Owner) (states : List PageState) → slice_get states page ≡ Some Free → Settled at states → Serves content no_bytes at states
    → Serves (with_content content owner (Some [])) no_bytes at (with_newest page owner at states)
begin_serves content page at owner states free settled served =
    let claimed : slice_get (claim_one 0 states page) page ≡ Some (Claimed 0) = get_set_same states page (Claimed 0) (slice_get_within states page Free free) in
    let same : with_newest page owner at (claim_one 0 states page) ≡ with_newest page owner at states =
    ap (λ xs. slice_set xs page (Live owner at None)) (map-set (with_end owner at) states page (Claimed 0)) ∙ set_twice (map (with_end owner at) states) page (Claimed 0) (Live owner at None) in
    subst (Serves (with_content content owner (Some [])) no_bytes at) same
    (publication_serves content no_bytes page 0 at owner (claim_one 0 states page) claimed (claim_settles 0 at (page ∷ []) states settled) (free_claim_keeps 0 page at states free content no_bytes served))

-- pages that are all free, none of them twice
record AreAllFree (pages : List ℕ) (states : List PageState) : Type 0 where
  free : (i : ℕ) → i < length pages → slice_get states (slice_index pages i) ≡ Some Free
  distinct : (i j : ℕ) → i < j → j < length pages → slice_index pages j ≢ slice_index pages i

rest_free : (page at : ℕ) (owner : Owner) (pages : List ℕ) (states : List PageState) → AreAllFree (page ∷ pages) states → AreAllFree pages (with_newest page owner at states)
rest_free page at owner pages states ok = record {
  free = λ i low. free_beside page (slice_index pages i) at owner states (ok.distinct 0 (suc i) (omega arith) (omega (arith, low))) (ok.free (suc i) (omega (arith, low)));
  distinct = λ i j low high. ok.distinct (suc i) (suc j) (omega (arith, low)) (omega (arith, high));
}

begun_settle : (at : ℕ) (xs : List Publication) (states : List PageState) → Settled at states → Settled at (all_published at xs states)
begun_settle at [] states settled = settled
begun_settle at (x ∷ xs) states settled = begun_settle at xs (with_newest x.page x.owner at states) (publication_settles x.page at at x.owner states (omega arith) settled)

begun_serve : (content : Owner → Option (List ℕ)) (at : ℕ) (xs : List Publication) (states : List PageState) → AreAllFree (pages_of xs) states → Settled at states → Serves content no_bytes at states
    → Serves (with_pages content no_bytes xs) no_bytes at (all_published at xs states)
begun_serve content at [] states ok settled served = served
begun_serve content at (x ∷ xs) states ok settled served =
    begun_serve (with_content content x.owner (Some [])) at xs (with_newest x.page x.owner at states) (rest_free x.page at x.owner (pages_of xs) states ok)
    (publication_settles x.page at at x.owner states (omega arith) settled) (begin_serves content x.page at x.owner states (ok.free 0 (omega arith)) settled served)

moved : (a b c : Bool) → ((a || b) || c) ≡ (b || (a || c))
moved true true c = refl
moved true false c = refl
moved false b c = refl

or_false : (a : Bool) → (a || false) ≡ a
or_false true = refl
or_false false = refl

some_of : (t : Bool) (c : Option (List ℕ)) → is_some (cond t (Some []) c) ≡ (t || is_some c)
some_of true c = refl
some_of false c = refl

some_begun : (content : Owner → Option (List ℕ)) (o : Owner) (xs : List Publication) → is_some (with_pages content no_bytes xs o) ≡ (is_some (content o) || list_any (λ x. same_owner o x.owner) xs)
some_begun content o [] = sym (or_false (is_some (content o)))
some_begun content o (x ∷ xs) =
    some_begun (with_content content x.owner (Some [])) o xs
    ∙ ap (λ (t : Bool). t || list_any (λ (y : Publication). same_owner o y.owner) xs) (some_of (same_owner o x.owner) (content o))
    ∙ moved (same_owner o x.owner) (is_some (content o)) (list_any (λ (y : Publication). same_owner o y.owner) xs)

bucket_owner : (t : List ℕ) (m : ℕ) (ns : List ℕ) → list_any (λ x. same_owner (Bucket m) x.owner) (map (bucket_publication t) ns) ≡ is_among ns m
bucket_owner t m [] = refl
bucket_owner t m (n ∷ ns) = λ i. swap-eq m n i || bucket_owner t m ns i

part_owner : (t : List ℕ) (m : ℕ) (ns : List ℕ) → list_any (λ x. same_owner (Part m) x.owner) (map (part_publication t) ns) ≡ is_among ns m
part_owner t m [] = refl
part_owner t m (n ∷ ns) = λ i. swap-eq m n i || part_owner t m ns i

no_bucket : (t : List ℕ) (m : ℕ) (ns : List ℕ) → list_any (λ x. same_owner (Part m) x.owner) (map (bucket_publication t) ns) ≡ false
no_bucket t m [] = refl
no_bucket t m (n ∷ ns) = no_bucket t m ns

no_part : (t : List ℕ) (m : ℕ) (ns : List ℕ) → list_any (λ x. same_owner (Bucket m) x.owner) (map (part_publication t) ns) ≡ false
no_part t m [] = refl
no_part t m (n ∷ ns) = no_part t m ns

pages_append : (xs ys : List Publication) → pages_of (xs ++ ys) ≡ pages_of xs ++ pages_of ys
pages_append [] ys = refl
pages_append (x ∷ xs) ys = ap (λ (ps : List ℕ). x.page ∷ ps) (pages_append xs ys)

bucket_pages : (t : List ℕ) (ns : List ℕ) → pages_of (map (bucket_publication t) ns) ≡ map (slice_index t) ns
bucket_pages t [] = refl
bucket_pages t (n ∷ ns) = ap (λ (ps : List ℕ). slice_index t n ∷ ps) (bucket_pages t ns)

part_pages : (t : List ℕ) (ns : List ℕ) → pages_of (map (part_publication t) ns) ≡ map (slice_index t) ns
part_pages t [] = refl
part_pages t (n ∷ ns) = ap (λ (ps : List ℕ). slice_index t n ∷ ps) (part_pages t ns)

-- a page of the file is free where all are
pub free_there : (n q : ℕ) → q < n → slice_get (replicate n Free) q ≡ Some Free
free_there zero q low = absurd (omega (arith, low))
free_there (suc n) zero low = refl
free_there (suc n) (suc q) low = free_there n q (omega (arith, low))

module _ (pages : ℕ) (few : pages ≤ 65536) (table list : List ℕ) (all : All (λ p. p < pages) (list ++ pages_named table)) (distinct : AreDistinct (list ++ pages_named table)) where
  low_of : (q : ℕ) → is_among (list ++ pages_named table) q ≡ true → q < pages
  low_of q there = let w = among-index (list ++ pages_named table) q there in let low : slice_index (list ++ pages_named table) w.0 < pages = all w.0 0 w.1 in omega (arith, low, w.2)

  named_among : (i : ℕ) → i < length table → IsTrue (is_named table i) → is_among (pages_named table) (slice_index table i) ≡ true
  named_among i low named = among-from-contains (pages_named table) (slice_index table i) (contains-filter (λ p. not (p == nowhere)) table (slice_index table i) (contains_at table i low) named)
    where
      contains_at : (xs : List ℕ) (i : ℕ) → i < length xs → Contains xs (slice_index xs i)
      contains_at xs i low = (i, low, same_default xs i (slice_index xs i) low)
        where
          same_default : (xs : List ℕ) (i d : ℕ) → i < length xs → slice_index_or xs i d ≡ slice_index xs i
          same_default [] i d low = absurd (omega (arith, low))
          same_default (x ∷ xs) zero d low = refl
          same_default (x ∷ xs) (suc i) d low = same_default xs i d (omega (arith, low))

  both_counted : (q : ℕ) → count q list + count q (pages_named table) ≤ 1
  both_counted q = omega (arith, distinct q, count_both q list (pages_named table))

  pub list_few : length list ≤ pages
  list_few = omega (arith, few-below pages (list ++ pages_named table) distinct low_of, length-append list (pages_named table))

  pub list_low : (k : ℕ) → k < length list → slice_index list k < pages
  list_low k low = low_of (slice_index list k) (list_any-append (λ m. m == slice_index list k) list (pages_named table) ∙ or-left (is_among list (slice_index list k)) (is_among (pages_named table) (slice_index list k)) (among-at list (slice_index list k) k low refl))

  pub named_low : (i : ℕ) → i < length table → IsTrue (is_named table i) → slice_index table i < pages
  named_low i low named = low_of (slice_index table i) (list_any-append (λ m. m == slice_index table i) list (pages_named table) ∙ or-right (is_among list (slice_index table i)) (is_among (pages_named table) (slice_index table i)) (named_among i low named))

  -- the pages of a table may begin where all are free
  pub table_beginnable : AreBeginnable table (replicate pages Free)
  table_beginnable = record {
    free = λ i low named. free_there pages (slice_index table i) (named_low i low named);
    distinct = λ i j low high named same.
        let q_low : slice_index table j < nowhere = low_nowhere pages (slice_index table j) few (named_low j high named) in
        apart (slice_index table j) table (omega (arith, both_counted (slice_index table j), count_named (slice_index table j) table (λ e. omega (arith, q_low, e)))) i j low high (sym same) refl;
  }

  -- a part's page is none of the table's
  none_of_table : (k : ℕ) → k < length list → IsNoneOf table (slice_index list k)
  none_of_table k low i inside same =
      let q_low : slice_index list k < nowhere = low_nowhere pages (slice_index list k) few (list_low k low) in
      let one : 1 ≤ count (slice_index list k) list = once_there (slice_index list k) list k low refl in
      let two : 1 ≤ count (slice_index list k) table = once_there (slice_index list k) table i inside same in
      let named : count (slice_index list k) (pages_named table) ≡ count (slice_index list k) table = count_named (slice_index list k) table (λ e. omega (arith, q_low, e)) in
      omega (arith, one, two, named, both_counted (slice_index list k))

  pub list_named : All (λ p. p < nowhere) list
  list_named = all_low nowhere list (λ q there.
      low_nowhere pages q few (low_of q (list_any-append (λ m. m == q) list (pages_named table) ∙ or-left (is_among list q) (is_among (pages_named table) q) there)))

  -- the pages of the parts may begin where all but the table's are free
  pub list_beginnable : (now : List PageState) → ((q : ℕ) → IsNoneOf table q → slice_get (replicate pages Free) q ≡ Some Free → slice_get now q ≡ Some Free) → AreBeginnable list now
  list_beginnable now others = record {
    free = λ k low named. others (slice_index list k) (none_of_table k low) (free_there pages (slice_index list k) (list_low k low));
    distinct = λ i j low high named same. apart (slice_index list j) list (omega (arith, both_counted (slice_index list j))) i j low high (sym same) refl;
  }

  all_free : AreAllFree (pages_named table ++ list) (replicate pages Free)
  all_free = record {
    free = λ i low. free_there pages (slice_index (pages_named table ++ list) i) (swapped_low (slice_index (pages_named table ++ list) i) (among-at (pages_named table ++ list) (slice_index (pages_named table ++ list) i) i low refl));
    distinct = λ i j low high same.
        apart (slice_index (pages_named table ++ list) j) (pages_named table ++ list)
        (omega (arith, count_both (slice_index (pages_named table ++ list) j) (pages_named table) list, both_counted (slice_index (pages_named table ++ list) j))) i j low high (sym same) refl;
  }
    where
      swapped_low : (q : ℕ) → is_among (pages_named table ++ list) q ≡ true → q < pages
      swapped_low q there = low_of q (list_any-append (λ m. m == q) list (pages_named table) ∙ swap (is_among (pages_named table) q) (is_among list q) (sym (list_any-append (λ m. m == q) (pages_named table) list) ∙ there))
        where
          swap : (a b : Bool) → (a || b) ≡ true → (b || a) ≡ true
          swap true true e = refl
          swap true false e = refl
          swap false true e = refl
          swap false false e = e

  abbrev xs : List Publication
  xs = map (bucket_publication table) (numbers_of table) ++ map (part_publication list) (below (length list))

  pages_are : pages_of xs ≡ pages_named table ++ list
  pages_are =
      pages_append (map (bucket_publication table) (numbers_of table)) (map (part_publication list) (below (length list)))
      ∙ (λ i. (bucket_pages table (numbers_of table) ∙ named_pages table) i ++ (part_pages list (below (length list)) ∙ all_entries list (length list) (omega arith) ∙ take_all (length list) list (omega arith)) i)

  module _ (front : ℕ) where
    pub settled : Settled front (all_published front xs (replicate pages Free))
    settled = begun_settle front xs (replicate pages Free) (start_settles pages front)

    served : Serves (with_pages (λ o. None) no_bytes xs) no_bytes front (all_published front xs (replicate pages Free))
    served = begun_serve (λ o. None) front xs (replicate pages Free) (subst (λ (ps : List ℕ). AreAllFree ps (replicate pages Free)) (sym pages_are) all_free) (start_settles pages front) (start_serves no_bytes pages front)

    pub one : (o : Owner) → count_by (shows o front) (all_published front xs (replicate pages Free)) ≤ 1
    one = few_shown (with_pages (λ o. None) no_bytes xs) no_bytes front (all_published front xs (replicate pages Free)) served

    has_is : (o : Owner) → list_any (shows o front) (all_published front xs (replicate pages Free)) ≡ (list_any (λ x. same_owner o x.owner) (map (bucket_publication table) (numbers_of table)) || list_any (λ x. same_owner o x.owner) (map (part_publication list) (below (length list))))
    has_is o =
        shown_is (with_pages (λ o. None) no_bytes xs) no_bytes front (all_published front xs (replicate pages Free)) served o ∙ some_begun (λ o. None) o xs
        ∙ list_any-append (λ (x : Publication). same_owner o x.owner) (map (bucket_publication table) (numbers_of table)) (map (part_publication list) (below (length list)))

    pub bucket_has : (n : ℕ) → list_any (shows (Bucket n) front) (all_published front xs (replicate pages Free)) ≡ is_among (numbers_of table) n
    bucket_has n = has_is (Bucket n) ∙ (λ i. bucket_owner table n (numbers_of table) i || no_part list n (below (length list)) i) ∙ or_false (is_among (numbers_of table) n)

    pub part_has : (p : ℕ) → list_any (shows (Part p) front) (all_published front xs (replicate pages Free)) ≡ nat_lt p (length list)
    part_has p = has_is (Part p) ∙ (λ i. no_bucket table p (numbers_of table) i || part_owner list p (below (length list)) i) ∙ among_below (length list) p

-- a root that is opened gives lawful books
pub books_opened : {K : ℕ} (shape : Shape) (root : Root K) (first second : ℕ) → IsTrue (is_shape shape) → shape.k ≡ K → IsRoot shape root → first ≤ shape.slots → second ≤ shape.slots → AreBooksOf K (opened_books shape (whole_of root) first second)
unfolding opened_states
books_opened {K} shape root first second lawful attributes is low_first low_second =
    let few : shape.pages ≤ 65536 = (within-limits shape lawful).few_pages in
    let count : length (scales_of root.scales) ≡ K = sym (length-map (scales_of root.scales) length) ∙ is.fields.attributes ∙ attributes in
    record {
      lawful = lawful;
      attributes = attributes;
      size = published_length root.front (named_publications (area_of root)) (replicate shape.pages Free) ∙ length-replicate shape.pages Free;
      ranges = record { session = is.fields.session; number = is.fields.number; front = is.fields.front; half = omega arith; first = low_first; second = low_second };
      scales = record {
        attributes = count;
        ascend = λ a low. is.area.scales a [] (omega (arith, count, low));
        few_boundaries = λ a low.
            let inside : a < length (scales_of root.scales) = omega (arith, count, low) in
            let same = get_or-map length (scales_of root.scales) a [] 0 inside in
            let short = is.fields.few_boundaries a 0 (omega (arith, inside, length-map (scales_of root.scales) (λ (s : List ℕ). length s))) in
            omega (arith, same, short);
        few_cells = omega (arith, is.fields.few_cells, counted_cells (scales_of root.scales));
      };
      owners = record {
        settled = settled shape.pages few root.table.items root.parts.items is.area.pages is.area.distinct root.front;
        one = one shape.pages few root.table.items root.parts.items is.area.pages is.area.distinct root.front;
        directory = λ p. part_has shape.pages few root.table.items root.parts.items is.area.pages is.area.distinct root.front p ∙ ap (λ (n : ℕ). nat_lt p n) (is.fields.parts ∙ ap word_pages (counted_cells (scales_of root.scales)));
        numbers = λ n has.
            let there : is_among (numbers_of root.table.items) n ≡ true = sym (bucket_has shape.pages few root.table.items root.parts.items is.area.pages is.area.distinct root.front n) ∙ has in
            let inside = among-range 0 (length root.table.items) n (among-filter (is_named root.table.items) (below (length root.table.items)) n there).0 in
            omega (arith, inside.1, is.area.numbers);
        buckets = sym (ap (λ (m : ℕ). length (filter (λ n. list_any (shows (Bucket n) root.front) (all_published root.front (named_publications (area_of root)) (replicate shape.pages Free))) (below m))) (sym is.area.numbers)
            ∙ count_alike (λ n. list_any (shows (Bucket n) root.front) (all_published root.front (named_publications (area_of root)) (replicate shape.pages Free))) (is_named root.table.items) (length root.table.items)
            (λ n low. bucket_has shape.pages few root.table.items root.parts.items is.area.pages is.area.distinct root.front n ∙ among_passing (is_named root.table.items) (length root.table.items) n (λ e. low))
            ∙ named_count root.table.items);
      };
      some = is.fields.some_buckets;
      records = is.fields.records;
    }

-- the pages that begin one after the other are those of the opened root
pub states_opened : {K : ℕ} (shape : Shape) (root : Root K) (free first last : List PageState) → free ≡ replicate shape.pages Free
    → first ≡ all_published root.front (map (bucket_publication root.table.items) (numbers_of root.table.items)) free → last ≡ all_published root.front (map (part_publication root.parts.items) (below (length root.parts.items))) first
    → last ≡ opened_states shape.pages root.front (area_of root)
unfolding opened_states
states_opened shape root free first last start one two =
    two ∙ ap (all_published root.front (map (part_publication root.parts.items) (below (length root.parts.items)))) (one ∙ ap (all_published root.front (map (bucket_publication root.table.items) (numbers_of root.table.items))) start)
    ∙ sym (published_append root.front (map (bucket_publication root.table.items) (numbers_of root.table.items)) (map (part_publication root.parts.items) (below (length root.parts.items))) (replicate shape.pages Free))

-- what memory keeps of an opened root is lawful
pub memory_opened : {K : ℕ} (geometry : Geometry) (root : Root K) (first second : ℕ) (m : Memory K) → geometry.shape.k ≡ K → IsRoot geometry.shape root → limits_of root.scales ≡ replicate K geometry.shape.boundaries
    → first ≤ geometry.shape.slots → second ≤ geometry.shape.slots → m.geometry.shape ≡ geometry.shape → m.scales ≡ root.scales → m.unused_from ≡ 0 → books_of m ≡ opened_books geometry.shape (whole_of root) first second → IsMemory m
memory_opened {K} geometry root first second m attributes is limits low_first low_second shape scales none books = record {
  books = subst (AreBooksOf K) (sym books) (books_opened geometry.shape root first second geometry.lawful attributes is low_first low_second);
  limits = ap limits_of scales ∙ limits ∙ ap (λ (s : Shape). replicate K s.boundaries) (sym shape);
  used = λ n low. absurd (omega (arith, low, none));
}

-- the memory of an opened root, with what was made of it
pub memory_begun : {K : ℕ} (geometry : Geometry) (root : Root K) (first second buckets : ℕ) (scales : List LimitedScale) (states : List PageState) → geometry.shape.k ≡ K → IsRoot geometry.shape root → limits_of root.scales ≡ replicate K geometry.shape.boundaries
    → first ≤ geometry.shape.slots → second ≤ geometry.shape.slots → buckets ≡ length (pages_named root.table.items) → scales ≡ root.scales → states ≡ opened_states geometry.shape.pages root.front (area_of root)
    → IsMemory {K = K} (record {
      geometry = geometry;
      counts = record { session = root.session; front = root.front; records = root.records; buckets = buckets };
      roots = record { number = root.number; place = root.front; trying = None };
      journal = record { half = First; first_used = first; second_used = second };
      scales = scales;
      pages = states;
      unused_from = 0;
    })
memory_begun {K} geometry root first second buckets scales states attributes is limits low_first low_second e_buckets e_scales e_states =
    memory_opened geometry root first second
    (record {
      geometry = geometry;
      counts = record { session = root.session; front = root.front; records = root.records; buckets = buckets };
      roots = record { number = root.number; place = root.front; trying = None };
      journal = record { half = First; first_used = first; second_used = second };
      scales = scales;
      pages = states;
      unused_from = 0;
    })
    attributes is limits low_first low_second refl e_scales refl
    (λ i. record (opened_books geometry.shape (whole_of root) first second) { buckets = e_buckets i; scales = scales_of (e_scales i); pages = e_states i })
