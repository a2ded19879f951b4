-- What a walk has found and read where the place has the pages of a layout and a table.
use Rattle.std.proofs.Common.{◌≡◌, ◌≤◌, ◌+◌, ◌==◌, ℕ, Bool, true, false, cond, List, [], ◌∷◌, length, map, filter, Contains, Some, IsTrue, count_by, refl, sym, ap, ◌∙◌, subst, arith, nat_cmp}
use Rattle.std.proofs.lemmas.List.{length-map}
use Rattle.std.specs.Ordering.{eq_by_cmp}
use Rattle.std.specs.Cmp.{nat_cmp_total}
use Rattle.std.specs.FinMap.{nat_cmp-IsAntisymmetric}
use Rattle.std.specs.FinMap.Entries.{find}
use Rattle.grid_types.specs.declared.owner.Owner.{Owner}
use Rattle.grid_types.specs.declared.query.Query.{Query}
use Rattle.grid_types.specs.declared.shape.Shape.{Shape}
use Rattle.grid_types.specs.Keys.{IsKey}
use Rattle.grid_types.specs.Queries.{is_lawful, matches}
use Rattle.grid_types.specs.Regions.{contains, meets}
use Rattle.grid_types.proofs.Meeting.{met}
use Rattle.grid_model.specs.Lists.{is_among, AreDistinct}
use Rattle.grid_model.specs.Cells.{cell_of, parts_holding}
use Rattle.grid_model.specs.Listings.{rows}
use Rattle.grid_model.specs.Tables.{Table, pairs_of}
use Rattle.grid_model.specs.Layouts.{BucketBox, Layout, box, records_inside}
use Rattle.grid_model.specs.LayoutLaws.{StandsOver}
use Rattle.grid_model.specs.Spellings.{BucketOf}
use Rattle.grid_model.specs.Images.{bucket_on}
use Rattle.grid_model.proofs.Ascending.{each-found}
use Rattle.grid_model.proofs.Boxes.{one-value, one-box, some-not-none}
use Rattle.grid_model.proofs.CellLaws.{have-indices}
use Rattle.grid_model.proofs.Counts.{sorted-distinct}
use Rattle.grid_model.proofs.Divided.{pairs-of-records}
use Rattle.grid_model.proofs.Found.{one-number}
use Rattle.grid_model.proofs.Gathered.{each-entry}
use Rattle.grid_model.proofs.Members.{contains-first, contains-later, contains-filter, contains-from-filter}
use Rattle.query_paths.specs.Pinned.{Place, IsPinnedTo}
use Rattle.query_paths.specs.Paths.{NamesBucket, region_asked, pages_of_query}
use Rattle.query_paths.specs.Walks.{IsBoxCell, HasBoxCell, IsWholeWalk, IsCutShort, AreCellsMet, cells_met, bucket_numbers}
use Rattle.query_paths.proofs.Boxed.{choices-to, choices-from, holds-part, held-cell, parts-distinct}
use Rattle.query_paths.proofs.Distinct.{among-numbers, number-among, no-more}
use Rattle.query_paths.proofs.Naming.{place_over, pinned-place, named-box, bucket-is}
use Rattle.query_paths.proofs.Rowed.{sum-alike, counts-one, counts-few, as-many-rows}
use Rattle.query_paths.proofs.Stepping.{first-in, highest-is-cell, next-is-cell}

module _ {X : Type 0} where
  -- what is found by a number is an entry
  found-there : (es : List (ℕ × X)) (n : ℕ) (b : X) → find nat_cmp n es ≡ Some b → Contains es (n, b)
  found-there [] n b e = absurd (some-not-none b (sym e))
  found-there (x ∷ es) n b e = by (eq_by_cmp nat_cmp n x.0) refl e (found-there es n b)
    where
      by : (t : Bool) → eq_by_cmp nat_cmp n x.0 ≡ t → cond t (Some x.1) (find nat_cmp n es) ≡ Some b → (find nat_cmp n es ≡ Some b → Contains es (n, b)) → Contains (x ∷ es) (n, b)
      by true s f rest = subst (λ (y : ℕ × X). Contains (x ∷ es) y) (λ i. (sym (one-number n x.0 s) i, one-value x.1 b f i)) (contains-first x es)
      by false s f rest = contains-later x es (n, b) (rest f)

  -- the numbers of some of the entries stand once where those of all do
  some-distinct : (p : ℕ × X → Bool) (es : List (ℕ × X)) → AreDistinct (map (λ e. e.0) es) → AreDistinct (map (λ e. e.0) (filter p es))
  some-distinct p es h = λ n. let few = less n es in let most = h n in omega (arith, few, most)
    where
      both : (n m : ℕ) (s t : Bool) (xs ys : List ℕ) → length xs ≤ length ys → length (filter (λ k. k == n) (cond s (m ∷ xs) xs)) ≡ length (filter (λ k. k == n) (cond s (m ∷ xs) xs))
      both n m s t xs ys h = refl

      grow : (t : Bool) (m : ℕ) (xs ys : List ℕ) → length xs ≤ length ys → length (cond t (m ∷ xs) xs) ≤ length (cond t (m ∷ ys) ys)
      grow true m xs ys h = omega (arith, h)
      grow false m xs ys h = h

      skip : (t : Bool) (m : ℕ) (xs ys : List ℕ) → length xs ≤ length ys → length xs ≤ length (cond t (m ∷ ys) ys)
      skip true m xs ys h = omega (arith, h)
      skip false m xs ys h = h

      less : (n : ℕ) (xs : List (ℕ × X)) → length (filter (λ m. m == n) (map (λ e. e.0) (filter p xs))) ≤ length (filter (λ m. m == n) (map (λ e. e.0) xs))
      less n [] = omega arith
      less n (x ∷ xs) = by (p x) (less n xs)
        where
          by : (t : Bool) → length (filter (λ m. m == n) (map (λ e. e.0) (filter p xs))) ≤ length (filter (λ m. m == n) (map (λ e. e.0) xs))
              → length (filter (λ m. m == n) (map (λ e. e.0) (cond t (x ∷ filter p xs) (filter p xs)))) ≤ length (filter (λ m. m == n) (map (λ e. e.0) (x ∷ xs)))
          by true rest = grow (x.0 == n) x.0 (filter (λ m. m == n) (map (λ e. e.0) (filter p xs))) (filter (λ m. m == n) (map (λ e. e.0) xs)) rest
          by false rest = skip (x.0 == n) x.0 (filter (λ m. m == n) (map (λ e. e.0) (filter p xs))) (filter (λ m. m == n) (map (λ e. e.0) xs)) rest

module _ {K : ℕ} (shape : Shape) (L : Layout K) (t : Table) (file_page : Owner → ℕ) (stands : StandsOver shape L t) (q : Query K) (sides : length q.sides ≡ K) (lawful : is_lawful q.sides ≡ true) (cells_are : AreCellsMet L.scales q) where
  abbrev here : Place
  here = place_over shape L t file_page

  -- whether a box meets the query
  abbrev is_met : ℕ × BucketBox K → Bool
  is_met e = meets e.1.region q.sides

  -- a box that has a key that the query asks for meets it
  meets-at : (n : ℕ) (b : BucketBox K) (k : List ℕ) → box L n ≡ Some b → IsKey K k → contains b.region k ≡ true → matches q.sides k ≡ true → meets b.region q.sides ≡ true
  meets-at n b k there key inside asked_for = (met b.region q.sides (stands.sound.regions n b there) lawful).1 (record { key = k; is_key = key; inside = inside; asked = asked_for })

  met-among : (n : ℕ) (b : BucketBox K) → box L n ≡ Some b → meets b.region q.sides ≡ true → IsTrue (is_among (map (λ e. e.0) (filter is_met L.boxes)) n)
  met-among n b there e = number-among (λ (x : ℕ × BucketBox K). x.0) (filter is_met L.boxes) (n, b) (contains-filter is_met L.boxes (n, b) (found-there L.boxes n b there) e)

  -- numbers that the directory names at cells of the box are no more than the boxes that meet the query
  pub numbers-few : (ns : List ℕ) → AreDistinct ns → ((n : ℕ) → IsTrue (is_among ns n) → (cell : List ℕ) × IsBoxCell here (cells_met L.scales q) cell × NamesBucket here cell n) → length ns ≤ length (filter is_met L.boxes)
  numbers-few ns distinct each = omega (arith, no-more ns (map (λ e. e.0) (filter is_met L.boxes)) distinct (λ n g. at n (each n g)), length-map (filter is_met L.boxes) (λ (e : ℕ × BucketBox K). e.0))
    where
      at : (n : ℕ) → (cell : List ℕ) × IsBoxCell here (cells_met L.scales q) cell × NamesBucket here cell n → IsTrue (is_among (map (λ e. e.0) (filter is_met L.boxes)) n)
      at n x =
          let found = named-box shape L t file_page stands x.0 x.1.is_cell n x.2 in
          let m = (cells_are x.0 x.1.is_cell).1 x.1.inside in
          met-among n found.0 found.1.there (meets-at n found.0 m.key found.1.there m.is_key (found.1.inside m.key m.is_key m.there) m.asked)

  long : length (cells_met L.scales q).lo ≡ length (cells_met L.scales q).hi
  long = (first-in here q stands.sound.attributes sides lawful).is_cell.count ∙ sym (highest-is-cell here q stands.sound.attributes sides lawful).count

  -- parts that hold a cell of the box are no more than those of the region that is asked for
  pub parts-few : (parts : List ℕ) → AreDistinct parts → ((part : ℕ) → IsTrue (is_among parts part) → HasBoxCell here (cells_met L.scales q) part) → length parts ≤ length (parts_holding L.scales (region_asked q))
  parts-few parts distinct each = no-more parts (parts_holding L.scales (region_asked q)) distinct (λ part g.
      let x = each part g in
      subst (λ (r : ℕ). IsTrue (is_among (parts_holding L.scales (region_asked q)) r)) x.lies
      (holds-part L.scales (region_asked q) x.cell x.is_in.is_cell (choices-to (cells_met L.scales q).lo (cells_met L.scales q).hi x.cell long x.is_in.inside.count x.is_in.inside.within)))

  -- a walk that was cut short has read no more pages than the query takes
  pub cut-few : (start now : ℕ) → IsCutShort here (cells_met L.scales q) start now → now ≤ start + pages_of_query L q
  unfolding pages_of_query
  cut-few start now c = omega (arith, c.most, parts-few c.parts c.distinct_parts c.each_part, numbers-few c.numbers c.distinct c.each)

  module _ (start now : ℕ) (H : Table → Type 0) (w : IsWholeWalk here q (cells_met L.scales q) start now H) where
    -- a bucket that was read is that of its box
    is-bucket : (bucket : BucketOf K) → Contains w.read bucket → (b : BucketBox K) × (box L bucket.number ≡ Some b) × (bucket ≡ bucket_on t (bucket.number, b))
    is-bucket bucket m =
        let f = w.reading.each bucket m in
        let found = named-box shape L t file_page stands f.cell f.is_in.is_cell bucket.number f.names in
        (found.0, found.1.there, bucket-is shape L t file_page stands bucket.number found.0 f.bytes bucket found.1.there (f.has.page.given _ refl) f.has.expected.spelled)

    is-box : (bucket : BucketOf K) → Contains w.read bucket → box L bucket.number ≡ Some bucket.box
    is-box bucket m = let x = is-bucket bucket m in x.1 ∙ ap Some (sym (ap (λ (y : BucketOf K). y.box) x.2))

    rows-inside : (bucket : BucketOf K) → Contains w.read bucket → pairs_of bucket.rows ≡ records_inside t bucket.box.region
    rows-inside bucket m =
        let x = is-bucket bucket m in
        ap (λ (y : BucketOf K). pairs_of y.rows) x.2 ∙ pairs-of-records K (records_inside t x.0.region) ∙ ap (λ (y : BucketOf K). records_inside t y.box.region) (sym x.2)

    -- the bucket of a key that matches was read
    read-for : (k : List ℕ) → IsKey K k → matches q.sides k ≡ true → (bucket : BucketOf K) × Contains w.read bucket × (contains bucket.box.region k ≡ true)
    read-for k key asked_for =
        let cell = cell_of L.scales k in
        let is_cell = (have-indices K).key L.scales k (key.count ∙ sym stands.sound.attributes) in
        let inside = (cells_are cell is_cell).0 (record { key = k; is_key = key; there = refl; asked = asked_for }) in
        let n = w.named cell (record { is_cell = is_cell; inside = inside }) in
        let x = among-numbers (λ (y : BucketOf K). y.number) w.read n.number n.bucket_read in
        let found = named-box shape L t file_page stands cell is_cell n.number n.names in
        let same : found.0 ≡ x.0.box = one-box L n.number x.0.number found.0 x.0.box found.1.there (is-box x.0 x.1) (sym x.2) in
        (x.0, x.1, ap (λ (b : BucketBox K). contains b.region k) (sym same) ∙ found.1.inside k key refl)

    -- and no other one that has it
    once : (k : List ℕ) → IsKey K k → matches q.sides k ≡ true → count_by (λ (b : BucketOf K). contains b.box.region k) w.read ≡ 1
    once k key asked_for =
        let r = read-for k key asked_for in
        let some = counts-one (λ (b : BucketOf K). contains b.box.region k) w.read r.0 r.1 r.2 in
        let few = counts-few (λ (b : BucketOf K). contains b.box.region k) (λ b. b.number) r.0.number w.read (λ x m e. stands.sound.apart k x.number r.0.number x.box r.0.box (is-box x m) (is-box r.0 r.1) e r.2) in
        let most = w.reading.distinct r.0.number in
        omega (arith, some, few, most)

    -- the records found are those of the table that match
    pub found-rows : (test : List ℕ × List ℕ → Bool) → count_by test w.found ≡ count_by test (rows t q)
    found-rows test =
        w.rows_are test
        ∙ sum-alike (λ (b : BucketOf K). count_by test (rows (pairs_of b.rows) q)) (λ b. count_by test (rows (records_inside t b.box.region) q)) w.read (λ b m. ap (λ (s : Table). count_by test (rows s q)) (rows-inside b m))
        ∙ as-many-rows q test w.read t (λ i d l e. once _ (stands.keys _ _ (each-entry t stands.table i d l)) e)

    boxes-many : length (filter is_met L.boxes) ≤ length w.read
    boxes-many = omega (
      arith,
      no-more (map (λ e. e.0) (filter is_met L.boxes)) (bucket_numbers w.read) (some-distinct is_met L.boxes (sorted-distinct L.boxes stands.sound.numbered)) (λ n g. at n (among-numbers (λ (e : ℕ × BucketBox K). e.0) (filter is_met L.boxes) n g)),
      length-map (filter is_met L.boxes) (λ (e : ℕ × BucketBox K). e.0),
      length-map w.read (λ (b : BucketOf K). b.number),
    )
      where
        at : (n : ℕ) → (e : ℕ × BucketBox K) × Contains (filter is_met L.boxes) e × (e.0 ≡ n) → IsTrue (is_among (bucket_numbers w.read) n)
        at n x =
            let kept = contains-from-filter is_met L.boxes x.0 x.1 in
            let there : box L x.0.0 ≡ Some x.0.1 = subst (λ (e : ℕ × BucketBox K). find nat_cmp e.0 L.boxes ≡ Some e.1) kept.0.2 (each-found nat_cmp nat_cmp_total nat_cmp-IsAntisymmetric L.boxes stands.sound.numbered kept.0.0 x.0 kept.0.1) in
            let common = (met x.0.1.region q.sides (stands.sound.regions x.0.0 x.0.1 there) lawful).0 kept.1 in
            let r = read-for common.key common.is_key common.asked in
            let same : r.0.number ≡ n = stands.sound.apart common.key r.0.number x.0.0 r.0.box x.0.1 (is-box r.0 r.1) there r.2 common.inside ∙ x.2 in
            subst (λ (m : ℕ). IsTrue (is_among (bucket_numbers w.read) m)) same (number-among (λ (b : BucketOf K). b.number) w.read r.0 r.1)

    parts-many : length (parts_holding L.scales (region_asked q)) ≤ length w.parts
    parts-many = no-more (parts_holding L.scales (region_asked q)) w.parts (parts-distinct L.scales (region_asked q)) (λ part g.
        let x = held-cell L.scales (region_asked q) part g in
        let lies = choices-from (cells_met L.scales q).lo (cells_met L.scales q).hi x.0 long x.1 in
        let is_in = next-is-cell here (cells_met L.scales q) x.0 (highest-is-cell here q stands.sound.attributes sides lawful) long (record { count = lies.count; within = lies.within }) in
        subst (λ (r : ℕ). IsTrue (is_among w.parts r)) x.2 (w.named x.0 is_in).part_read)

    -- a whole walk has read as many pages as the query takes
    pub whole-many : now ≡ start + pages_of_query L q
    unfolding pages_of_query
    whole-many =
        let few = numbers-few (bucket_numbers w.read) w.reading.distinct (λ n g. let x = among-numbers (λ (b : BucketOf K). b.number) w.read n g in let f = w.reading.each x.0 x.1 in (f.cell, f.is_in, subst (NamesBucket here f.cell) x.2 f.names)) in
        omega (arith, w.steps, boxes-many, parts-many, parts-few w.parts w.reading.distinct_parts w.reading.each_part, few, length-map w.read (λ (b : BucketOf K). b.number))

-- all records of a table that match were found, and as many pages were read as the query takes
pub record IsFoundWhole {K : ℕ} (L : Layout K) (t : Table) (q : Query K) (start now : ℕ) (H : Table → Type 0) : Type 0 where
  pub found : Table
  pub holds_found : H found
  pub same : (test : List ℕ × List ℕ → Bool) → count_by test found ≡ count_by test (rows t q)
  pub steps : now ≡ start + pages_of_query L q

module _ {K : ℕ} (p : Place) (L : Layout K) (t : Table) (pin : IsPinnedTo p L t) (q : Query K) (sides : length q.sides ≡ K) (lawful : is_lawful q.sides ≡ true) (cells_are : AreCellsMet p.scales q) where
  cells_here : AreCellsMet L.scales q
  cells_here = subst (λ (scales : List (List ℕ)). AreCellsMet scales q) pin.scales_are cells_are

  -- a walk that went on to its end found them
  pub found-whole : (start now : ℕ) (H : Table → Type 0) → IsWholeWalk p q (cells_met p.scales q) start now H → IsFoundWhole L t q start now H
  found-whole start now H w =
      let over = subst (λ (x : Place). IsWholeWalk x q (cells_met x.scales q) start now H) (pinned-place p L t pin) w in
      record {
        found = over.found;
        holds_found = over.holds_found;
        same = found-rows p.shape L t p.file_page pin.stands q sides lawful cells_here start now H over;
        steps = whole-many p.shape L t p.file_page pin.stands q sides lawful cells_here start now H over;
      }

  -- one that was cut short has read no more
  pub cut-within : (start now : ℕ) → IsCutShort p (cells_met p.scales q) start now → now ≤ start + pages_of_query L q
  cut-within start now c = cut-few p.shape L t p.file_page pin.stands q sides lawful cells_here start now (subst (λ (x : Place). IsCutShort x (cells_met x.scales q) start now) (pinned-place p L t pin) c)
