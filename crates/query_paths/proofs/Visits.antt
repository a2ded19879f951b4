-- What a visit of a cell makes of a walk.
use Rattle.std.proofs.Common.{◌≡◌, ◌<◌, ◌≤◌, ◌+◌, ◌/◌, ◌==◌, ◌||◌, ◌⊎◌, inl, inr, ℕ, Bool, true, false, cond, List, ◌∷◌, ◌++◌, length, slice_index_or, slice_set, Some, IsTrue, Contains, count_by, refl, sym, ap, ◌∙◌, subst, arith, true≢false, length-append, eqb-true, eq-eqb}
use Rattle.std.proofs.lemmas.Bool.{cases_lt}
use Rattle.std.proofs.lemmas.List.{length-map, get_or-set_other, get_or-set_same}
use Rattle.std.proofs.lemmas.List.Sums.{sum_by-cons, sum_by-append}
use Rattle.grid_types.specs.declared.cell_box.CellBox.{CellBox}
use Rattle.grid_types.specs.declared.query.Query.{Query}
use Rattle.grid_types.specs.declared.sizes.TheConstants.{MOST_RECORDS, WORDS_ON_PAGE}
use Rattle.grid_model.specs.Lists.{is_among}
use Rattle.grid_model.specs.Cells.{dims, cell_index, part_of}
use Rattle.grid_model.specs.Listings.{rows}
use Rattle.grid_model.specs.Tables.{Table, pairs_of}
use Rattle.grid_model.specs.Spellings.{BucketOf}
use Rattle.grid_model.specs.Expected.{SoughtCell}
use Rattle.grid_model.proofs.Boxes.{one-value}
use Rattle.grid_model.proofs.Indices.{one-cell}
use Rattle.grid_model.proofs.Members.{contains-split}
use Rattle.query_paths.specs.declared.room.Held.{Held}
use Rattle.query_paths.specs.declared.room.Room.{Room}
use Rattle.query_paths.specs.Pinned.{Place}
use Rattle.query_paths.specs.Paths.{NamesBucket, HasBucket}
use Rattle.query_paths.specs.Readings.{IsGoodPart}
use Rattle.query_paths.specs.Walks.{IsBoxCell, HasBoxCell, IsHeldGood, IsHeldBy, Kept, Fresh, IsNamedAmong, IsReadFor, IsWalked, IsCutShort, bucket_numbers}
use Rattle.query_paths.proofs.Distinct.{distinct-more, among-split, among-first, among-later, among-numbers}
use Rattle.query_paths.proofs.Found.{few-rows}

module _ {K : ℕ} (p : Place) (part : ℕ) (old new : Room K) (before now at : ℕ) where
  -- the page that is held is a good one
  pub held-good : IsHeldGood p old → IsHeldBy p part old new before now at → IsGoodPart p part new.part.value at
  held-good good (Kept s) = subst (λ (r : Room K). IsGoodPart p part r.part.value at) (sym s.same) (good (record { part = part; at = at }) s.was)
  held-good good (Fresh f) = f.good

  -- and so is each that is
  pub good-after : IsHeldGood p old → IsHeldBy p part old new before now at → IsHeldGood p new
  good-after good (Kept s) = subst (λ (r : Room K). IsHeldGood p r) (sym s.same) good
  good-after good (Fresh f) = λ h is. subst (λ (x : Held). IsGoodPart p x.part new.part.value x.at) (one-value (record { part = part; at = at }) h (sym f.is ∙ is)) f.good

module _ {K : ℕ} (p : Place) (q : Query K) (b : CellBox K) (i : ℕ) (start : ℕ) (H : Table → Type 0) where
  -- a walk with a part of the index's page held, among those that were read
  pub record HasPart (room : Room K) (now : ℕ) : Type 0 where
    pub walked : IsWalked p q b i room start now H
    pub here : IsTrue (is_among walked.parts (i / WORDS_ON_PAGE))

  module _ (cell : List ℕ) (is_in : IsBoxCell p b cell) (is : i ≡ cell_index (dims p.scales) cell) where
    part-is : part_of p.scales cell ≡ i / WORDS_ON_PAGE
    part-is = ap (λ n. n / WORDS_ON_PAGE) (sym is)

    module _ (old new : Room K) (before now at : ℕ) (w : IsWalked p q b i old start before H) where
      -- a part that is not held was not read
      unread : ((h : Held) → old.held ≡ Some h → h.part ≡ i / WORDS_ON_PAGE → ⊥) → is_among w.parts (i / WORDS_ON_PAGE) ≡ false
      unread other = by (is_among w.parts (i / WORDS_ON_PAGE)) refl
        where
          by : (t : Bool) → is_among w.parts (i / WORDS_ON_PAGE) ≡ t → t ≡ false
          by true e = let l = w.last (i / WORDS_ON_PAGE) e in let low = (w.held l.0 l.1).1 in absurd (other l.0 l.1 (omega (arith, low, l.2)))
          by false e = refl

      each-more : (part : ℕ) → IsTrue (is_among ((i / WORDS_ON_PAGE) ∷ w.parts) part) → HasBoxCell p b part
      each-more part g = by (among-split (i / WORDS_ON_PAGE) w.parts part g)
        where
          by : (i / WORDS_ON_PAGE ≡ part) ⊎ IsTrue (is_among w.parts part) → HasBoxCell p b part
          by (inl e) = record { cell = cell; is_in = is_in; lies = part-is ∙ e }
          by (inr m) = w.reading.each_part part m

      -- holding the part's page goes on with the walk
      pub part-held : IsHeldBy p (i / WORDS_ON_PAGE) old new before now at → HasPart new now
      part-held (Kept s) = record {
        walked = record {
          parts = w.parts;
          read = w.read;
          found = w.found;
          reading = w.reading;
          named = w.named;
          marked = λ n. ap (λ (r : Room K). slice_index_or r.marks n false) s.same ∙ w.marked n;
          held = λ h g. w.held h (ap (λ (r : Room K). r.held) (sym s.same) ∙ g);
          last = λ part g. let l = w.last part g in (l.0, ap (λ (r : Room K). r.held) s.same ∙ l.1, l.2);
          holds_found = w.holds_found;
          rows_are = w.rows_are;
          few = w.few;
          steps = s.steps ∙ w.steps;
        };
        here = (w.held (record { part = i / WORDS_ON_PAGE; at = at }) s.was).0;
      }
      part-held (Fresh f) = record {
        walked = record {
          parts = (i / WORDS_ON_PAGE) ∷ w.parts;
          read = w.read;
          found = w.found;
          reading = record {
            distinct_parts = distinct-more (i / WORDS_ON_PAGE) w.parts (unread f.other) w.reading.distinct_parts;
            each_part = each-more;
            distinct = w.reading.distinct;
            each = w.reading.each;
          };
          named = λ c m l. let n = w.named c m l in record { number = n.number; names = n.names; bucket_read = n.bucket_read; part_read = among-later (i / WORDS_ON_PAGE) w.parts (part_of p.scales c) n.part_read };
          marked = λ n. ap (λ ms. slice_index_or ms n false) f.marks ∙ w.marked n;
          held = λ h g. let same : i / WORDS_ON_PAGE ≡ h.part = ap (λ (x : Held). x.part) (one-value (record { part = i / WORDS_ON_PAGE; at = at }) h (sym f.is ∙ g)) in
              (subst (λ (r : ℕ). IsTrue (is_among ((i / WORDS_ON_PAGE) ∷ w.parts) r)) same (among-first (i / WORDS_ON_PAGE) w.parts), omega (arith, same));
          last = λ part g. (record { part = i / WORDS_ON_PAGE; at = at }, f.is, below part (among-split (i / WORDS_ON_PAGE) w.parts part g));
          holds_found = w.holds_found;
          rows_are = w.rows_are;
          few = w.few;
          steps = omega (arith, f.steps, w.steps);
        };
        here = among-first (i / WORDS_ON_PAGE) w.parts;
      }
        where
          below : (part : ℕ) → (i / WORDS_ON_PAGE ≡ part) ⊎ IsTrue (is_among w.parts part) → part ≤ i / WORDS_ON_PAGE
          below part (inl e) = omega (arith, e)
          below part (inr m) = let l = w.last part m in let low = (w.held l.0 l.1).1 in omega (arith, low, l.2)

    module _ (room : Room K) (now : ℕ) (h : HasPart room now) (n : ℕ) (names : NamesBucket p cell n) where
      abbrev w : IsWalked p q b i room start now H
      w = h.walked

      named-here : (numbers : List ℕ) → IsTrue (is_among numbers n) → ((m : ℕ) → IsTrue (is_among (bucket_numbers w.read) m) → IsTrue (is_among numbers m))
          → (c : List ℕ) → IsBoxCell p b c → cell_index (dims p.scales) c < i + 1 → IsNamedAmong p c w.parts numbers
      named-here numbers has more c m l = by (cases_lt (cell_index (dims p.scales) c) i)
        where
          by : (cell_index (dims p.scales) c < i) ⊎ (i ≤ cell_index (dims p.scales) c) → IsNamedAmong p c w.parts numbers
          by (inl low) = let x = w.named c m low in record { number = x.number; names = x.names; bucket_read = more x.number x.bucket_read; part_read = x.part_read }
          by (inr high) =
              let same : cell ≡ c = one-cell (dims p.scales) cell c is_in.is_cell m.is_cell (omega (arith, l, high, is)) in
              subst (λ (d : List ℕ). IsNamedAmong p d w.parts numbers) same (record { number = n; names = names; bucket_read = has; part_read = subst (λ (r : ℕ). IsTrue (is_among w.parts r)) (sym part-is) h.here })

      -- a cell whose bucket was read already is passed
      pub passed : IsTrue (is_among (bucket_numbers w.read) n) → IsWalked p q b (i + 1) room start now H
      passed has = record {
        parts = w.parts;
        read = w.read;
        found = w.found;
        reading = w.reading;
        named = named-here (bucket_numbers w.read) has (λ m g. g);
        marked = w.marked;
        held = λ x g. let y = w.held x g in (y.0, omega (arith, y.1));
        last = w.last;
        holds_found = w.holds_found;
        rows_are = w.rows_are;
        few = omega (arith, w.few);
        steps = w.steps;
      }

      module _ (out : is_among (bucket_numbers w.read) n ≡ false) where
        -- the number is not that of a bucket that was read
        each-number : (m : ℕ) → IsTrue (is_among (n ∷ bucket_numbers w.read) m) → (c : List ℕ) × IsBoxCell p b c × NamesBucket p c m
        each-number m g = by (among-split n (bucket_numbers w.read) m g)
          where
            by : (n ≡ m) ⊎ IsTrue (is_among (bucket_numbers w.read) m) → (c : List ℕ) × IsBoxCell p b c × NamesBucket p c m
            by (inl e) = (cell, is_in, subst (NamesBucket p cell) e names)
            by (inr r) = let x = among-numbers (λ (y : BucketOf K). y.number) w.read m r in let f = w.reading.each x.0 x.1 in (f.cell, f.is_in, subst (NamesBucket p f.cell) x.2 f.names)

        -- a walk that is refused where it reads the bucket was cut short
        pub cut-at-bucket : (after : ℕ) → now ≤ after → after ≤ now + 1 → IsCutShort p b start after
        cut-at-bucket after least l = record {
          parts = w.parts;
          numbers = n ∷ bucket_numbers w.read;
          distinct_parts = w.reading.distinct_parts;
          each_part = w.reading.each_part;
          distinct = distinct-more n (bucket_numbers w.read) out w.reading.distinct;
          each = each-number;
          least = omega (arith, least, w.steps);
          most = omega (arith, l, w.steps, length-map w.read (λ (y : BucketOf K). y.number));
        }

        module _ (bucket : BucketOf K) (bytes : List ℕ) (is_n : bucket.number ≡ n) (has : HasBucket p n (SoughtCell p.scales cell) bytes bucket) where
          each-bucket : (x : BucketOf K) → Contains (bucket ∷ w.read) x → IsReadFor p b x
          each-bucket x g = by (contains-split bucket w.read x g)
            where
              by : (bucket ≡ x) ⊎ Contains w.read x → IsReadFor p b x
              by (inl e) = subst (λ (y : BucketOf K). IsReadFor p b y) e (record {
                cell = cell;
                is_in = is_in;
                names = subst (NamesBucket p cell) (sym is_n) names;
                bytes = bytes;
                has = subst (λ (m : ℕ). HasBucket p m (SoughtCell p.scales cell) bytes bucket) (sym is_n) has;
              })
              by (inr r) = w.reading.each x r

          -- a bucket that was read is gathered, and marked
          pub gathered : (after_room : Room K) (after : ℕ) (H' : Table → Type 0) → n < length room.marks → after_room.marks ≡ slice_set room.marks n true → after_room.held ≡ room.held → H' (w.found ++ rows (pairs_of bucket.rows) q) → length bucket.rows ≤ MOST_RECORDS → after ≡ now + 1
              → IsWalked p q b (i + 1) after_room start after H'
          gathered after_room after H' low marks held holds few steps = record {
            parts = w.parts;
            read = bucket ∷ w.read;
            found = w.found ++ rows (pairs_of bucket.rows) q;
            reading = record {
              distinct_parts = w.reading.distinct_parts;
              each_part = w.reading.each_part;
              distinct = distinct-more bucket.number (bucket_numbers w.read) (ap (is_among (bucket_numbers w.read)) is_n ∙ out) w.reading.distinct;
              each = each-bucket;
            };
            named = named-here (bucket_numbers (bucket ∷ w.read)) (subst (λ (m : ℕ). IsTrue (is_among (m ∷ bucket_numbers w.read) n)) (sym is_n) (among-first n (bucket_numbers w.read))) (λ m g. among-later bucket.number (bucket_numbers w.read) m g);
            marked = marked-now;
            held = λ x g. let y = w.held x (sym held ∙ g) in (y.0, omega (arith, y.1));
            last = λ part g. let l = w.last part g in (l.0, held ∙ l.1, l.2);
            holds_found = holds;
            rows_are = λ test. sum_by-append (λ (e : List ℕ × List ℕ). cond (test e) 1 0) w.found (rows (pairs_of bucket.rows) q) ∙ omega (arith, w.rows_are test, sum_by-cons (λ (y : BucketOf K). count_by test (rows (pairs_of y.rows) q)) bucket w.read);
            few = omega (arith, length-append w.found (rows (pairs_of bucket.rows) q), w.few, few, few-rows bucket.rows q);
            steps = omega (arith, steps, w.steps);
          }
            where
              marked-now : (m : ℕ) → slice_index_or after_room.marks m false ≡ is_among (bucket.number ∷ bucket_numbers w.read) m
              marked-now m = ap (λ ms. slice_index_or ms m false) marks ∙ by (n == m) refl
                where
                  by : (t : Bool) → (n == m) ≡ t → slice_index_or (slice_set room.marks n true) m false ≡ is_among (bucket.number ∷ bucket_numbers w.read) m
                  by true e =
                      let same : n ≡ m = eqb-true n m e in
                      subst (λ (k : ℕ). slice_index_or (slice_set room.marks n true) k false ≡ true) same (get_or-set_same room.marks n true false low)
                      ∙ sym (subst (λ (k : ℕ). IsTrue (is_among (k ∷ bucket_numbers w.read) m)) (sym (is_n ∙ same)) (among-first m (bucket_numbers w.read)))
                  by false e =
                      get_or-set_other room.marks n m true false (λ same. true≢false (sym (eq-eqb n m (sym same)) ∙ e))
                      ∙ w.marked m
                      ∙ ap (λ t. t || is_among (bucket_numbers w.read) m) (sym (ap (λ k. k == m) is_n ∙ e))

    -- a walk that is refused where it reads a part was cut short
    pub cut-at-part : (old : Room K) (before after : ℕ) (w : IsWalked p q b i old start before H) → ((h : Held) → old.held ≡ Some h → h.part ≡ i / WORDS_ON_PAGE → ⊥) → before ≤ after → after ≤ before + 1 → IsCutShort p b start after
    cut-at-part old before after w other least l = record {
      parts = (i / WORDS_ON_PAGE) ∷ w.parts;
      numbers = bucket_numbers w.read;
      distinct_parts = distinct-more (i / WORDS_ON_PAGE) w.parts (unread old old before before 0 w other) w.reading.distinct_parts;
      each_part = each-more old old before before 0 w;
      distinct = w.reading.distinct;
      each = λ m r. let x = among-numbers (λ (y : BucketOf K). y.number) w.read m r in let f = w.reading.each x.0 x.1 in (f.cell, f.is_in, subst (NamesBucket p f.cell) x.2 f.names);
      least = omega (arith, least, w.steps);
      most = omega (arith, l, w.steps, length-map w.read (λ (y : BucketOf K). y.number));
    }
