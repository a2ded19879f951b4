-- What a search over the records of a page finds in the bucket that the page spells.
use Rattle.std.proofs.Common.{◌≡◌, ◌<◌, ◌≤◌, ◌+◌, ◌-◌, ◌*◌, inl, inr, ℕ, zero, suc, List, None, length, get_or, slice_index, sym, ap, subst, ◌∙◌, arith}
use Rattle.std.specs.Cmp.Lexicographic.{nat_list_cmp_total}
use Rattle.std.specs.Cmp.{tied_itself}
use Rattle.std.specs.Ordering.{ordering_reverse}
use Rattle.std.specs.declared.cmp.Ordering.TheVariants.{Less, Equal, Greater}
use Rattle.grid_types.specs.declared.update.Record.{Record}
use Rattle.grid_types.specs.Keys.{key_cmp}
use Rattle.grid_model.specs.Tables.{get, pairs_of}
use Rattle.grid_model.proofs.TableLaws.{one_key}
use Rattle.page_fields.proofs.Entries.{AreBytes}
use Rattle.page_fields.proofs.Steps.{below_or_at}
use Rattle.grid_model.specs.Spellings.{BucketOf}
use Rattle.grid_model.specs.Buckets.{SpellsBucket}
use Rattle.bucket_page.specs.Search.{HasRecordAt, AreBelow, IsFoundAt, FitsBefore}
use Rattle.bucket_page.proofs.Standing.{BucketAt}
use Rattle.bucket_page.specs.OnPage.{numbers_at, data_at, record_at}
use Rattle.bucket_page.proofs.Tables.{Ascends, ascends}
use Rattle.bucket_page.proofs.Searches.{found_at, none_before}
use Rattle.bucket_page.proofs.OnPage.{corner_is, there_of}

-- the two sides of one comparison
less_of : (x y : List ℕ) → key_cmp y x ≡ Greater → key_cmp x y ≡ Less
less_of x y e = nat_list_cmp_total.antisymm x y ∙ ap ordering_reverse e

greater_of : (x y : List ℕ) → key_cmp y x ≡ Less → key_cmp x y ≡ Greater
greater_of x y e = nat_list_cmp_total.antisymm x y ∙ ap ordering_reverse e

-- of records that ascend, an earlier one lies below a later one
pub earlier : {K : ℕ} (rows : List (Record K)) (d : Record K) (i j : ℕ) → Ascends rows → i < j → j < length rows → key_cmp (get_or rows i d).key.numbers (get_or rows j d).key.numbers ≡ Less
earlier rows d i zero a lt h = absurd (omega arith)
earlier {K} rows d i (suc j) a lt h =
    let key : ℕ → List ℕ = λ n. (get_or rows n d).key.numbers in
    let one : j + 1 ≡ suc j = omega arith in
    let last : key_cmp (key j) (key (suc j)) ≡ Less = subst (λ (n : ℕ). key_cmp (key j) (key n) ≡ Less) one (a j d (omega (arith, h))) in
    elim (below_or_at i j (omega (arith, lt))) [
      | inl low ↦ nat_list_cmp_total.trans (key i) (key j) (key (suc j)) (earlier rows d i j a low (omega (arith, h))) last
      | inr e ↦ subst (λ (n : ℕ). key_cmp (key n) (key (suc j)) ≡ Less) (sym e) last
    ]

-- a key that lies above a record lies above all in front of it
below_all : {K : ℕ} (k : List ℕ) (rows : List (Record K)) (n : ℕ) → Ascends rows → n ≤ length rows → ((i : ℕ) (d : Record K) → i + 1 ≡ n → key_cmp k (get_or rows i d).key.numbers ≡ Greater) → AreBelow k rows n
below_all {K} k rows n a le last i d lt =
    let key : ℕ → List ℕ = λ m. (get_or rows m d).key.numbers in
    elim (below_or_at (i + 1) n (omega (arith, lt))) [
      | inl low ↦
          let next : key_cmp (key i) (key (n - 1)) ≡ Less = earlier rows d i (n - 1) a (omega (arith, low)) (omega (arith, le, low)) in
          let above : key_cmp (key (n - 1)) k ≡ Less = less_of (key (n - 1)) k (last (n - 1) d (omega (arith, low))) in
          greater_of k (key i) (nat_list_cmp_total.trans (key i) (key (n - 1)) k next above)
      | inr e ↦ last i d e
    ]

-- a record with that key is where a search finds it
pub found_in_order : {K : ℕ} (k : List ℕ) (rows : List (Record K)) (at : ℕ) → Ascends rows → at < length rows → ((d : Record K) → (get_or rows at d).key.numbers ≡ k) → IsFoundAt k rows at
found_in_order {K} k rows at a inside key =
    let last : (j : ℕ) (d : Record K) → j + 1 ≡ at → key_cmp k (get_or rows j d).key.numbers ≡ Greater = λ j d next.
    greater_of k (get_or rows j d).key.numbers (subst (λ (x : List ℕ). key_cmp (get_or rows j d).key.numbers x ≡ Less) (key d) (earlier rows d j at a (omega (arith, next)) inside)) in
    record {
      inside = inside;
      below = below_all k rows at a (omega (arith, inside)) last;
      equal = λ d. ap (key_cmp k) (key d) ∙ tied_itself nat_list_cmp_total k;
    }

module _ (K capacity count : ℕ) (page : List ℕ) (b : BucketOf K) (few : K ≤ 4) (many : count ≤ 48) (fits : AreBytes page) (s : SpellsBucket capacity page b) (is : length b.rows ≡ count) where
  rows_there : BucketAt K page b
  rows_there = there_of K capacity count page b few many s is

  in_order : Ascends b.rows
  in_order = ascends b.rows s.lawful.ascending

  -- the key of a record, as the page has it
  key_there : (i : ℕ) (d : Record K) → i < count → (get_or b.rows i d).key.numbers ≡ numbers_at K (96 + 80 * i) page
  key_there i d lt = corner_is K (96 + 80 * i) page (get_or b.rows i d).key.numbers fits (rows_there.rows i d (omega (arith, lt, is))).key

  -- the record with that key stands where the page has the key
  pub found_on : (k : List ℕ) (i : ℕ) → i < count → key_cmp k (numbers_at K (96 + 80 * i) page) ≡ Equal → HasRecordAt b.rows k i
  found_on k i lt e =
      let key : (d : Record K) → (get_or b.rows i d).key.numbers ≡ k = λ d. sym (one_key k (get_or b.rows i d).key.numbers (ap (key_cmp k) (key_there i d lt) ∙ e)) in
      found_at k b.rows i (found_in_order k b.rows i in_order (omega (arith, lt, is)) key)

  -- no record has a key whose place lies between two records
  pub place_on : (k : List ℕ) (at : ℕ) → at ≤ count → ((i : ℕ) → i + 1 ≡ at → key_cmp k (numbers_at K (96 + 80 * i) page) ≡ Greater) → (at < count → key_cmp k (numbers_at K (96 + 80 * at) page) ≡ Less) → FitsBefore k b.rows at
  place_on k at le below above =
      let rows = b.rows in
      let last : (j : ℕ) (d : Record K) → j + 1 ≡ at → key_cmp k (get_or rows j d).key.numbers ≡ Greater = λ j d next. ap (key_cmp k) (key_there j d (omega (arith, next, le))) ∙ below j next in
      record {
        inside = omega (arith, le, is);
        below = below_all k rows at in_order (omega (arith, le, is)) last;
        above = λ d lt. ap (key_cmp k) (key_there at d (omega (arith, lt, is))) ∙ above (omega (arith, lt, is));
      }

  -- a key with that place has no data
  pub none_on : (k : List ℕ) (at : ℕ) → FitsBefore k b.rows at → get (pairs_of b.rows) k ≡ None
  none_on k at p = none_before k b.rows at in_order p

  -- the data of a record, as the page has it
  pub data_there : (i : ℕ) (d : Record K) → i < count → (slice_index page (96 + 80 * i + 32) ≤ 40) × ((get_or b.rows i d).value ≡ data_at page (96 + 80 * i))
  data_there i d lt = let r = rows_there.rows i d (omega (arith, lt, is)) in (r.short, r.value)

  -- a record, as the page has it
  pub record_there : (i : ℕ) (d : Record K) → i < count → get_or b.rows i d ≡ record_at K page (96 + 80 * i)
  record_there i d lt = λ j. record { key = record { numbers = key_there i d lt j }; value = (data_there i d lt).1 j }
