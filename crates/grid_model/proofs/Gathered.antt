-- The records of all boxes, put together.
use Rattle.std.proofs.Common.{◌≡◌, ℕ, Bool, true, false, cond, List, [], ◌∷◌, map, flat_map, fold, All, Option, Some, None, refl, sym, ap, ◌∙◌, is_some, IsSome}
use Rattle.std.proofs.lemmas.List.Elements.{All-head, All-tail, All-filter}
use Rattle.std.proofs.lemmas.List.Sums.{fold-append}
use Rattle.std.specs.Ordering.{eq_by_cmp}
use Rattle.std.specs.List as lists
use Rattle.std.specs.Cmp.Lexicographic.{nat_list_cmp_total}
use Rattle.std.specs.FinMap.Entries.{find-put, find-where_key}
use Rattle.grid_types.specs.declared.region.Region.{Region}
use Rattle.grid_types.specs.declared.shape.Shape.{Shape}
use Rattle.grid_types.specs.declared.update.Record.{Record}
use Rattle.grid_types.specs.Keys.{key_cmp}
use Rattle.grid_types.specs.Regions.{contains}
use Rattle.grid_model.specs.Lists.{or_else}
use Rattle.grid_model.specs.Tables.{Table, IsTable, get, with_data}
use Rattle.grid_model.specs.Layouts.{BucketBox, Layout, holder, records_inside}
use Rattle.grid_model.specs.LayoutLaws.{StandsOver}
use Rattle.grid_model.specs.Lone.{record_of}
use Rattle.grid_model.specs.Images.{bucket_on}
use Rattle.grid_model.proofs.TableLaws.{one_key, equal_order, alike, same_tables, with_data-table}
use Rattle.grid_model.proofs.Ascending.{each-found}

-- each entry of a table is what the table has at its key
pub each-entry : (t : Table) → IsTable t → All (λ e. get t e.0 ≡ Some e.1) t
each-entry = each-found key_cmp nat_list_cmp_total one_key

-- each entry of a region's records is what the table has at its key
pub each-inside : {K : ℕ} (t : Table) (r : Region K) → IsTable t → All (λ e. get t e.0 ≡ Some e.1) (records_inside t r)
each-inside t r h = All-filter (λ (e : List ℕ × List ℕ). contains r e.0) (λ (e : List ℕ × List ℕ). get t e.0 ≡ Some e.1) t (each-entry t h)

-- a table with a record put in
abbrev pub put_in : {K : ℕ} → Table → Record K → Table
put_in u r = with_data u r.key.numbers r.value

-- after puts of entries that a table has, their keys have its data, and all others what they had
pub get-after-puts : (K : ℕ) (t u s : Table) (k : List ℕ) → All (λ e. get t e.0 ≡ Some e.1) s → get (fold put_in u (map (record_of {K = K}) s)) k ≡ cond (is_some (get s k)) (get t k) (get u k)
get-after-puts K t u [] k h = refl
get-after-puts K t u (e ∷ s) k h =
    get-after-puts K t (with_data u e.0 e.1) s k (All-tail (λ (x : List ℕ × List ℕ). get t x.0 ≡ Some x.1) e s h)
    ∙ ap (λ o. cond (is_some (get s k)) (get t k) o) (find-put key_cmp nat_list_cmp_total k e.0 e.1 u)
    ∙ by (eq_by_cmp key_cmp k e.0) refl
  where
    here : eq_by_cmp key_cmp k e.0 ≡ true → get t k ≡ Some e.1
    here same = ap (get t) (one_key k e.0 (equal_order (key_cmp k e.0) same)) ∙ All-head (λ (x : List ℕ × List ℕ). get t x.0 ≡ Some x.1) e s h

    either : (b : Bool) → get t k ≡ Some e.1 → cond b (get t k) (Some e.1) ≡ get t k
    either true is = refl
    either false is = sym is

    by : (b : Bool) → eq_by_cmp key_cmp k e.0 ≡ b → cond (is_some (get s k)) (get t k) (cond b (Some e.1) (get u k)) ≡ cond (is_some (cond b (Some e.1) (get s k))) (get t k) (get u k)
    by true same = either (is_some (get s k)) (here same)
    by false differ = refl

module _ {K : ℕ} where
  -- the records of all boxes, one box after the other
  abbrev pub records_of : Table → List (ℕ × BucketBox K) → List (Record K)
  records_of t es = flat_map (λ b. b.rows) (map (bucket_on t) es)

  -- records put into a table leave a table
  pub puts-table : (u : Table) (rs : List (Record K)) → IsTable u → IsTable (fold put_in u rs)
  puts-table u [] h = h
  puts-table u (r ∷ rs) h = puts-table (put_in u r) rs (with_data-table u r.key.numbers r.value h)

  -- after puts of a region's records its keys have the table's data, where the table has any
  pub get-after-region : (t u : Table) (r : Region K) (k : List ℕ) → IsTable t → get (fold (put_in {K = K}) u (map record_of (records_inside t r))) k ≡ cond (contains r k) (or_else (get t k) (get u k)) (get u k)
  get-after-region t u r k h =
      get-after-puts K t u (records_inside t r) k (each-inside t r h)
      ∙ ap (λ o. cond (is_some o) (get t k) (get u k)) (find-where_key key_cmp (contains r) k (alike (contains r) k) t)
      ∙ by (contains r k) (get t k)
    where
      by : (b : Bool) (o : Option (List ℕ)) → cond (is_some (cond b o None)) o (get u k) ≡ cond b (or_else o (get u k)) (get u k)
      by true None = refl
      by true (Some d) = refl
      by false o = refl

  -- whether a box has the key
  abbrev pub has : List ℕ → ℕ × BucketBox K → Bool
  has k e = contains e.1.region k

  -- after puts of all boxes' records the keys of the boxes have the table's data, where the table has any
  pub get-after-boxes : (t u : Table) (es : List (ℕ × BucketBox K)) (k : List ℕ) → IsTable t → get (fold put_in u (records_of t es)) k ≡ cond (is_some (lists.find (has k) es)) (or_else (get t k) (get u k)) (get u k)
  get-after-boxes t u [] k h = refl
  get-after-boxes t u (e ∷ es) k h =
      ap (λ v. get v k) (fold-append put_in u (map record_of (records_inside t e.1.region)) (records_of t es))
      ∙ get-after-boxes t (fold put_in u (map record_of (records_inside t e.1.region))) es k h
      ∙ ap (λ o. cond (is_some (lists.find (has k) es)) (or_else (get t k) o) o) (get-after-region t u e.1.region k h)
      ∙ by (has k e) (lists.find (has k) es) (get t k) (get u k)
    where
      by : (b : Bool) (f : Option (ℕ × BucketBox K)) (o v : Option (List ℕ)) → cond (is_some f) (or_else o (cond b (or_else o v) v)) (cond b (or_else o v) v) ≡ cond (is_some (cond b (Some e) f)) (or_else o v) v
      by true None o v = refl
      by true (Some x) None v = refl
      by true (Some x) (Some d) v = refl
      by false f o v = refl

  -- where a key is found in a box, some box has it
  covered : (L : Layout K) (k : List ℕ) → IsSome (holder L k) → is_some (lists.find (has k) L.boxes) ≡ true
  unfolding holder
  covered L k some = some

  -- the records of all boxes of a layout, put together, are the table over which it stands
  pub gathered : (shape : Shape) (L : Layout K) (t : Table) → StandsOver shape L t → fold put_in [] (records_of t L.boxes) ≡ t
  gathered shape L t h = same_tables (fold put_in [] (records_of t L.boxes)) t (puts-table [] (records_of t L.boxes) tt) h.table (λ k. get-after-boxes t [] L.boxes k h.table ∙ by k (get t k) refl)
    where
      either : (b : Bool) (o : Option (List ℕ)) → cond b o o ≡ o
      either true o = refl
      either false o = refl

      by : (k : List ℕ) (o : Option (List ℕ)) → get t k ≡ o → cond (is_some (lists.find (has k) L.boxes)) (or_else o None) None ≡ o
      by k None is = either (is_some (lists.find (has k) L.boxes)) None
      by k (Some d) is = ap (λ b. cond b (Some d) None) (covered L k (h.sound.covers k (h.keys k d is)))
