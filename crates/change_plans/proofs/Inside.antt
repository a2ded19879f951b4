-- The records of a region after an update, and those of a part of it or of two regions together.
use Rattle.std.proofs.Common.{◌≡◌, ℕ, Bool, true, false, cond, not, ◌&&◌, ◌||◌, List, [], ◌∷◌, map, filter, fold, Option, Some, None, refl, sym, ap, ◌∙◌, true≢false}
use Rattle.std.specs.Ordering.{eq_by_cmp}
use Rattle.std.specs.Cmp.Lexicographic.{nat_list_cmp_total}
use Rattle.std.specs.FinMap.Entries.{where_key, find-put, find-where_key, is_sorted-where_key}
use Rattle.grid_types.specs.declared.region.Region.{Region}
use Rattle.grid_types.specs.declared.update.Record.{Record}
use Rattle.grid_types.specs.Keys.{key_cmp}
use Rattle.grid_types.specs.Regions.{contains}
use Rattle.grid_model.specs.Lists.{or_else}
use Rattle.grid_model.specs.Lone.{record_of}
use Rattle.grid_model.specs.Tables.{Table, IsTable, get, with_data, without}
use Rattle.grid_model.specs.Layouts.{records_inside}
use Rattle.grid_model.proofs.TableLaws.{one_key, equal_order, same_tables, alike, with_data-table, gone-elsewhere}
use Rattle.grid_model.proofs.Gathered.{put_in, puts-table, get-after-region}
use Rattle.grid_model.proofs.RegionCounts.{filter-both, filter-alike}

-- the data of a key among the records of a region
pub get-inside : {K : ℕ} (r : Region K) (t : Table) (q : List ℕ) → get (records_inside t r) q ≡ cond (contains r q) (get t q) None
get-inside r t q = find-where_key key_cmp (contains r) q (alike (contains r) q) t

inside-table : {K : ℕ} (r : Region K) (t : Table) → IsTable t → IsTable (records_inside t r)
inside-table r t h = is_sorted-where_key key_cmp (contains r) t h

without-table : (t : Table) (k : List ℕ) → IsTable t → IsTable (without t k)
without-table t k h = is_sorted-where_key key_cmp (λ x. not (eq_by_cmp key_cmp k x)) t h

-- a record that is put into a table is put among those of its region
pub inside-put : {K : ℕ} (r : Region K) (t : Table) (k d : List ℕ) → IsTable t → contains r k ≡ true → records_inside (with_data t k d) r ≡ with_data (records_inside t r) k d
inside-put r t k d h has =
    same_tables (records_inside (with_data t k d) r) (with_data (records_inside t r) k d) (inside-table r (with_data t k d) (with_data-table t k d h)) (with_data-table (records_inside t r) k d (inside-table r t h)) (λ q.
    get-inside r (with_data t k d) q
    ∙ ap (λ o. cond (contains r q) o None) (find-put key_cmp nat_list_cmp_total q k d t)
    ∙ by q (eq_by_cmp key_cmp q k) refl
    ∙ sym (find-put key_cmp nat_list_cmp_total q k d (records_inside t r) ∙ ap (λ o. cond (eq_by_cmp key_cmp q k) (Some d) o) (get-inside r t q)))
  where
    by : (q : List ℕ) (b : Bool) → eq_by_cmp key_cmp q k ≡ b → cond (contains r q) (cond b (Some d) (get t q)) None ≡ cond b (Some d) (cond (contains r q) (get t q) None)
    by q true e = ap (λ c. cond c (Some d) None) (ap (contains r) (one_key q k (equal_order (key_cmp q k) e)) ∙ has)
    by q false e = refl

-- a key that is taken from a table is taken from the records of each region
pub inside-without : {K : ℕ} (r : Region K) (t : Table) (k : List ℕ) → IsTable t → records_inside (without t k) r ≡ without (records_inside t r) k
inside-without r t k h =
    same_tables (records_inside (without t k) r) (without (records_inside t r) k) (inside-table r (without t k) (without-table t k h)) (without-table (records_inside t r) k (inside-table r t h)) (λ q.
    get-inside r (without t k) q
    ∙ ap (λ o. cond (contains r q) o None) (find-where_key key_cmp kept q (alike kept q) t)
    ∙ by (kept q) (contains r q) (get t q)
    ∙ sym (find-where_key key_cmp kept q (alike kept q) (records_inside t r) ∙ ap (λ o. cond (kept q) o None) (get-inside r t q)))
  where
    kept : List ℕ → Bool
    kept x = not (eq_by_cmp key_cmp k x)

    by : (b c : Bool) (o : Option (List ℕ)) → cond c (cond b o None) None ≡ cond b (cond c o None) None
    by true c o = refl
    by false true o = refl
    by false false o = refl

-- a region that does not have a key has the same records without it
pub inside-others : {K : ℕ} (r : Region K) (t : Table) (k : List ℕ) → IsTable t → contains r k ≡ false → records_inside (without t k) r ≡ records_inside t r
inside-others r t k h out =
    same_tables (records_inside (without t k) r) (records_inside t r) (inside-table r (without t k) (without-table t k h)) (inside-table r t h) (λ q. get-inside r (without t k) q ∙ by q (contains r q) refl ∙ sym (get-inside r t q))
  where
    by : (q : List ℕ) (b : Bool) → contains r q ≡ b → cond b (get (without t k) q) None ≡ cond b (get t q) None
    by q true e = gone-elsewhere t k q (λ same. true≢false (sym e ∙ ap (contains r) (sym same) ∙ out))
    by q false e = refl

-- the records of a part of a region are those of the region that pass
pub inside-part : {K : ℕ} (r s : Region K) (p : List ℕ → Bool) (t : Table) → ((k : List ℕ) → contains s k ≡ (contains r k && p k)) → records_inside t s ≡ where_key key_cmp p (records_inside t r)
inside-part r s p t same =
    filter-alike (λ (e : List ℕ × List ℕ). contains s e.0) (λ (e : List ℕ × List ℕ). contains r e.0 && p e.0) t (λ e. same e.0)
    ∙ sym (filter-both (λ (e : List ℕ × List ℕ). contains r e.0) (λ (e : List ℕ × List ℕ). p e.0) t)

-- the records of entries that pass are the records that pass
pub records-where : (K : ℕ) (p : List ℕ → Bool) (t : Table) → map (record_of {K = K}) (where_key key_cmp p t) ≡ filter (λ r. p r.key.numbers) (map record_of t)
records-where K p [] = refl
records-where K p (e ∷ t) = by (p e.0) (records-where K p t)
  where
    by : (b : Bool) → map (record_of {K = K}) (where_key key_cmp p t) ≡ filter (λ (r : Record K). p r.key.numbers) (map record_of t)
        → map (record_of {K = K}) (cond b (e ∷ where_key key_cmp p t) (where_key key_cmp p t)) ≡ cond b (record_of e ∷ filter (λ (r : Record K). p r.key.numbers) (map record_of t)) (filter (λ (r : Record K). p r.key.numbers) (map record_of t))
    by true rest = ap (λ rs. record_of e ∷ rs) rest
    by false rest = rest

-- the records of two regions, put together, are those of a region that has the keys of both
pub inside-both : {K : ℕ} (h r s : Region K) (t : Table) → IsTable t → ((k : List ℕ) → contains h k ≡ (contains r k || contains s k)) → fold (put_in {K = K}) (records_inside t r) (map record_of (records_inside t s)) ≡ records_inside t h
inside-both {K} h r s t sorted same =
    same_tables (fold (put_in {K = K}) (records_inside t r) (map record_of (records_inside t s))) (records_inside t h) (puts-table (records_inside t r) (map record_of (records_inside t s)) (inside-table r t sorted)) (inside-table h t sorted) (λ q.
    get-after-region t (records_inside t r) s q sorted
    ∙ ap (λ o. cond (contains s q) (or_else (get t q) o) o) (get-inside r t q)
    ∙ by (contains r q) (contains s q) (get t q)
    ∙ ap (λ b. cond b (get t q) None) (sym (same q))
    ∙ sym (get-inside h t q))
  where
    by : (b c : Bool) (o : Option (List ℕ)) → cond c (or_else o (cond b o None)) (cond b o None) ≡ cond (b || c) o None
    by true true None = refl
    by true true (Some d) = refl
    by false true None = refl
    by false true (Some d) = refl
    by true false o = refl
    by false false o = refl
