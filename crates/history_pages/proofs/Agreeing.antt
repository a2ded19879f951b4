-- Two tables agree on a region where each of its keys has the same data in both.
use Rattle.std.proofs.Common.{◌≡◌, ℕ, Bool, true, false, cond, not, List, map, Option, Some, None, refl, sym, ap, ◌∙◌, true≢false, option_map}
use Rattle.std.specs.Ordering.{eq_by_cmp}
use Rattle.std.specs.Cmp.Lexicographic.{nat_list_cmp_total}
use Rattle.std.specs.FinMap.Entries.{find-put, find-where_key, is_sorted-where_key}
use Rattle.grid_types.specs.declared.region.Region.{Region}
use Rattle.grid_types.specs.declared.update.Update.{Update}
use Rattle.grid_types.specs.declared.update.Update.TheVariants.{Put, Remove}
use Rattle.grid_types.specs.Keys.{key_cmp}
use Rattle.grid_types.specs.Regions.{contains}
use Rattle.grid_model.specs.Tables.{Table, IsTable, get, effect, pairs_of}
use Rattle.grid_model.specs.Layouts.{BucketBox, Layout, box, records_inside}
use Rattle.grid_model.specs.Notes.{updated_key}
use Rattle.grid_model.specs.Lone.{record_of}
use Rattle.grid_model.specs.Spellings.{BucketOf}
use Rattle.grid_model.proofs.Boxes.{some-not-none}
use Rattle.grid_model.proofs.Divided.{pairs-of-records}
use Rattle.grid_model.proofs.TableLaws.{same_tables, alike, effect-table, update-elsewhere, removal-elsewhere}
use Rattle.history_pages.specs.OwnerPages.{as_bucket, numbered_bucket}

-- two tables agree on a region
abbrev pub Agree : {K : ℕ} → Region K → Table → Table → Type 0
Agree r s t = (q : List ℕ) → contains r q ≡ true → get s q ≡ get t q

-- the data of a key among the records of a region
get-inside : {K : ℕ} (r : Region K) (t : Table) (q : List ℕ) → get (records_inside t r) q ≡ cond (contains r q) (get t q) None
get-inside r t q = find-where_key key_cmp (contains r) q (alike (contains r) q) t

-- tables that agree on a region have the same records in it
pub same-records : {K : ℕ} (r : Region K) (s t : Table) → IsTable s → IsTable t → Agree r s t → records_inside s r ≡ records_inside t r
same-records r s t g h a =
    same_tables (records_inside s r) (records_inside t r) (is_sorted-where_key key_cmp (contains r) s g) (is_sorted-where_key key_cmp (contains r) t h)
    (λ q. get-inside r s q ∙ by q (contains r q) refl ∙ sym (get-inside r t q))
  where
    by : (q : List ℕ) (b : Bool) → contains r q ≡ b → cond b (get s q) None ≡ cond b (get t q) None
    by q true e = a q e
    by q false e = refl

-- and tables that have the same records in it agree on it
agree-from : {K : ℕ} (r : Region K) (s t : Table) → records_inside s r ≡ records_inside t r → Agree r s t
agree-from r s t same q has =
    ap (λ b. cond b (get s q) None) (sym has) ∙ sym (get-inside r s q) ∙ ap (λ x. get x q) same ∙ get-inside r t q ∙ ap (λ b. cond b (get t q) None) has

-- tables that agree on a region agree on it after the same update
pub agree-after : {K : ℕ} (r : Region K) (s t : Table) (u : Update K) → Agree r s t → Agree r (effect s u) (effect t u)
unfolding effect
agree-after r s t (Put w) a q has =
    find-put key_cmp nat_list_cmp_total q w.key.numbers w.value s ∙ ap (λ o. cond (eq_by_cmp key_cmp q w.key.numbers) (Some w.value) o) (a q has) ∙ sym (find-put key_cmp nat_list_cmp_total q w.key.numbers w.value t)
agree-after r s t (Remove k) a q has =
    let kept : List ℕ → Bool = λ x. not (eq_by_cmp key_cmp k.numbers x) in
    find-where_key key_cmp kept q (alike kept q) s ∙ ap (λ o. cond (kept q) o None) (a q has) ∙ sym (find-where_key key_cmp kept q (alike kept q) t)

-- so they have the same records in it
pub records-after : {K : ℕ} (r : Region K) (s t : Table) (u : Update K) → IsTable s → IsTable t → Agree r s t → records_inside (effect s u) r ≡ records_inside (effect t u) r
records-after r s t u g h a = same-records r (effect s u) (effect t u) (effect-table s u g) (effect-table t u h) (agree-after r s t u a)

-- a table agrees with what it was before an update on each region that does not have the key
pub agree-outside : {K : ℕ} (r : Region K) (t : Table) (u : Update K) → contains r (updated_key u) ≡ false → Agree r (effect t u) t
agree-outside r t (Put w) out q has = update-elsewhere t w q (λ same. true≢false (sym has ∙ ap (contains r) same ∙ out))
agree-outside r t (Remove k) out q has = removal-elsewhere t k q (λ same. true≢false (sym has ∙ ap (contains r) (sym same) ∙ out))

-- a bucket is the same over two layouts that have one box for it, and two tables that agree on that box
pub same-bucket : {K : ℕ} (M L : Layout K) (s t : Table) (n : ℕ) → box M n ≡ box L n → IsTable s → IsTable t → ((b : BucketBox K) → box L n ≡ Some b → Agree b.region s t) → numbered_bucket M s n ≡ numbered_bucket L t n
unfolding numbered_bucket
same-bucket {K} M L s t n same g h agree = ap (option_map (as_bucket s n)) same ∙ by (box L n) refl
  where
    by : (o : Option (BucketBox K)) → box L n ≡ o → option_map (as_bucket s n) o ≡ option_map (as_bucket t n) o
    by None e = refl
    by (Some b) e = λ i. Some (record { number = n; box = b; rows = map record_of (same-records b.region s t g h (agree b e) i) })

-- a bucket is the same over two layouts and tables: its box is there, and the tables agree on it
pub record IsSame {K : ℕ} (M : Layout K) (s t : Table) (n : ℕ) (b : BucketBox K) : Type 0 where
  pub there : box M n ≡ Some b
  pub agree : Agree b.region s t

-- a bucket of a box is the same only so
pub is-same : {K : ℕ} (M L : Layout K) (s t : Table) (n : ℕ) (b : BucketBox K) → box L n ≡ Some b → numbered_bucket M s n ≡ numbered_bucket L t n → IsSame M s t n b
unfolding numbered_bucket
is-same {K} M L s t n b there same = by (box M n) refl (same ∙ ap (option_map (as_bucket t n)) there)
  where
    by : (o : Option (BucketBox K)) → box M n ≡ o → option_map (as_bucket s n) o ≡ Some (as_bucket t n b) → IsSame M s t n b
    by None e q = absurd (some-not-none (as_bucket t n b) (sym q))
    by (Some d) e q =
        let one : as_bucket s n d ≡ as_bucket t n b = cc in
        let box_is : d ≡ b = ap (λ (x : BucketOf K). x.box) one in
        let rows : map (record_of {K = K}) (records_inside s d.region) ≡ map (record_of {K = K}) (records_inside t b.region) = ap (λ (x : BucketOf K). x.rows) one in
        let records : records_inside s d.region ≡ records_inside t b.region = sym (pairs-of-records K (records_inside s d.region)) ∙ ap pairs_of rows ∙ pairs-of-records K (records_inside t b.region) in
        record { there = e ∙ ap Some box_is; agree = agree-from b.region s t (ap (λ (x : BucketBox K). records_inside s x.region) (sym box_is) ∙ records) }
