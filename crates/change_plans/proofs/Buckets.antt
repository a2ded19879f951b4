-- The bucket of the box that has a key after an update.
use Rattle.std.proofs.Common.{◌≡◌, ◌≢◌, ◌<◌, ℕ, Bool, true, false, cond, not, List, map, length, min, slice_index, nat_lt, nat_le, Some, None, IsTrue, refl, sym, ap, ◌∙◌, option_map}
use Rattle.std.proofs.lemmas.List.{length-map}
use Rattle.std.specs.Ordering.{eq_by_cmp}
use Rattle.std.specs.FinMap.Entries.{is_sorted-where_key}
use Rattle.std.specs.Option.{unwrap_or}
use Rattle.grid_types.specs.declared.layout_change.Cut.{Cut}
use Rattle.grid_types.specs.declared.layout_change.LayoutChange.TheVariants as note
use Rattle.grid_types.specs.declared.shape.Shape.{Shape}
use Rattle.grid_types.specs.declared.update.Record.{Record}
use Rattle.grid_types.specs.Keys.{key_cmp}
use Rattle.grid_types.specs.Regions.{contains, IsRegion, is_within, make_a_box, hull}
use Rattle.grid_model.specs.Images.{bucket_on}
use Rattle.grid_model.specs.Lone.{record_of}
use Rattle.grid_model.specs.Tables.{Table, IsTable, get, pairs_of, with_data, without}
use Rattle.grid_model.specs.Layouts.{BucketBox, Layout, box, holder, records_inside}
use Rattle.grid_model.specs.LayoutLaws.{StandsOver}
use Rattle.grid_model.specs.Notes.{left_of, right_of, together, split, joined, after_note_at}
use Rattle.grid_model.proofs.CutBoxes.{box-left, box-right}
use Rattle.grid_model.proofs.CutRegions.{left-contains, right-contains}
use Rattle.grid_model.proofs.Divided.{pairs-of-records}
use Rattle.grid_model.proofs.Holders.{holder-box}
use Rattle.grid_model.proofs.Hulls.{hull-contains}
use Rattle.grid_model.proofs.Joined.{is-merge}
use Rattle.history_pages.specs.OwnerPages.{as_bucket, numbered_bucket}
use Rattle.history_pages.proofs.Cutting.{CutsBox}
use Rattle.bucket_page.specs.Putting.{with_record}
use Rattle.bucket_page.specs.Changing.{without_key, left_bucket, right_bucket, with_all, joined_buckets}
use Rattle.change_plans.proofs.Inside.{get-inside, inside-put, inside-without, inside-others, inside-part, records-where, inside-both}

module _ {K : ℕ} where
  -- the pairs of a box's bucket are the records of its region
  pub pairs-on : (t : Table) (e : ℕ × BucketBox K) → pairs_of (bucket_on t e).rows ≡ records_inside t e.1.region
  pairs-on t e = pairs-of-records K (records_inside t e.1.region)

  -- and as many
  pub count-on : (t : Table) (e : ℕ × BucketBox K) → length (bucket_on t e).rows ≡ length (records_inside t e.1.region)
  count-on t e = length-map (records_inside t e.1.region) (record_of {K = K})

  -- a key of the box has the same data in its bucket as in the table
  pub get-on : (t : Table) (e : ℕ × BucketBox K) (k : List ℕ) → contains e.1.region k ≡ true → get (pairs_of (bucket_on t e).rows) k ≡ get t k
  get-on t e k has = ap (λ s. get s k) (pairs-on t e) ∙ get-inside e.1.region t k ∙ ap (λ b. cond b (get t k) None) has

  -- the bucket with a record put into it is the box's over the table with it
  pub put-on : (t : Table) (e : ℕ × BucketBox K) (r : Record K) → IsTable t → contains e.1.region r.key.numbers ≡ true → bucket_on (with_data t r.key.numbers r.value) e ≡ with_record (bucket_on t e) r
  put-on t e r h has =
      let same = inside-put e.1.region t r.key.numbers r.value h has ∙ ap (λ s. with_data s r.key.numbers r.value) (sym (pairs-on t e)) in
      λ i. record { number = e.0; box = e.1; rows = map record_of (same i) }

  -- the bucket without a key is the box's over the table without it
  pub without-on : (t : Table) (e : ℕ × BucketBox K) (k : List ℕ) → IsTable t → bucket_on (without t k) e ≡ without_key (bucket_on t e) k
  without-on t e k h =
      let same = inside-without e.1.region t k h ∙ ap (λ s. without s k) (sym (pairs-on t e)) in
      λ i. record { number = e.0; box = e.1; rows = map record_of (same i) }

  -- the left part of a box's bucket is that of the left part of the box
  pub left-on : (t : Table) (e : ℕ × BucketBox K) (c : Cut) → IsRegion K e.1.region → c.attribute < K → IsTrue (is_within e.1.region c.attribute c.value) → bucket_on t (e.0, left_of e.1 c) ≡ left_bucket (bucket_on t e) c
  left-on t e c region attribute within =
      let below : List ℕ → Bool = λ k. nat_lt (slice_index k c.attribute) c.value in
      let same = ap (map (record_of {K = K})) (inside-part e.1.region (left_of e.1 c).region below t (λ k. left-contains e.1 c k region attribute within)) ∙ records-where K below (records_inside t e.1.region) in
      λ i. record { number = e.0; box = left_of e.1 c; rows = same i }

  -- and so is the right part
  pub right-on : (t : Table) (e : ℕ × BucketBox K) (c : Cut) (right : ℕ) → IsRegion K e.1.region → c.attribute < K → IsTrue (is_within e.1.region c.attribute c.value) → bucket_on t (right, right_of e.1 c) ≡ right_bucket (bucket_on t e) c right
  right-on t e c right region attribute within =
      let from : List ℕ → Bool = λ k. nat_le c.value (slice_index k c.attribute) in
      let same = ap (map (record_of {K = K})) (inside-part e.1.region (right_of e.1 c).region from t (λ k. right-contains e.1 c k region attribute within)) ∙ records-where K from (records_inside t e.1.region) in
      λ i. record { number = right; box = right_of e.1 c; rows = same i }

  -- two buckets joined are that of the box that both make
  pub joined-on : (t : Table) (e d : ℕ × BucketBox K) → IsTable t → IsRegion K e.1.region → IsRegion K d.1.region → make_a_box e.1.region d.1.region ≡ true → bucket_on t (min e.0 d.0, together e.1 d.1) ≡ joined_buckets (bucket_on t e) (bucket_on t d)
  joined-on t e d h here there make =
      let all : records_inside t (hull e.1.region d.1.region) ≡ with_all (pairs_of (bucket_on t e).rows) (bucket_on t d).rows =
      sym (inside-both (hull e.1.region d.1.region) e.1.region d.1.region t h (λ k. hull-contains e.1.region d.1.region k here there make)) ∙ ap (λ s. with_all {K = K} s (bucket_on t d).rows) (sym (pairs-on t e)) in
      λ i. record { number = min e.0 d.0; box = together e.1 d.1; rows = map record_of (all i) }

-- the bucket of a number is that of its box
pub bucket-of : {K : ℕ} (L : Layout K) (t : Table) (n : ℕ) (b : BucketBox K) → box L n ≡ Some b → numbered_bucket L t n ≡ Some (bucket_on t (n, b))
unfolding numbered_bucket
bucket-of L t n b there = ap (option_map (as_bucket t n)) there

module _ {K : ℕ} (shape : Shape) (L : Layout K) (t : Table) (k : List ℕ) (e : ℕ × BucketBox K) (stands : StandsOver shape L t) (holds : holder L k ≡ Some e) where
  -- the box that has the key is there, and has it
  pub held : (box L e.0 ≡ Some e.1) × (contains e.1.region k ≡ true)
  held = holder-box k L e stands.sound.numbered holds

  region : IsRegion K e.1.region
  region = stands.sound.regions e.0 e.1 held.0

  -- the bucket after a plain remove
  pub plain-remove : numbered_bucket L (without t k) e.0 ≡ Some (without_key (bucket_on t e) k)
  plain-remove = bucket-of L (without t k) e.0 e.1 held.0 ∙ ap Some (without-on t e k stands.table)

module _ {K : ℕ} (shape : Shape) (L : Layout K) (t : Table) (r : Record K) (e : ℕ × BucketBox K) (stands : StandsOver shape L t) (holds : holder L r.key.numbers ≡ Some e) where
  abbrev there : (box L e.0 ≡ Some e.1) × (contains e.1.region r.key.numbers ≡ true)
  there = held shape L t r.key.numbers e stands holds

  -- the bucket after a plain put
  pub plain-put : numbered_bucket L (with_data t r.key.numbers r.value) e.0 ≡ Some (with_record (bucket_on t e) r)
  plain-put = bucket-of L (with_data t r.key.numbers r.value) e.0 e.1 there.0 ∙ ap Some (put-on t e r stands.table there.1)

  module _ (c : Cut) (right : ℕ) (is : CutsBox L e.1 c right) where
    -- the left part's bucket after a put that cuts
    pub cut-left : numbered_bucket (split L e.0 e.1 c right) (with_data t r.key.numbers r.value) e.0 ≡ Some (left_bucket (with_record (bucket_on t e) r) c)
    cut-left =
        bucket-of (split L e.0 e.1 c right) (with_data t r.key.numbers r.value) e.0 (left_of e.1 c) (box-left L e.0 e.1 c right there.0 is.free)
        ∙ ap Some (left-on (with_data t r.key.numbers r.value) e c (stands.sound.regions e.0 e.1 there.0) is.attribute is.within ∙ ap (λ b. left_bucket b c) (put-on t e r stands.table there.1))

    -- and the right part's
    pub cut-right : numbered_bucket (split L e.0 e.1 c right) (with_data t r.key.numbers r.value) right ≡ Some (right_bucket (with_record (bucket_on t e) r) c right)
    cut-right =
        bucket-of (split L e.0 e.1 c right) (with_data t r.key.numbers r.value) right (right_of e.1 c) (box-right L e.0 e.1 c right there.0 is.free)
        ∙ ap Some (right-on (with_data t r.key.numbers r.value) e c right (stands.sound.regions e.0 e.1 there.0) is.attribute is.within ∙ ap (λ b. right_bucket b c right) (put-on t e r stands.table there.1))

module _ {K : ℕ} (shape : Shape) (L : Layout K) (t : Table) (k : List ℕ) (e : ℕ × BucketBox K) (m : ℕ) (c : BucketBox K) (stands : StandsOver shape L t) (holds : holder L k ≡ Some e) (beside : box L m ≡ Some c) (differ : e.0 ≢ m) where
  here : (box L e.0 ≡ Some e.1) × (contains e.1.region k ≡ true)
  here = held shape L t k e stands holds

  -- the other box does not have the key
  pub lacks : contains c.region k ≡ false
  lacks = by (contains c.region k) refl
    where
      by : (b : Bool) → contains c.region k ≡ b → b ≡ false
      by true has = absurd (differ (stands.sound.apart k e.0 m e.1 c here.0 beside here.1 has))
      by false out = refl

  -- so its bucket is the same without the key
  pub other-on : bucket_on (without t k) (m, c) ≡ bucket_on t (m, c)
  other-on = ap (λ s. record { number = m; box = c; rows = map record_of s }) (inside-others c.region t k stands.table lacks)

  -- the bucket after a remove that joins
  pub merged : make_a_box e.1.region c.region ≡ true → numbered_bucket (after_note_at L e (note.Merge m)) (without t k) (min e.0 m) ≡ Some (joined_buckets (without_key (bucket_on t e) k) (bucket_on t (m, c)))
  merged make =
      ap (λ o. numbered_bucket (joined L e.0 e.1 m (unwrap_or o e.1)) (without t k) (min e.0 m)) beside
      ∙ bucket-of (joined L e.0 e.1 m c) (without t k) (min e.0 m) (together e.1 c) (is-merge L e.0 e.1 m c differ).survivor
      ∙ ap Some (joined-on (without t k) e (m, c) sorted (stands.sound.regions e.0 e.1 here.0) (stands.sound.regions m c beside) make
      ∙ (λ i. joined_buckets (without-on t e k stands.table i) (other-on i)))
    where
      sorted : IsTable (without t k)
      sorted = is_sorted-where_key key_cmp (λ x. not (eq_by_cmp key_cmp k x)) t stands.table
