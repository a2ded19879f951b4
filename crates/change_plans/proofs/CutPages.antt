-- The note and the pages of a put that cuts.
use Rattle.std.proofs.Common.{◌≡◌, ℕ, List, [], filter, Option, Some, sym, ap, subst, ◌∙◌, option_map}
use Rattle.grid_types.specs.declared.layout_change.Cut.{Cut}
use Rattle.grid_types.specs.declared.shape.Shape.{Shape}
use Rattle.grid_types.specs.declared.update.Record.{Record}
use Rattle.grid_types.specs.declared.update.Update.TheVariants.{Put}
use Rattle.grid_types.specs.Regions.{contains}
use Rattle.grid_model.specs.Buckets.{SpellsBucket}
use Rattle.grid_model.specs.Cuts.{cut}
use Rattle.grid_model.specs.Images.{bucket_on}
use Rattle.grid_model.specs.Layouts.{BucketBox, Layout, records_inside, unused}
use Rattle.grid_model.specs.Notes.{put_note, cut_note, keys_with}
use Rattle.grid_model.specs.Spellings.{BucketOf}
use Rattle.grid_model.specs.Tables.{Table, with_data, effect}
use Rattle.grid_model.proofs.RegionCounts.{keys-where, keys-put}
use Rattle.history_pages.proofs.Cutting.{CutsBox, lawful-cut}
use Rattle.split_policy.specs.Rows.{keys_of}
use Rattle.bucket_page.specs.Putting.{with_record}
use Rattle.bucket_page.specs.Changing.{left_bucket, right_bucket}
use Rattle.change_plans.specs.Plans.{IsCutDue, CutsByLayout, IsCutPut}
use Rattle.change_plans.proofs.Buckets.{put-on, cut-left, cut-right}
use Rattle.change_plans.proofs.Noted.{cut-full}
use Rattle.change_plans.proofs.Overfull.{keys-of-records}
use Rattle.change_plans.proofs.Pages.{page-of, has-key, tells-count}

-- the keys of a box's bucket with a record are those that the box is cut for
pub keys-on : {K : ℕ} (t : Table) (e : ℕ × BucketBox K) (r : Record K) → bucket_on (with_data t r.key.numbers r.value) e ≡ with_record (bucket_on t e) r → keys_of (with_record (bucket_on t e) r).rows ≡ keys_with t e.1.region r.key.numbers
keys-on {K} t e r same =
    let k = r.key.numbers in
    let region = contains e.1.region in
    ap (λ b. keys_of b.rows) (sym same)
    ∙ keys-of-records K (records_inside (with_data t k r.value) e.1.region)
    ∙ keys-where region (with_data t k r.value)
    ∙ ap (filter region) (keys-put k r.value [] t)
    ∙ sym (keys-where region (with_data t k []))

module _ {K : ℕ} (shape : Shape) (L : Layout K) (t : Table) (r : Record K) (e : ℕ × BucketBox K) (from : List ℕ) (n : ℕ) (due : IsCutDue shape L t r.key.numbers e from n) where
  overfull : bucket_on (with_data t r.key.numbers r.value) e ≡ with_record (bucket_on t e) r
  overfull = put-on t e r due.there.stands.table (has-key shape L t e from n r.key.numbers due.there)

  module _ (rule : Shape → List (List ℕ) → BucketBox K → List (List ℕ) → Option Cut) (boundaries : List (List ℕ)) (number : ℕ) (by : CutsByLayout rule L boundaries number) where
    -- what the rule says of the bucket with the record is the layout's cut
    pub rule-is : rule shape boundaries e.1 (keys_of (with_record (bucket_on t e) r).rows) ≡ cut shape L.scales e.1 (keys_with t e.1.region r.key.numbers)
    rule-is = by.median shape boundaries e.1 (keys_of (with_record (bucket_on t e) r).rows) ∙ (λ i. cut shape (by.scales i) e.1 (keys-on t e r overfull i))

    -- the rule's answer for the bucket in memory is that for the bucket with the record
    pub rule-on : (o : Option Cut) (b : BucketOf K) (rows : List (Record K)) → o ≡ rule shape boundaries b.box (keys_of rows) → rows ≡ b.rows → b ≡ with_record (bucket_on t e) r → o ≡ rule shape boundaries e.1 (keys_of (with_record (bucket_on t e) r).rows)
    rule-on o b rows is same bucket = is ∙ ap (λ x. rule shape boundaries b.box (keys_of x)) same ∙ (λ i. rule shape boundaries (bucket i).box (keys_of (bucket i).rows))

    -- so its cut is the note of the put
    pub noted-so : (o : Option Cut) → o ≡ rule shape boundaries e.1 (keys_of (with_record (bucket_on t e) r).rows) → put_note shape L t r.key.numbers ≡ option_map (cut_note L) o
    noted-so o is =
        cut-full shape L t r.key.numbers e due.there.holds due.absent (tells-count shape L t e from n r.key.numbers due.there ∙ due.full)
        ∙ ap (option_map (cut_note L)) (sym (is ∙ rule-is))

    -- and the pages of the bucket's parts are the new ones
    pub cut-pages : (c : Cut) (m : ℕ) (below above : List ℕ) → put_note shape L t r.key.numbers ≡ option_map (cut_note L) (Some c) → SpellsBucket m below (left_bucket (with_record (bucket_on t e) r) c) → SpellsBucket m above (right_bucket (with_record (bucket_on t e) r) c number)
        → IsCutPut L t r e c number below above
    unfolding effect
    cut-pages c m below above noted left right =
        let is : CutsBox L e.1 c number = subst (CutsBox L e.1 c) (sym by.number) (lawful-cut shape L t (Put r) e c (unused L) due.there.stands noted due.there.holds) in
        record {
          left = page-of _ (effect t (Put r)) e.0 m (left_bucket (with_record (bucket_on t e) r) c) below (cut-left shape L t r e due.there.stands due.there.holds c number is) left;
          right = page-of _ (effect t (Put r)) number m (right_bucket (with_record (bucket_on t e) r) c number) above (cut-right shape L t r e due.there.stands due.there.holds c number is) right;
        }
