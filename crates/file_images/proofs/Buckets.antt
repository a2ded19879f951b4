-- A table area names one list of buckets.
use Rattle.std.proofs.Common.{◌≡◌, ◌<◌, ◌≤◌, ℕ, List, map, length, get_or, sym, ap, subst, ◌∙◌, arith}
use Rattle.std.proofs.lemmas.List.{same_lists, length-map, get_or-map}
use Rattle.grid_types.specs.declared.shape.Shape.{Shape}
use Rattle.grid_types.specs.declared.sizes.TheConstants.{MOST_ATTRIBUTES, MOST_RECORDS}
use Rattle.grid_model.specs.Spellings.{BucketOf}
use Rattle.grid_model.specs.Buckets.{SpellsBucket}
use Rattle.grid_model.specs.Images.{HasBuckets, entry_page}
use Rattle.bucket_page.proofs.Standing.{one_bucket_spelled}

-- the bucket pages of a table spell one list of buckets
pub one_list_of_buckets : {K : ℕ} (s : Shape) (image table : List ℕ) → K ≤ MOST_ATTRIBUTES → s.capacity ≤ MOST_RECORDS → (bs cs : List (BucketOf K)) → HasBuckets s image table bs → HasBuckets s image table cs → bs ≡ cs
one_list_of_buckets {K} s image table few small bs cs x y =
    let number : BucketOf K → ℕ = λ b. b.number in
    let numbers : map number bs ≡ map number cs = x.numbers ∙ sym y.numbers in
    let long : length bs ≡ length cs = sym (length-map bs number) ∙ ap length numbers ∙ length-map cs number in
    same_lists bs cs long (λ i d lt.
    let inside : i < length cs = omega (arith, lt, long) in
    let b = get_or bs i d in
    let c = get_or cs i d in
    let same : b.number ≡ c.number = sym (get_or-map number bs i d d.number lt) ∙ ap (λ ns. get_or ns i d.number) numbers ∙ get_or-map number cs i d d.number inside in
    one_bucket_spelled s.capacity (entry_page s image table b.number) b c few small (x.each i d lt) (subst (λ n. SpellsBucket s.capacity (entry_page s image table n) c) (sym same) (y.each i d inside)))
