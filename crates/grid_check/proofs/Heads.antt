-- A page spells a bucket of a number exactly where its head has that number.
use Rattle.std.proofs.Common.{◌≡◌, ◌≤◌, ℕ, List, sym, ap, ◌∙◌}
use Rattle.grid_types.specs.declared.sizes.TheConstants.{MOST_ATTRIBUTES, MOST_RECORDS}
use Rattle.grid_model.specs.Spellings.{BucketOf}
use Rattle.grid_model.specs.Buckets.{SpellsBucket}
use Rattle.bucket_page.specs.declared.head.Head.{Head}
use Rattle.bucket_page.specs.OnPage.{head_told, bucket_told}
use Rattle.bucket_page.proofs.Standing.{one_bucket_spelled}
use Rattle.grid_check.specs.Rules.{SpellsNumber}

-- where the head has the number, the page spells a bucket of it
pub head_has_number : (K capacity n : ℕ) (page : List ℕ) (head : Head K) → SpellsBucket capacity page (bucket_told K page) → head ≡ head_told K page → head.number ≡ n → SpellsNumber K capacity page n
head_has_number K capacity n page head s told e = record { bucket = bucket_told K page; spelled = s; number_is = ap (λ (h : Head K). h.number) (sym told) ∙ e }

-- where the page spells a bucket of the number, the head has it
pub number_on_head : (K capacity n : ℕ) (page : List ℕ) (head : Head K) → K ≤ MOST_ATTRIBUTES → capacity ≤ MOST_RECORDS → SpellsBucket capacity page (bucket_told K page) → head ≡ head_told K page → SpellsNumber K capacity page n → head.number ≡ n
number_on_head K capacity n page head few low s told x =
    let same : x.bucket ≡ bucket_told K page = one_bucket_spelled capacity page x.bucket (bucket_told K page) few low x.spelled s in
    ap (λ (h : Head K). h.number) told ∙ ap (λ (b : BucketOf K). b.number) (sym same) ∙ x.number_is
