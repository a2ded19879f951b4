-- What a page tells of its head, where it is the page of a box of a layout.
use Rattle.std.proofs.Common.{◌≡◌, ◌≤◌, ℕ, Bool, true, false, List, length, sym, ap, subst, ◌∙◌, true≢false, IsTrue}
use Rattle.grid_types.specs.declared.shape.Shape.{Shape}
use Rattle.grid_types.specs.Regions.{contains, IsRegion}
use Rattle.grid_types.specs.Shapes.{is_shape}
use Rattle.grid_types.proofs.Places.{within-limits}
use Rattle.page_fields.proofs.Entries.{AreBytes}
use Rattle.grid_model.specs.Buckets.{SpellsBucket}
use Rattle.grid_model.specs.Images.{bucket_on}
use Rattle.grid_model.specs.Layouts.{BucketBox, Layout}
use Rattle.grid_model.specs.Spellings.{BucketOf}
use Rattle.grid_model.specs.Tables.{Table}
use Rattle.bucket_page.specs.declared.head.Head.{Head}
use Rattle.bucket_page.specs.OnPage.{head_told, bucket_told}
use Rattle.bucket_page.proofs.OnPage.{told}
use Rattle.change_plans.specs.Plans.{IsPageOf}
use Rattle.change_plans.proofs.Overfull.{roomier}
use Rattle.update_plans.specs.Putting.{HasNoBucketOf}

-- a lawful shape's buckets hold at most 48 records
pub few-records : (shape : Shape) → IsTrue (is_shape shape) → shape.capacity ≤ 48
few-records shape lawful = (within-limits shape lawful).small_capacity

-- a page that spells a bucket of a lawful shape spells it at the most records too
pub spelled-widely : {K : ℕ} (shape : Shape) (bytes : List ℕ) (b : BucketOf K) → IsTrue (is_shape shape) → SpellsBucket shape.capacity bytes b → SpellsBucket 48 bytes b
spelled-widely shape bytes b lawful s = record { lawful = roomier shape.capacity 48 b s.lawful (few-records shape lawful); bytes = s.bytes }

module _ {K : ℕ} (shape : Shape) (t : Table) (e : ℕ × BucketBox K) (from : List ℕ) (few : K ≤ 4) (lawful : IsTrue (is_shape shape)) (fits : AreBytes from) (s : SpellsBucket shape.capacity from (bucket_on t e)) where
  -- the bucket of the box is what the page tells
  pub is-told : bucket_on t e ≡ bucket_told K from
  is-told = told K shape.capacity from (bucket_on t e) few (few-records shape lawful) fits s

  -- so its head has the box's number
  pub head-number : (h : Head K) → h ≡ head_told K from → h.number ≡ e.0
  head-number h is = ap (λ (x : Head K). x.number) is ∙ sym (ap (λ (b : BucketOf K). b.number) is-told)

  -- and its region
  pub head-region : (h : Head K) → h ≡ head_told K from → h.region ≡ e.1.region
  head-region h is = ap (λ (x : Head K). x.region) is ∙ sym (ap (λ (b : BucketOf K). b.box.region) is-told)

-- the page of a box has as many records as its head says
pub at-head : {K : ℕ} (shape : Shape) (L : Layout K) (t : Table) (k : List ℕ) (e : ℕ × BucketBox K) (from : List ℕ) (n count : ℕ) → K ≤ 4 → AreBytes from → length (bucket_told K from).rows ≡ count → IsPageOf shape L t k e from n → IsPageOf shape L t k e from count
at-head shape L t k e from n count few fits rows h = record {
  stands = h.stands;
  holds = h.holds;
  spelled = h.spelled;
  count = ap (λ b. length b.rows) (is-told shape t e from few h.stands.lawful fits h.spelled) ∙ rows;
}

-- where the head's region does not have a key, the page spells no bucket whose region has it
pub not-here : {K : ℕ} (capacity : ℕ) (from k : List ℕ) (h : Head K) (found : Bool) → K ≤ 4 → capacity ≤ 48 → AreBytes from → h ≡ head_told K from → found ≡ contains h.region k → found ≡ false → HasNoBucketOf K capacity from k
not-here {K} capacity from k h found few small fits is value out b s has =
    let there : found ≡ true = value ∙ ap (λ (x : Head K). contains x.region k) is ∙ sym (ap (λ (x : BucketOf K). contains x.box.region k) (told K capacity from b few small fits s)) ∙ has in
    true≢false (sym there ∙ out)

-- the region of the head of a page that spells a bucket is one
pub is-region : {K : ℕ} (capacity : ℕ) (from : List ℕ) (h : Head K) → h ≡ head_told K from → SpellsBucket capacity from (bucket_told K from) → IsRegion K h.region
is-region {K} capacity from h is s = subst (λ (x : Head K). IsRegion K x.region) (sym is) s.lawful.region
