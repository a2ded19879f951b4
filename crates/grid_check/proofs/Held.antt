-- What is held of a bucket says what the page of its number spells.
use Rattle.std.proofs.Common.{◌≡◌, ◌≢◌, ◌<◌, ◌≤◌, ◌↔◌, ◌∙◌, ℕ, zero, suc, List, [], ◌∷◌, length, get_or, slice_index, sym, ap, subst, arith}
use Rattle.grid_types.specs.declared.shape.Shape.{Shape}
use Rattle.grid_types.specs.declared.sizes.TheConstants.{MOST_ATTRIBUTES, MOST_RECORDS}
use Rattle.grid_types.specs.declared.region.Region.{Region}
use Rattle.grid_model.specs.Lawful.{nowhere}
use Rattle.grid_model.specs.Spellings.{BucketOf}
use Rattle.grid_model.specs.Buckets.{SpellsBucket}
use Rattle.grid_model.specs.Images.{entry_page}
use Rattle.bucket_page.specs.OnPage.{bucket_told}
use Rattle.bucket_page.proofs.Standing.{one_bucket_spelled}
use Rattle.grid_check.specs.Reads.{HoldsPage, AreHeld}
use Rattle.grid_check.specs.declared.holding.Holding.{Holding}

-- an item of a list that has one there
pub item : {X : Type 0} (xs : List X) (n : ℕ) → n < length xs → X
item [] n lt = absurd (omega (arith, lt))
item (x ∷ xs) zero lt = x
item (x ∷ xs) (suc n) lt = item xs n (omega (arith, lt))

-- a rule on the region of whatever bucket a page spells
abbrev pub OnRegion : {K : ℕ} → (Region K → Type 0) → ℕ → List ℕ → Type 0
OnRegion {K} rule capacity page = (b : BucketOf K) → SpellsBucket capacity page b → rule b.box.region

module _ {K : ℕ} (s : Shape) (few : K ≤ MOST_ATTRIBUTES) (low : s.capacity ≤ MOST_RECORDS) where
  -- it is kept where the region that is held keeps it
  pub rule_on_held : (rule : Region K → Type 0) (page : List ℕ) (n : ℕ) (held : Holding K) → HoldsPage s.capacity page n held → rule held.region ↔ OnRegion rule s.capacity page
  rule_on_held rule page n held h = (
    (λ r b spelled. subst rule (h.region_is ∙ ap (λ (c : BucketOf K). c.box.region) (sym (one_bucket_spelled s.capacity page b (bucket_told K page) few low spelled h.spelled))) r),
    (λ all. subst rule (sym h.region_is) (all (bucket_told K page) h.spelled)),
  )

  -- so is one that is judged by what is held under each number that a bucket has
  pub rule_on_all : (image table : List ℕ) (holdings : List (Holding K)) → length holdings ≡ length table → AreHeld s image table holdings (length table) → (rule : ℕ → Region K → Type 0)
      → (n : ℕ) → n < length table → slice_index table n ≢ nowhere → ((d : Holding K) → rule n (get_or holdings n d).region) ↔ OnRegion (rule n) s.capacity (entry_page s image table n)
  rule_on_all image table holdings long held rule n lt named =
      let some : Holding K = item holdings n (omega (arith, lt, long)) in (
        (λ each. (rule_on_held (rule n) (entry_page s image table n) n (get_or holdings n some) (held n lt named some)).0 (each some)),
        (λ all d. (rule_on_held (rule n) (entry_page s image table n) n (get_or holdings n d) (held n lt named d)).1 all),
      )
