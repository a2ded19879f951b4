-- Two layouts name the same box for a key.
use Rattle.std.proofs.Common.{◌≡◌, ◌≢◌, ℕ, Bool, true, false, T, List, Option, Some, None, IsSome, refl, sym, ap, true≢false, nat_cmp}
use Rattle.std.specs.Option.{option_map_or}
use Rattle.std.specs.FinMap.Entries.{is_sorted}
use Rattle.grid_types.specs.Regions.{contains}
use Rattle.grid_model.specs.Layouts.{BucketBox, Layout, box, holder, number_at, Apart}
use Rattle.grid_model.proofs.Boxes.{one-box}
use Rattle.grid_model.proofs.Holders.{holder-finds, holder-box}

-- the box of this number has the key
pub record Has {K : ℕ} (L : Layout K) (k : List ℕ) (n : ℕ) : Type 0 where
  pub here : BucketBox K
  pub there : box L n ≡ Some here
  pub has : contains here.region k ≡ true

module _ {K : ℕ} (L : Layout K) (k : List ℕ) (n : ℕ) (sorted : T (is_sorted nat_cmp L.boxes)) (apart : Apart L) (h : Has L k n) where
  -- the box that has a key is the one that is found for it
  pub has-holder : holder L k ≡ Some (n, h.here)
  has-holder = by (holder L k) refl (holder-finds k L n h.here h.there h.has)
    where
      by : (o : Option (ℕ × BucketBox K)) → holder L k ≡ o → IsSome o → o ≡ Some (n, h.here)
      by None e some = absurd (true≢false (sym some))
      by (Some x) e some =
          let found = holder-box k L x sorted e in
          let number : x.0 ≡ n = apart k x.0 n x.1 h.here found.0 h.there found.1 h.has in
          let is : x.1 ≡ h.here = one-box L x.0 n x.1 h.here found.0 h.there number in
          λ i. Some (number i, is i)

-- no other box has the key
pub lacks : {K : ℕ} (L : Layout K) (k : List ℕ) (n m : ℕ) (d : BucketBox K) → Apart L → Has L k n → m ≢ n → box L m ≡ Some d → contains d.region k ≡ false
lacks L k n m d apart h other there = by (contains d.region k) refl
  where
    by : (t : Bool) → contains d.region k ≡ t → t ≡ false
    by true has = absurd (other (apart k m n d h.here there h.there has h.has))
    by false has = refl

-- where each box of the new layout that has the key had it before, both name the same one
pub same-name : {K : ℕ} (M L : Layout K) (k : List ℕ) → T (is_sorted nat_cmp M.boxes) → T (is_sorted nat_cmp L.boxes) → Apart L → IsSome (holder M k) → ((n : ℕ) → Has M k n → Has L k n) → number_at M k ≡ number_at L k
same-name {K} M L k sorted_new sorted apart some had = by (holder M k) refl some
  where
    by : (o : Option (ℕ × BucketBox K)) → holder M k ≡ o → IsSome o → option_map_or (λ e. e.0) o 0 ≡ number_at L k
    by None e some = absurd (true≢false (sym some))
    by (Some x) e some =
        let found = holder-box k M x sorted_new e in
        let was : Has L k x.0 = had x.0 (record { here = x.1; there = found.0; has = found.1 }) in
        ap (λ o. option_map_or (λ y. y.0) o 0) (sym (has-holder L k x.0 sorted apart was))
