-- The boxes after a cut: each key that lay in exactly one box still does.
use Rattle.std.proofs.Common.{◌≡◌, ◌≢◌, ◌<◌, ◌+◌, ℕ, Bool, true, false, cond, ◌&&◌, T, List, length, slice_index, Option, Some, None, refl, sym, ap, subst, ◌∙◌, arith, true≢false, IsTrue, IsSome, nat_cmp, is_some, nat_le, nat_lt, leb-true, le-leb, ltb-true, ltb-false}
use Rattle.std.specs.Ordering.{eq_by_cmp}
use Rattle.std.specs.Cmp.{nat_cmp_total}
use Rattle.std.specs.FinMap.Entries.{put, find-put, is_sorted, is_sorted-put, length-put}
use Rattle.grid_types.specs.declared.layout_change.Cut.{Cut}
use Rattle.grid_types.specs.Regions.{contains, IsRegion, is_within}
use Rattle.grid_types.proofs.Numbers.{both, first, second}
use Rattle.grid_model.specs.Layouts.{BucketBox, Layout, box, holder, EachBox, Apart}
use Rattle.grid_model.specs.Notes.{left_of, right_of, split}
use Rattle.grid_model.proofs.CutRegions.{left-contains, right-contains}
use Rattle.grid_model.proofs.Found.{one-number, ties-itself, no-tie, two-numbers}
use Rattle.grid_model.proofs.Boxes.{one-value, some-not-none}
use Rattle.grid_model.proofs.Holders.{holder-box, holder-finds}

-- the boxes after a cut
box-split : {K : ℕ} (L : Layout K) (n : ℕ) (b : BucketBox K) (c : Cut) (right m : ℕ)
    → box (split L n b c right) m ≡ cond (eq_by_cmp nat_cmp m right) (Some (right_of b c)) (cond (eq_by_cmp nat_cmp m n) (Some (left_of b c)) (box L m))
unfolding split
box-split L n b c right m =
    find-put nat_cmp nat_cmp_total m right (right_of b c) (put nat_cmp n (left_of b c) L.boxes)
    ∙ ap (λ o. cond (eq_by_cmp nat_cmp m right) (Some (right_of b c)) o) (find-put nat_cmp nat_cmp_total m n (left_of b c) L.boxes)

module _ {K : ℕ} (L : Layout K) (n : ℕ) (b : BucketBox K) (c : Cut) (right : ℕ) (there : box L n ≡ Some b) (unused : box L right ≡ None) where
  two_boxes : n ≢ right
  two_boxes e = some-not-none b (sym there ∙ ap (box L) e ∙ unused)

  -- the right part has its number
  pub box-right : box (split L n b c right) right ≡ Some (right_of b c)
  box-right = box-split L n b c right right ∙ ap (λ t. cond t (Some (right_of b c)) (cond (eq_by_cmp nat_cmp right n) (Some (left_of b c)) (box L right))) (ties-itself right)

  -- the left part has the number of the box that is cut
  pub box-left : box (split L n b c right) n ≡ Some (left_of b c)
  box-left = box-split L n b c right n
      ∙ ap (λ t. cond t (Some (right_of b c)) (cond (eq_by_cmp nat_cmp n n) (Some (left_of b c)) (box L n))) (no-tie n right two_boxes)
      ∙ ap (λ t. cond t (Some (left_of b c)) (box L n)) (ties-itself n)

  -- and the other boxes stay
  pub box-other : (m : ℕ) → m ≢ right → m ≢ n → box (split L n b c right) m ≡ box L m
  box-other m r l = box-split L n b c right m
      ∙ ap (λ t. cond t (Some (right_of b c)) (cond (eq_by_cmp nat_cmp m n) (Some (left_of b c)) (box L m))) (no-tie m right r)
      ∙ ap (λ t. cond t (Some (left_of b c)) (box L m)) (no-tie m n l)

  -- each box after a cut has P, where its parts and the other boxes have it
  pub each-part : (P : ℕ → BucketBox K → Type 0) → P n (left_of b c) → P right (right_of b c) → ((m : ℕ) (d : BucketBox K) → box L m ≡ Some d → m ≢ n → P m d) → EachBox (split L n b c right) P
  each-part P left rest others m d e = by (eq_by_cmp nat_cmp m right) refl
    where
      left_or : (t : Bool) → eq_by_cmp nat_cmp m n ≡ t → m ≢ right → P m d
      left_or true s r =
          let number : m ≡ n = one-number m n s in
          subst (λ x. P x d) (sym number) (subst (P n) (one-value (left_of b c) d (sym box-left ∙ ap (box (split L n b c right)) (sym number) ∙ e)) left)
      left_or false s r = let differ : m ≢ n = two-numbers m n s in others m d (sym (box-other m r differ) ∙ e) differ

      by : (t : Bool) → eq_by_cmp nat_cmp m right ≡ t → P m d
      by true s =
          let number : m ≡ right = one-number m right s in
          subst (λ x. P x d) (sym number) (subst (P right) (one-value (right_of b c) d (sym box-right ∙ ap (box (split L n b c right)) (sym number) ∙ e)) rest)
      by false s = left_or (eq_by_cmp nat_cmp m n) refl (two-numbers m right s)

  -- the numbers after a cut ascend
  pub split-numbered : T (is_sorted nat_cmp L.boxes) → T (is_sorted nat_cmp (split L n b c right).boxes)
  unfolding split
  split-numbered s = is_sorted-put nat_cmp nat_cmp_total right (right_of b c) (put nat_cmp n (left_of b c) L.boxes) (is_sorted-put nat_cmp nat_cmp_total n (left_of b c) L.boxes s)

  -- there is one box more
  pub length-split : T (is_sorted nat_cmp L.boxes) → length (split L n b c right).boxes ≡ length L.boxes + 1
  unfolding split
  length-split s =
      let one : length (put nat_cmp n (left_of b c) L.boxes) ≡ length L.boxes = length-put nat_cmp nat_cmp_total n (left_of b c) L.boxes s ∙ ap (λ o. cond (is_some o) (length L.boxes) (length L.boxes + 1)) there in
      let none : is_some (box (record { scales = L.scales; boxes = put nat_cmp n (left_of b c) L.boxes }) right) ≡ false =
      ap is_some (find-put nat_cmp nat_cmp_total right n (left_of b c) L.boxes ∙ ap (λ t. cond t (Some (left_of b c)) (box L right)) (no-tie right n (λ e. two_boxes (sym e))) ∙ unused) in
      length-put nat_cmp nat_cmp_total right (right_of b c) (put nat_cmp n (left_of b c) L.boxes) (is_sorted-put nat_cmp nat_cmp_total n (left_of b c) L.boxes s)
      ∙ ap (λ t. cond t (length (put nat_cmp n (left_of b c) L.boxes)) (length (put nat_cmp n (left_of b c) L.boxes) + 1)) none
      ∙ ap (λ x. x + 1) one

  module _ (region : IsRegion K b.region) (attribute : c.attribute < K) (within : IsTrue (is_within b.region c.attribute c.value)) where
    -- a key that the cut box had is in one of its parts
    part_found : (k : List ℕ) → contains b.region k ≡ true → IsSome (holder (split L n b c right) k)
    part_found k has = by (nat_lt (slice_index k c.attribute) c.value) refl
      where
        by : (t : Bool) → nat_lt (slice_index k c.attribute) c.value ≡ t → IsSome (holder (split L n b c right) k)
        by true e = holder-finds k (split L n b c right) n (left_of b c) box-left
            (left-contains b c k region attribute within ∙ both (contains b.region k) (nat_lt (slice_index k c.attribute) c.value) has e)
        by false e = holder-finds k (split L n b c right) right (right_of b c) box-right
            (right-contains b c k region attribute within ∙ both (contains b.region k) (nat_le c.value (slice_index k c.attribute)) has (le-leb c.value (slice_index k c.attribute) (ltb-false (slice_index k c.attribute) c.value e)))

    box_found : (k : List ℕ) (m : ℕ) (d : BucketBox K) → box L m ≡ Some d → contains d.region k ≡ true → IsSome (holder (split L n b c right) k)
    box_found k m d at has = by (eq_by_cmp nat_cmp m n) refl
      where
        by : (t : Bool) → eq_by_cmp nat_cmp m n ≡ t → IsSome (holder (split L n b c right) k)
        by true e = let same : d ≡ b = one-value d b (sym at ∙ ap (box L) (one-number m n e) ∙ there) in part_found k (ap (λ (x : BucketBox K). contains x.region k) (sym same) ∙ has)
        by false e = holder-finds k (split L n b c right) m d (box-other m (λ r. some-not-none d (sym at ∙ ap (box L) r ∙ unused)) (two-numbers m n e) ∙ at) has

    -- a key that was found is found
    pub split-covers : (k : List ℕ) → T (is_sorted nat_cmp L.boxes) → IsSome (holder L k) → IsSome (holder (split L n b c right) k)
    split-covers k s found = by (holder L k) refl found
      where
        by : (o : Option (ℕ × BucketBox K)) → holder L k ≡ o → IsSome o → IsSome (holder (split L n b c right) k)
        by None e found = absurd (true≢false (sym found))
        by (Some x) e found = let held = holder-box k L x s e in box_found k x.0 x.1 held.0 held.1

    -- where a box after the cut comes from
    data Origin (m : ℕ) (k : List ℕ) : Type 0 where
      Right : m ≡ right → contains b.region k ≡ true → nat_le c.value (slice_index k c.attribute) ≡ true → Origin m k
      Left : m ≡ n → contains b.region k ≡ true → nat_lt (slice_index k c.attribute) c.value ≡ true → Origin m k
      Other : m ≢ n → (d : BucketBox K) → box L m ≡ Some d → contains d.region k ≡ true → Origin m k

    origin : (k : List ℕ) → EachBox (split L n b c right) (λ m d. contains d.region k ≡ true → Origin m k)
    origin k = each-part (λ m d. contains d.region k ≡ true → Origin m k)
        (λ has.
        let held : (contains b.region k && nat_lt (slice_index k c.attribute) c.value) ≡ true = sym (left-contains b c k region attribute within) ∙ has in
        Left refl (first (contains b.region k) (nat_lt (slice_index k c.attribute) c.value) held) (second (contains b.region k) (nat_lt (slice_index k c.attribute) c.value) held))
        (λ has.
        let held : (contains b.region k && nat_le c.value (slice_index k c.attribute)) ≡ true = sym (right-contains b c k region attribute within) ∙ has in
        Right refl (first (contains b.region k) (nat_le c.value (slice_index k c.attribute)) held) (second (contains b.region k) (nat_le c.value (slice_index k c.attribute)) held))
        (λ m d at differ has. Other differ d at has)

    both_sides : (x : ℕ) {A : Type 0} → nat_le c.value x ≡ true → nat_lt x c.value ≡ true → A
    both_sides x r l = absurd (omega (arith, leb-true c.value x r, ltb-true x c.value l))

    meet : Apart L → (k : List ℕ) (m p : ℕ) → Origin m k → Origin p k → m ≡ p
    meet apart k m p (Right e h r) (Right f g s) = e ∙ sym f
    meet apart k m p (Right e h r) (Left f g s) = both_sides (slice_index k c.attribute) r s
    meet apart k m p (Right e h r) (Other differ d at g) = absurd (differ (sym (apart k n p b d there at h g)))
    meet apart k m p (Left e h r) (Right f g s) = both_sides (slice_index k c.attribute) s r
    meet apart k m p (Left e h r) (Left f g s) = e ∙ sym f
    meet apart k m p (Left e h r) (Other differ d at g) = absurd (differ (sym (apart k n p b d there at h g)))
    meet apart k m p (Other differ d at g) (Right f h s) = absurd (differ (sym (apart k n m b d there at h g)))
    meet apart k m p (Other differ d at g) (Left f h s) = absurd (differ (sym (apart k n m b d there at h g)))
    meet apart k m p (Other differ d at g) (Other differ2 e at2 h) = apart k m p d e at at2 g h

    -- no key is in two boxes after a cut
    pub split-apart : Apart L → Apart (split L n b c right)
    split-apart apart k m p d e at at2 h g = meet apart k m p (origin k m d at h) (origin k p e at2 g)
