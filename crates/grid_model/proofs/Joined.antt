-- The boxes after a merge.
use Rattle.std.proofs.Common.{◌≡◌, ◌≢◌, ℕ, Bool, cond, not, List, min, max, ◌==◌, Some, None, refl, sym, ap, ◌∙◌, arith, nat_cmp, eq-eqb}
use Rattle.std.proofs.lemmas.Bool.{ne_eqb}
use Rattle.std.specs.Cmp.{nat_cmp_total, unsigned_tied}
use Rattle.std.specs.FinMap.{nat_cmp-IsAntisymmetric}
use Rattle.std.specs.FinMap.Entries.{find-put, find-where_key, where_key}
use Rattle.std.specs.Option.{option_map_or, unwrap_or}
use Rattle.grid_types.specs.declared.layout_change.LayoutChange.TheVariants as note
use Rattle.grid_model.specs.Layouts.{BucketBox, Layout, box, holder}
use Rattle.grid_model.specs.Notes.{together, joined, after_note, after_note_at}
use Rattle.grid_model.specs.LayoutLaws.{IsMerge}
use Rattle.grid_model.proofs.Boxes.{one-value}

-- the layout after a merge with a box that is there
pub after-merge : {K : ℕ} (L : Layout K) (k : List ℕ) (n : ℕ) (b : BucketBox K) (m : ℕ) (c : BucketBox K) → holder L k ≡ Some (n, b) → box L m ≡ Some c → after_note L k (note.Merge m) ≡ joined L n b m c
unfolding after_note
after-merge L k n b m c holds there = ap (λ o. option_map_or (λ e. after_note_at L e (note.Merge m)) o L) holds ∙ ap (λ o. joined L n b m (unwrap_or o b)) there

module _ {K : ℕ} (L : Layout K) (n : ℕ) (b : BucketBox K) (m : ℕ) (c : BucketBox K) where
  box-joined : (i : ℕ) → box (joined L n b m c) i ≡ cond (i == min n m) (Some (together b c)) (cond (not (i == max n m)) (box L i) None)
  unfolding joined
  box-joined i =
      let kept : ℕ → Bool = λ x. not (x == max n m) in
      find-put nat_cmp nat_cmp_total i (min n m) (together b c) (where_key nat_cmp kept L.boxes)
      ∙ (λ j. cond (unsigned_tied i (min n m) j) (Some (together b c)) (find-where_key nat_cmp kept i (λ x e. ap kept (sym (nat_cmp-IsAntisymmetric i x e))) L.boxes j))

  survivor : box (joined L n b m c) (min n m) ≡ Some (together b c)
  survivor = box-joined (min n m) ∙ ap (λ t. cond t (Some (together b c)) (cond (not (min n m == max n m)) (box L (min n m)) None)) (eq-eqb (min n m) (min n m) refl)

  gone : n ≢ m → box (joined L n b m c) (max n m) ≡ None
  gone differ =
      box-joined (max n m)
      ∙ (λ i. cond (ne_eqb (max n m) (min n m) (λ e. differ (omega (arith, e))) i) (Some (together b c)) (cond (not (eq-eqb (max n m) (max n m) refl i)) (box L (max n m)) None))

  other : (i : ℕ) → i ≢ n → i ≢ m → box (joined L n b m c) i ≡ box L i
  other i p q =
      box-joined i
      ∙ (λ j. cond (ne_eqb i (min n m) (λ e. omega arith) j) (Some (together b c)) (cond (not (ne_eqb i (max n m) (λ e. omega arith) j)) (box L i) None))

  scales-kept : (joined L n b m c).scales ≡ L.scales
  unfolding joined
  scales-kept = refl

  -- the lower number has both boxes, the higher one none, and the others stay
  pub is-merge : n ≢ m → IsMerge L n b m c (joined L n b m c)
  is-merge differ = record {
    survivor = survivor;
    turn = λ d e. ap (λ (x : BucketBox K). x.turn) (one-value d (together b c) (sym e ∙ survivor));
    gone = gone differ;
    others = other;
    scales = scales-kept;
  }
