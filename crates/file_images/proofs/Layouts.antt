-- The pages of a root spell one layout.
use Rattle.std.proofs.Common.{◌≡◌, ◌≤◌, ℕ, List, Option, Some, None, IsSome, nat_cmp, refl, sym, ap, ◌∙◌, true≢false}
use Rattle.std.specs.Cmp.{nat_cmp_total}
use Rattle.std.specs.Option.{is_some}
use Rattle.std.specs.FinMap.{nat_cmp-IsAntisymmetric}
use Rattle.std.specs.FinMap.Entries.{same_entries}
use Rattle.grid_types.specs.declared.shape.Shape.{Shape}
use Rattle.grid_types.specs.declared.sizes.TheConstants.{MOST_ATTRIBUTES, MOST_RECORDS}
use Rattle.grid_model.specs.Lists.{is_among}
use Rattle.grid_model.specs.Tables.{Table}
use Rattle.grid_model.specs.Layouts.{BucketBox, Layout, box, IsSound}
use Rattle.grid_model.specs.Images.{PagesSpell, bucket_on, entry_page}
use Rattle.grid_model.proofs.Counts.{among-found}
use Rattle.grid_model.proofs.Numbered.{found-among}
use Rattle.bucket_page.proofs.Standing.{one_bucket_spelled}

module _ {K : ℕ} (s : Shape) (image parts_at table : List ℕ) (few : K ≤ MOST_ATTRIBUTES) (small : s.capacity ≤ MOST_RECORDS) where
  -- a number that one layout has, the other has too
  there_too : (L M : Layout K) (t u : Table) (n : ℕ) → PagesSpell s image parts_at table L t → PagesSpell s image parts_at table M u → IsSome (box L n) → IsSome (box M n)
  there_too L M t u n x y some = among-found M.boxes n (ap (λ ns. is_among ns n) (y.numbers ∙ sym x.numbers) ∙ found-among L.boxes n some)

  -- where one page spells the boxes of both, they are one box
  one_box_spelled : (L M : Layout K) (t u : Table) (n : ℕ) (b c : BucketBox K) → PagesSpell s image parts_at table L t → PagesSpell s image parts_at table M u → box L n ≡ Some b → box M n ≡ Some c → b ≡ c
  one_box_spelled L M t u n b c x y p q =
      ap (λ e. e.box) (one_bucket_spelled s.capacity (entry_page s image table n) (bucket_on t (n, b)) (bucket_on u (n, c)) few small (x.buckets n b p) (y.buckets n c q))

  same_box : (L M : Layout K) (t u : Table) (n : ℕ) → PagesSpell s image parts_at table L t → PagesSpell s image parts_at table M u → box L n ≡ box M n
  same_box L M t u n x y = by (box L n) (box M n) refl refl
    where
      by : (o p : Option (BucketBox K)) → box L n ≡ o → box M n ≡ p → box L n ≡ box M n
      by None None e f = e ∙ sym f
      by None (Some c) e f = absurd (true≢false (sym (there_too M L u t n y x (ap is_some f)) ∙ ap is_some e))
      by (Some b) None e f = absurd (true≢false (sym (there_too L M t u n x y (ap is_some e)) ∙ ap is_some f))
      by (Some b) (Some c) e f = e ∙ ap Some (one_box_spelled L M t u n b c x y e f) ∙ sym f

  -- pages spell one layout that is sound
  pub one_layout : (L M : Layout K) (t u : Table) → L.scales ≡ M.scales → IsSound s L t → IsSound s M u → PagesSpell s image parts_at table L t → PagesSpell s image parts_at table M u → L ≡ M
  one_layout L M t u scales sound same x y =
      let boxes : L.boxes ≡ M.boxes = same_entries nat_cmp nat_cmp_total nat_cmp-IsAntisymmetric L.boxes M.boxes sound.numbered same.numbered (λ n. same_box L M t u n x y) in
      λ i. record { scales = scales i; boxes = boxes i }
