-- The plan of a removal that joins two buckets.
use Rattle.std.proofs.Common.{◌≡◌, ◌+◌, ℕ, Bool, true, false, cond, List, [], ◌∷◌, length, min, max, nat_lt, Some, refl, sym, ap, subst, ◌∙◌, arith, ltb-true}
use Rattle.std.proofs.lemmas.Bool.{ltb-false}
use Rattle.std.proofs.lemmas.List.{length-map}
use Rattle.std.specs.Option.{unwrap_or}
use Rattle.grid_types.specs.declared.key.Key.{Key}
use Rattle.grid_types.specs.declared.layout_change.LayoutChange.TheVariants as note
use Rattle.grid_types.specs.declared.owner.Owner.TheVariants.{Bucket, Part}
use Rattle.grid_types.specs.declared.region.Region.{Region}
use Rattle.grid_types.specs.declared.shape.Shape.{Shape}
use Rattle.grid_types.specs.declared.update.Update.TheVariants.{Remove}
use Rattle.grid_model.specs.Cells.{dims}
use Rattle.grid_model.specs.Layouts.{BucketBox, Layout, box}
use Rattle.grid_model.specs.Lone.{renewed, need}
use Rattle.grid_model.specs.Tables.{Table, get}
use Rattle.history_pages.specs.PageLaws.{IsChange, page_after}
use Rattle.directory_changes.specs.Changes.{directory_change, parts_changed, IsChangeOf}
use Rattle.directory_changes.specs.declared.change.DirectoryChange.{DirectoryChange}
use Rattle.directory_changes.proofs.Renewed.{same-parts}
use Rattle.change_plans.specs.Plans.{IsMergeRemove}
use Rattle.file_books.specs.Books.{AreScalesOf}
use Rattle.file_books.specs.Effects.{AreOfOneKind}
use Rattle.file_books.specs.declared.record_change.RecordChange.TheVariants.{Fewer}
use Rattle.update_plans.specs.declared.plan.Plan.{Plan}
use Rattle.update_plans.specs.Plans.{IsPlanOf, IsSoundPlan}

-- the region of the box that vanishes is that of the higher number
pub vanishing-is : {K : ℕ} (L : Layout K) (e f : ℕ × BucketBox K) → box L e.0 ≡ Some e.1 → box L f.0 ≡ Some f.1 → cond (nat_lt f.0 e.0) e.1.region f.1.region ≡ (unwrap_or (box L (max e.0 f.0)) e.1).region
vanishing-is L e f here there = by (nat_lt f.0 e.0) refl
  where
    by : (b : Bool) → nat_lt f.0 e.0 ≡ b → cond b e.1.region f.1.region ≡ (unwrap_or (box L (max e.0 f.0)) e.1).region
    by true p =
        let less = ltb-true f.0 e.0 p in
        let most : max e.0 f.0 ≡ e.0 = omega (arith, less) in
        sym (ap (λ n. (unwrap_or (box L n) e.1).region) most ∙ ap (λ o. (unwrap_or o e.1).region) here)
    by false p =
        let less = ltb-false f.0 e.0 p in
        let most : max e.0 f.0 ≡ f.0 = omega (arith, less) in
        sym (ap (λ n. (unwrap_or (box L n) e.1).region) most ∙ ap (λ o. (unwrap_or o e.1).region) there)

-- the plan of a key's removal from a bucket that is joined with another one
abbrev pub merge : {K : ℕ} → ℕ → ℕ → DirectoryChange K → List ℕ → ℕ → Plan K
merge b m directory d n = record { bucket = b; note = note.Merge m; directory = directory; records = Fewer; old = Some d; need = n; pages = n }

module _ {K : ℕ} (shape : Shape) (L : Layout K) (t : Table) (k : Key K) (e f : ℕ × BucketBox K) (b : ℕ) (directory : DirectoryChange K) (d page : List ℕ) (n low : ℕ) (scales : List (List ℕ)) where
  merge-at : IsChange shape L t (Remove k) (note.Merge f.0) e → b ≡ e.0 → scales ≡ L.scales → directory ≡ directory_change L e (note.Merge f.0) → n ≡ 1 + length (parts_changed (dims scales) directory) → Some d ≡ get t k.numbers → IsMergeRemove L t k e f.0 low page
      → IsPlanOf shape L t (Remove k) e page [] (merge b f.0 directory d n)
  unfolding need renewed
  merge-at h number same is count old r =
      let parts : length (parts_changed (dims scales) directory) ≡ length (renewed L e (note.Merge f.0)).parts = (λ i. length (parts_changed (dims (same i)) (is i))) ∙ ap length (same-parts shape L t (Remove k) (note.Merge f.0) e h) in
      let there : page ≡ unwrap_or (page_after L t (Remove k) (note.Merge f.0) e (Bucket (min e.0 f.0))) [] = sym (ap (λ o. unwrap_or o []) (ap (λ x. page_after L t (Remove k) (note.Merge f.0) e (Bucket x)) (sym r.number) ∙ r.page)) in
      record {
        change = h;
        bucket = number;
        directory = is;
        need = omega (arith, count, parts);
        pages = omega (arith, count, parts);
        old = old;
        buffers = λ i. (Bucket (min (number i) f.0), there i) ∷ [];
      }

  -- the plan is that of the removal, where the change is one
  pub merge-plan : (m : ℕ) → m ≡ f.0 → IsChange shape L t (Remove k) (note.Merge f.0) e → b ≡ e.0 → scales ≡ L.scales → directory ≡ directory_change L e (note.Merge f.0) → n ≡ 1 + length (parts_changed (dims scales) directory) → Some d ≡ get t k.numbers
      → IsMergeRemove L t k e f.0 low page → IsPlanOf shape L t (Remove k) e page [] (merge b m directory d n)
  merge-plan m other h number same is count old r = subst (λ x. IsPlanOf shape L t (Remove k) e page [] (merge b x directory d n)) (sym other) (merge-at h number same is count old r)

-- what a merge does to the directory is to give cells another bucket
pub merge-kind : {K : ℕ} (scales : List (List ℕ)) (vanishing : Region K) (survivor m : ℕ) (directory : DirectoryChange K)
    → ((L : Layout K) (e : ℕ × BucketBox K) (m : ℕ) → L.scales ≡ scales → vanishing ≡ (unwrap_or (box L (max e.0 m)) e.1).region → survivor ≡ min e.0 m → directory ≡ directory_change L e (note.Merge m)) → AreOfOneKind (note.Merge m) directory
unfolding directory_change
merge-kind {K} scales vanishing survivor m directory is =
    let L : Layout K = record { scales = scales; boxes = [] } in
    let e : ℕ × BucketBox K = (survivor, record { region = vanishing; turn = 0 }) in
    subst (AreOfOneKind (note.Merge m)) (sym (is L e survivor refl refl (omega arith))) tt

-- and it is sound
pub merge-sound : {K : ℕ} (shape : Shape) (scales : List (List ℕ)) (k : Key K) (b m : ℕ) (directory : DirectoryChange K) (d : List ℕ) (n : ℕ) → AreScalesOf K shape scales → IsChangeOf (dims scales) directory → AreOfOneKind (note.Merge m) directory
    → n ≡ 1 + length (parts_changed (dims scales) directory) → IsSoundPlan shape scales (Remove k) (merge b m directory d n)
merge-sound shape scales k b m directory d n s change kind count = record {
  kind = kind;
  directory = change;
  fresh = tt;
  scales = s;
  pages = omega (arith, count, length-map (parts_changed (dims scales) directory) Part);
  need = omega arith;
  records = refl;
}
