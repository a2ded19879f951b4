-- The parts that the directory's change renews are those that the layout's change does.
use Rattle.std.proofs.Common.{◌≡◌, ◌+◌, ℕ, Bool, true, false, cond, List, length, refl, sym, ap, ◌∙◌, arith}
use Rattle.grid_types.specs.declared.layout_change.Cut.{Cut}
use Rattle.grid_types.specs.declared.layout_change.LayoutChange.{LayoutChange}
use Rattle.grid_types.specs.declared.layout_change.LayoutChange.TheVariants as note
use Rattle.grid_types.specs.declared.shape.Shape.{Shape}
use Rattle.grid_types.specs.declared.update.Update.{Update}
use Rattle.grid_types.specs.Shapes.{word_pages}
use Rattle.grid_model.specs.Lists.{below, product}
use Rattle.grid_model.specs.Scales.{scale_of, interval, refined_at}
use Rattle.grid_model.specs.Cells.{dims, parts, parts_holding}
use Rattle.grid_model.specs.Tables.{Table}
use Rattle.grid_model.specs.Layouts.{BucketBox, Layout}
use Rattle.grid_model.specs.Notes.{right_of, scales_after}
use Rattle.grid_model.specs.Lone.{renewed, need, spare}
use Rattle.history_pages.specs.PageLaws.{IsChange}
use Rattle.history_pages.proofs.Cutting.{CutsBox, lawful-cut}
use Rattle.directory_changes.specs.Changes.{cell_box, directory_change, parts_changed, grown}
use Rattle.directory_changes.specs.declared.change.DirectoryChange.{DirectoryChange}
use Rattle.directory_changes.specs.declared.change.DirectoryChange.TheVariants.{Patch, Grow}
use Rattle.directory_changes.proofs.Growing.{dims-refined}
use Rattle.directory_changes.proofs.Lawful.{lawful-scale}

module _ {K : ℕ} (shape : Shape) (L : Layout K) (t : Table) (u : Update K) where
  -- the intervals after a lawful cut at a fresh boundary are one more in its attribute
  pub dims-of-cut : (e : ℕ × BucketBox K) (c : Cut) (right : ℕ) → IsChange shape L t u (note.Cut c right) e → c.fresh ≡ true → dims (scales_after L.scales c) ≡ grown (dims L.scales) c.attribute
  dims-of-cut e c right h fresh =
      let is : CutsBox L e.1 c right = lawful-cut shape L t u e c right h.stands h.lawful h.holds in
      let scale = lawful-scale shape L t u c right h.stands h.lawful in
      ap (λ f. dims (cond f (refined_at L.scales c.attribute c.value) L.scales)) fresh
      ∙ dims-refined L.scales c.attribute c.value (omega (arith, is.attribute, h.stands.sound.attributes)) (h.stands.sound.scales c.attribute is.attribute) (scale.new fresh)

  cut-parts : (e : ℕ × BucketBox K) (c : Cut) (right : ℕ) → IsChange shape L t u (note.Cut c right) e → parts_changed (dims L.scales) (directory_change L e (note.Cut c right)) ≡ (renewed L e (note.Cut c right)).parts
  unfolding parts_changed directory_change renewed
  cut-parts e c right h = by c.fresh refl
    where
      by : (f : Bool) → c.fresh ≡ f → parts_changed {K = K} (dims L.scales) (cond f (Grow c.attribute (interval (scale_of L.scales c.attribute) c.value) (cell_box (scales_after L.scales c) (right_of e.1 c).region) right) (Patch (cell_box L.scales (right_of e.1 c).region) right))
          ≡ cond f (below (parts (scales_after L.scales c))) (parts_holding L.scales (right_of e.1 c).region)
      by true fresh = ap (λ ns. below (word_pages (product ns))) (sym (dims-of-cut e c right h fresh))
      by false old = refl

  -- by notes
  pub same-parts : (n : LayoutChange) (e : ℕ × BucketBox K) → IsChange shape L t u n e → parts_changed (dims L.scales) (directory_change L e n) ≡ (renewed L e n).parts
  unfolding parts_changed directory_change renewed
  same-parts note.Plain e h = refl
  same-parts (note.Cut c right) e h = cut-parts e c right h
  same-parts (note.Merge m) e h = refl

  -- so the pages that are needed are as many as the new buckets and these parts, and what is to spare
  pub need-told : (n : LayoutChange) (e : ℕ × BucketBox K) (ns : List ℕ) (change : DirectoryChange K) (buckets count s : ℕ) → IsChange shape L t u n e → ns ≡ dims L.scales → change ≡ directory_change L e n → buckets ≡ length (renewed L e n).buckets
      → count ≡ length (parts_changed ns change) → s ≡ spare u → buckets + count + s ≡ need L e u n
  unfolding need
  need-told n e ns change buckets count s h dims-are is few counted to-spare =
      let parts : count ≡ length (renewed L e n).parts = counted ∙ (λ i. length (parts_changed (dims-are i) (is i))) ∙ ap length (same-parts n e h) in
      omega (arith, few, parts, to-spare)
