-- Each owner that a change renews has a page after it.
use Rattle.std.proofs.Common.{◌≡◌, ◌==◌, ◌⊎◌, inl, inr, ℕ, Bool, true, false, cond, min, max, List, Some, IsSome, IsTrue, is_some, refl, sym, ap, ◌∙◌, true≢false, nat_lt}
use Rattle.std.specs.List.{list_any}
use Rattle.std.specs.Option.{unwrap_or}
use Rattle.grid_types.specs.declared.layout_change.Cut.{Cut}
use Rattle.grid_types.specs.declared.layout_change.LayoutChange.{LayoutChange}
use Rattle.grid_types.specs.declared.layout_change.LayoutChange.TheVariants as note
use Rattle.grid_types.specs.declared.owner.Owner.{Owner}
use Rattle.grid_types.specs.declared.owner.Owner.TheVariants.{Bucket, Part}
use Rattle.grid_types.specs.declared.region.Region.{Region}
use Rattle.grid_types.specs.declared.shape.Shape.{Shape}
use Rattle.grid_types.specs.declared.update.Update.{Update}
use Rattle.grid_model.specs.Lists.{below, is_among}
use Rattle.grid_model.specs.Cells.{parts, part_of, cells_of, parts_holding}
use Rattle.grid_model.specs.Tables.{Table, effect}
use Rattle.grid_model.specs.Layouts.{BucketBox, Layout, box}
use Rattle.grid_model.specs.Notes.{after_note_at, split, joined, right_of, scales_after}
use Rattle.grid_model.specs.Lone.{renewed}
use Rattle.grid_model.proofs.Counts.{among-filter}
use Rattle.grid_model.proofs.CutBoxes.{box-left, box-right}
use Rattle.grid_model.proofs.Joined.{is-merge}
use Rattle.history_pages.specs.OwnerPages.{has_owner}
use Rattle.history_pages.specs.PageLaws.{IsChange, page_after}
use Rattle.history_pages.proofs.Changes.{box-there}
use Rattle.history_pages.proofs.Cutting.{CutsBox, lawful-cut, scales-of-split, scales-stay}
use Rattle.history_pages.proofs.Joining.{JoinsBox, lawful-join, after-join}
use Rattle.history_pages.proofs.Named.{bucket-named, part-named}
use Rattle.history_pages.proofs.Numbers.{one-of-one, one-of-two, below-where}

-- a part that holds a cell of a region is one of the directory's
part-below : {K : ℕ} (scales : List (List ℕ)) (r : Region K) (p : ℕ) → is_among (parts_holding scales r) p ≡ true → nat_lt p (parts scales) ≡ true
part-below scales r p h = below-where (parts scales) p ∙ (among-filter (λ q. list_any (λ c. part_of scales c == q) (cells_of scales r)) (below (parts scales)) p h).0

module _ {K : ℕ} (L : Layout K) (n : ℕ) (b : BucketBox K) (c : Cut) (right : ℕ) where
  -- both parts of a cut have boxes
  split-has : box L n ≡ Some b → CutsBox L b c right → (i : ℕ) → (n ≡ i) ⊎ (right ≡ i) → is_some (box (split L n b c right) i) ≡ true
  split-has there is i (inl e) = ap (λ j. is_some (box (split L n b c right) j)) (sym e) ∙ ap is_some (box-left L n b c right there is.free)
  split-has there is i (inr e) = ap (λ j. is_some (box (split L n b c right) j)) (sym e) ∙ ap is_some (box-right L n b c right there is.free)

  -- the parts that a cut renews are the directory's
  split-parts : (p : ℕ) → is_among (cond c.fresh (below (parts (scales_after L.scales c))) (parts_holding L.scales (right_of b c).region)) p ≡ true → nat_lt p (parts (scales_after L.scales c)) ≡ true
  split-parts p h = by c.fresh refl h
    where
      by : (f : Bool) → c.fresh ≡ f → is_among (cond f (below (parts (scales_after L.scales c))) (parts_holding L.scales (right_of b c).region)) p ≡ true → nat_lt p (parts (scales_after L.scales c)) ≡ true
      by true e g = below-where (parts (scales_after L.scales c)) p ∙ g
      by false e g = ap (λ s. nat_lt p (parts s)) (scales-stay L.scales c e) ∙ part-below L.scales (right_of b c).region p g

module _ {K : ℕ} (shape : Shape) (L : Layout K) (t : Table) (u : Update K) where
  -- an owner that a merge renews has a page
  merge-new : (m : ℕ) (e : ℕ × BucketBox K) (o : Owner) (is : JoinsBox shape L (effect t u) e.0 e.1 m) → IsTrue (has_owner (renewed L e (note.Merge m)) o) → IsSome (page_after L t u (note.Merge m) e o)
  unfolding renewed
  merge-new m e (Bucket i) is new =
      bucket-named (after_note_at L e (note.Merge m)) (effect t u) i
      ∙ ap (λ (M : Layout K). is_some (box M i)) (after-join shape L (effect t u) e m is)
      ∙ ap (λ j. is_some (box (joined L e.0 e.1 m is.other) j)) (sym (one-of-one (min e.0 m) i new))
      ∙ ap is_some (is-merge L e.0 e.1 m is.other is.differ).survivor
  merge-new m e (Part p) is new =
      part-named (after_note_at L e (note.Merge m)) (effect t u) p
      ∙ ap (λ (M : Layout K). nat_lt p (parts M.scales)) (after-join shape L (effect t u) e m is)
      ∙ ap (λ s. nat_lt p (parts s)) (is-merge L e.0 e.1 m is.other is.differ).scales
      ∙ part-below L.scales (unwrap_or (box L (max e.0 m)) e.1).region p new

  -- each owner that a change renews has a page after it
  pub new-page : (n : LayoutChange) (e : ℕ × BucketBox K) (o : Owner) → IsChange shape L t u n e → IsTrue (has_owner (renewed L e n) o) → IsSome (page_after L t u n e o)
  unfolding renewed
  new-page note.Plain e (Bucket i) h new =
      bucket-named L (effect t u) i ∙ ap (λ j. is_some (box L j)) (sym (one-of-one e.0 i new)) ∙ ap is_some (box-there shape L t u note.Plain e h).0
  new-page note.Plain e (Part p) h new = absurd (true≢false (sym new))
  new-page (note.Cut c right) e (Bucket i) h new =
      bucket-named (split L e.0 e.1 c right) (effect t u) i
      ∙ split-has L e.0 e.1 c right (box-there shape L t u (note.Cut c right) e h).0 (lawful-cut shape L t u e c right h.stands h.lawful h.holds) i (one-of-two e.0 right i new)
  new-page (note.Cut c right) e (Part p) h new =
      part-named (split L e.0 e.1 c right) (effect t u) p ∙ ap (λ s. nat_lt p (parts s)) (scales-of-split L e.0 e.1 c right) ∙ split-parts L e.0 e.1 c right p new
  new-page (note.Merge m) e o h new = merge-new m e o (lawful-join shape L t u e m h.stands h.lawful h.holds) new
