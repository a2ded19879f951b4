-- Where the owners that a change renews have their pages, and those who vanish have none, each owner has its page after the change.
use Rattle.std.proofs.Common.{◌≡◌, ◌≢◌, ◌==◌, ◌||◌, ℕ, Bool, true, false, cond, min, max, List, Option, None, refl, sym, ap, ◌∙◌, arith, true≢false, eq-eqb}
use Rattle.std.proofs.lemmas.Bool.{ne_eqb, or_left, or_right}
use Rattle.grid_types.specs.declared.layout_change.LayoutChange.{LayoutChange}
use Rattle.grid_types.specs.declared.layout_change.LayoutChange.TheVariants as note
use Rattle.grid_types.specs.declared.owner.Owner.{Owner}
use Rattle.grid_types.specs.declared.owner.Owner.TheVariants.{Bucket, Part}
use Rattle.grid_types.specs.declared.shape.Shape.{Shape}
use Rattle.grid_types.specs.declared.update.Update.{Update}
use Rattle.grid_types.specs.Owners.{same_owner}
use Rattle.grid_model.specs.Tables.{Table}
use Rattle.grid_model.specs.Layouts.{BucketBox, Layout}
use Rattle.grid_model.specs.Lone.{renewed, dropped}
use Rattle.grid_model.proofs.Counts.{swap-eq}
use Rattle.history_pages.specs.OwnerPages.{has_owner, owner_page}
use Rattle.history_pages.specs.PageLaws.{IsChange, page_after}
use Rattle.history_pages.proofs.Changes.{others, gone}
use Rattle.history_pages.proofs.Joining.{lawful-join}
use Rattle.page_states.specs.Changes.{without_owners}
use Rattle.page_states.proofs.Endings.{same_owner_is}
use Rattle.layout_pages.specs.HoldingLaws.{RenewsOwners}
use Rattle.layout_pages.specs.Steps.{owners_vanishing}

-- the owners that a change renews, in their order
pub renews-owners : {K : ℕ} → RenewsOwners K
unfolding renewed
renews-owners L e note.Plain = refl
renews-owners L e (note.Cut c right) = refl
renews-owners L e (note.Merge m) = refl

module _ {K : ℕ} (shape : Shape) (L : Layout K) (t : Table) (u : Update K) where
  -- the page that each owner has where those that are renewed have the new ones, and the others what they had
  abbrev pub renewed_page : LayoutChange → ℕ × BucketBox K → Owner → Option (List ℕ)
  renewed_page n e o = cond (has_owner (renewed L e n) o) (page_after L t u n e o) (owner_page L t o)

  -- where all that is dropped is renewed, these are the pages after the change
  none-vanish : (n : LayoutChange) (e : ℕ × BucketBox K) (o : Owner) → IsChange shape L t u n e → has_owner (dropped L e n) o ≡ has_owner (renewed L e n) o → renewed_page n e o ≡ page_after L t u n e o
  none-vanish n e o h same = by (has_owner (renewed L e n) o) refl
    where
      by : (b : Bool) → has_owner (renewed L e n) o ≡ b → cond b (page_after L t u n e o) (owner_page L t o) ≡ page_after L t u n e o
      by true r = refl
      by false r = sym (others shape L t u n e o h (same ∙ r))

  -- an owner that is neither renewed by a merge nor the one who vanishes is not dropped
  merge-drops : (e : ℕ × BucketBox K) (m : ℕ) (o : Owner) → has_owner (renewed L e (note.Merge m)) o ≡ false → same_owner o (Bucket (max e.0 m)) ≡ false → has_owner (dropped L e (note.Merge m)) o ≡ false
  unfolding renewed dropped
  merge-drops e m (Bucket i) new apart = by (min e.0 m == i) (max e.0 m == i) new (swap-eq (max e.0 m) i ∙ apart)
    where
      by : (s r : Bool) → (s || false) ≡ false → r ≡ false → (s || (r || false)) ≡ false
      by true r f g = absurd (true≢false f)
      by false true f g = absurd (true≢false g)
      by false false f g = refl
  merge-drops e m (Part p) new apart = new

  -- who vanishes by a merge is dropped and not renewed
  vanishing-drops : (e : ℕ × BucketBox K) (m : ℕ) → e.0 ≢ m → (has_owner (renewed L e (note.Merge m)) (Bucket (max e.0 m)) ≡ false) × (has_owner (dropped L e (note.Merge m)) (Bucket (max e.0 m)) ≡ true)
  unfolding renewed dropped
  vanishing-drops e m differ = (
    ap (λ (b : Bool). b || false) (ne_eqb (min e.0 m) (max e.0 m) (λ q. differ (omega (arith, q)))),
    or_right (min e.0 m == max e.0 m) ((max e.0 m == max e.0 m) || false) (or_left (max e.0 m == max e.0 m) false (eq-eqb (max e.0 m) (max e.0 m) refl)),
  )

  merge-vanishes : (e : ℕ × BucketBox K) (m : ℕ) (o : Owner) → IsChange shape L t u (note.Merge m) e → cond (same_owner o (Bucket (max e.0 m))) None (renewed_page (note.Merge m) e o) ≡ page_after L t u (note.Merge m) e o
  merge-vanishes e m o h = by (same_owner o (Bucket (max e.0 m))) (has_owner (renewed L e (note.Merge m)) o) refl refl
    where
      by : (v r : Bool) → same_owner o (Bucket (max e.0 m)) ≡ v → has_owner (renewed L e (note.Merge m)) o ≡ r
          → cond v None (cond r (page_after L t u (note.Merge m) e o) (owner_page L t o)) ≡ page_after L t u (note.Merge m) e o
      by true r s new =
          let is = lawful-join shape L t u e m h.stands h.lawful h.holds in
          let drops = vanishing-drops e m is.differ in
          sym (ap (page_after L t u (note.Merge m) e) (same_owner_is o (Bucket (max e.0 m)) s) ∙ gone shape L t u (note.Merge m) e (Bucket (max e.0 m)) h drops.0 drops.1)
      by false true s new = refl
      by false false s new = sym (others shape L t u (note.Merge m) e o h (merge-drops e m o new s))

  -- where those who vanish have none, these are the pages after the change
  pub vanish : (n : LayoutChange) (e : ℕ × BucketBox K) (content : Owner → Option (List ℕ)) → IsChange shape L t u n e → ((o : Owner) → content o ≡ renewed_page n e o) → (o : Owner) → without_owners content (owners_vanishing e.0 n) o ≡ page_after L t u n e o
  unfolding dropped
  vanish note.Plain e content h is o = is o ∙ none-vanish note.Plain e o h refl
  vanish (note.Cut c right) e content h is o = is o ∙ none-vanish (note.Cut c right) e o h refl
  vanish (note.Merge m) e content h is o = ap (λ (x : Option (List ℕ)). cond (same_owner o (Bucket (max e.0 m))) None x) (is o) ∙ merge-vanishes e m o h
