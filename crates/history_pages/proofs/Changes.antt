-- A change leaves each bucket and the page of each part that it does not drop, and what it drops and does not renew has no page.
use Rattle.std.proofs.Common.{◌≡◌, ◌≢◌, ◌==◌, ◌||◌, ℕ, Bool, true, false, min, max, [], ◌∷◌, Some, None, IsTrue, refl, sym, ap, ◌∙◌, arith, true≢false, option_map, eqb-true}
use Rattle.grid_types.specs.declared.layout_change.Cut.{Cut}
use Rattle.grid_types.specs.declared.layout_change.LayoutChange.{LayoutChange}
use Rattle.grid_types.specs.declared.layout_change.LayoutChange.TheVariants as note
use Rattle.grid_types.specs.declared.owner.Owner.{Owner}
use Rattle.grid_types.specs.declared.owner.Owner.TheVariants.{Bucket, Part}
use Rattle.grid_types.specs.declared.shape.Shape.{Shape}
use Rattle.grid_types.specs.declared.update.Update.{Update}
use Rattle.grid_types.specs.Regions.{contains}
use Rattle.grid_model.specs.Lists.{is_among}
use Rattle.grid_model.specs.Tables.{Table, effect}
use Rattle.grid_model.specs.Layouts.{BucketBox, Layout, box}
use Rattle.grid_model.specs.Notes.{updated_key, after_note_at, split, joined}
use Rattle.grid_model.specs.Lone.{renewed, dropped}
use Rattle.grid_model.specs.Spellings.{bucket_spelling}
use Rattle.grid_model.proofs.CutBoxes.{box-other}
use Rattle.grid_model.proofs.Holders.{holder-box}
use Rattle.grid_model.proofs.Joined.{is-merge}
use Rattle.history_pages.specs.OwnerPages.{has_owner, as_bucket, numbered_bucket, owner_page}
use Rattle.history_pages.specs.PageLaws.{IsChange, page_after}
use Rattle.history_pages.proofs.Buckets.{bucket-stays, bucket-page}
use Rattle.history_pages.proofs.Cutting.{CutsBox, lawful-cut, cut-part}
use Rattle.history_pages.proofs.Joining.{JoinsBox, lawful-join, after-join, joined-part}
use Rattle.history_pages.proofs.Names.{Has}
use Rattle.history_pages.proofs.Numbers.{not-first, not-second}
use Rattle.history_pages.proofs.Parts.{part-of-layout}

-- what a change renews is among what it drops
pub renewed-dropped : {K : ℕ} (L : Layout K) (n : LayoutChange) (e : ℕ × BucketBox K) (o : Owner) → has_owner (renewed L e n) o ≡ true → has_owner (dropped L e n) o ≡ true
unfolding renewed dropped
renewed-dropped L note.Plain e o h = h
renewed-dropped L (note.Cut c right) e o h = h
renewed-dropped L (note.Merge m) e (Bucket i) h = by (min e.0 m == i) (max e.0 m == i) h
  where
    by : (s r : Bool) → (s || false) ≡ true → (s || (r || false)) ≡ true
    by true r g = refl
    by false r g = absurd (true≢false (sym g))
renewed-dropped L (note.Merge m) e (Part p) h = h

module _ {K : ℕ} (shape : Shape) (L : Layout K) (t : Table) (u : Update K) where
  module _ (n : LayoutChange) (e : ℕ × BucketBox K) (h : IsChange shape L t u n e) where
    -- the box of a change is there, and has the key
    pub box-there : (box L e.0 ≡ Some e.1) × (contains e.1.region (updated_key u) ≡ true)
    box-there = holder-box (updated_key u) L e h.stands.sound.numbered h.holds

    -- the box of its number has the key
    has : Has L (updated_key u) e.0
    has = record { here = e.1; there = box-there.0; has = box-there.1 }

  -- a bucket that a cut does not drop stays
  bucket-of-cut : (e : ℕ × BucketBox K) (c : Cut) (right m : ℕ) → IsChange shape L t u (note.Cut c right) e → is_among (e.0 ∷ right ∷ []) m ≡ false → numbered_bucket (split L e.0 e.1 c right) (effect t u) m ≡ numbered_bucket L t m
  bucket-of-cut e c right m h out =
      let is : CutsBox L e.1 c right = lawful-cut shape L t u e c right h.stands h.lawful h.holds in
      let first : m ≢ e.0 = not-first e.0 m ((right == m) || false) out in
      bucket-stays (split L e.0 e.1 c right) L t u e.0 m h.stands.table h.stands.sound.apart (has (note.Cut c right) e h) first
      (box-other L e.0 e.1 c right (box-there (note.Cut c right) e h).0 is.free m (not-second e.0 right m false out) first)

  -- and so does one that a merge does not drop
  bucket-of-merge : (e : ℕ × BucketBox K) (m : ℕ) (is : JoinsBox shape L (effect t u) e.0 e.1 m) (i : ℕ) → IsChange shape L t u (note.Merge m) e → is_among (min e.0 m ∷ max e.0 m ∷ []) i ≡ false
      → numbered_bucket (joined L e.0 e.1 m is.other) (effect t u) i ≡ numbered_bucket L t i
  bucket-of-merge e m is i h out =
      let low : i ≢ min e.0 m = not-first (min e.0 m) i ((max e.0 m == i) || false) out in
      let high : i ≢ max e.0 m = not-second (min e.0 m) (max e.0 m) i false out in
      bucket-stays (joined L e.0 e.1 m is.other) L t u e.0 i h.stands.table h.stands.sound.apart (has (note.Merge m) e h) (λ q. omega arith)
      ((is-merge L e.0 e.1 m is.other is.differ).others i (λ q. omega arith) (λ q. omega arith))

  -- a change leaves each bucket that it does not drop
  pub others-bucket : (n : LayoutChange) (e : ℕ × BucketBox K) (m : ℕ) → IsChange shape L t u n e → is_among (dropped L e n).buckets m ≡ false → numbered_bucket (after_note_at L e n) (effect t u) m ≡ numbered_bucket L t m
  unfolding renewed dropped
  others-bucket note.Plain e m h out = bucket-stays L L t u e.0 m h.stands.table h.stands.sound.apart (has note.Plain e h) (not-first e.0 m false out) refl
  others-bucket (note.Cut c right) e m h out = bucket-of-cut e c right m h out
  others-bucket (note.Merge m) e i h out =
      let is = lawful-join shape L t u e m h.stands h.lawful h.holds in
      ap (λ (M : Layout K). numbered_bucket M (effect t u) i) (after-join shape L (effect t u) e m is) ∙ bucket-of-merge e m is i h out

  -- a part that is not dropped keeps its page
  others-part : (n : LayoutChange) (e : ℕ × BucketBox K) (p : ℕ) → IsChange shape L t u n e → is_among (dropped L e n).parts p ≡ false → page_after L t u n e (Part p) ≡ owner_page L t (Part p)
  unfolding renewed dropped
  others-part note.Plain e p h out = part-of-layout L (effect t u) t p
  others-part (note.Cut c right) e p h out =
      cut-part shape L t e.0 e.1 c right h.stands.sound (box-there (note.Cut c right) e h).0 (lawful-cut shape L t u e c right h.stands h.lawful h.holds) (effect t u) p out
  others-part (note.Merge m) e p h out =
      let is = lawful-join shape L t u e m h.stands h.lawful h.holds in
      ap (λ (M : Layout K). owner_page M (effect t u) (Part p)) (after-join shape L (effect t u) e m is)
      ∙ joined-part shape L t (effect t u) e.0 e.1 m h.stands.sound (box-there (note.Merge m) e h).0 is p out

  -- a bucket that a merge drops and does not renew is the one that vanishes
  gone-merge : (e : ℕ × BucketBox K) (m : ℕ) (is : JoinsBox shape L (effect t u) e.0 e.1 m) (o : Owner) → has_owner (renewed L e (note.Merge m)) o ≡ false → IsTrue (has_owner (dropped L e (note.Merge m)) o)
      → owner_page (joined L e.0 e.1 m is.other) (effect t u) o ≡ None
  unfolding renewed dropped owner_page numbered_bucket
  gone-merge e m is (Bucket i) new old = by (min e.0 m == i) (max e.0 m == i) refl new old
    where
      by : (s r : Bool) → (max e.0 m == i) ≡ r → (s || false) ≡ false → (s || (r || false)) ≡ true → option_map bucket_spelling (option_map (as_bucket (effect t u) i) (box (joined L e.0 e.1 m is.other) i)) ≡ None
      by true r q f g = absurd (true≢false f)
      by false true q f g = ap (λ x. option_map bucket_spelling (option_map (as_bucket (effect t u) i) x)) (ap (box (joined L e.0 e.1 m is.other)) (sym (eqb-true (max e.0 m) i q)) ∙ (is-merge L e.0 e.1 m is.other is.differ).gone)
      by false false q f g = absurd (true≢false (sym g))
  gone-merge e m is (Part p) new old = absurd (true≢false (sym old ∙ new))

  -- an owner that is dropped and not renewed has no page
  pub gone : (n : LayoutChange) (e : ℕ × BucketBox K) (o : Owner) → IsChange shape L t u n e → has_owner (renewed L e n) o ≡ false → IsTrue (has_owner (dropped L e n) o) → page_after L t u n e o ≡ None
  unfolding dropped
  gone note.Plain e o h new old = absurd (true≢false (sym old ∙ new))
  gone (note.Cut c right) e o h new old = absurd (true≢false (sym old ∙ new))
  gone (note.Merge m) e o h new old =
      let is = lawful-join shape L t u e m h.stands h.lawful h.holds in
      ap (λ (M : Layout K). owner_page M (effect t u) o) (after-join shape L (effect t u) e m is) ∙ gone-merge e m is o new old

  -- a change leaves the page of each owner that it does not drop
  pub others : (n : LayoutChange) (e : ℕ × BucketBox K) (o : Owner) → IsChange shape L t u n e → has_owner (dropped L e n) o ≡ false → page_after L t u n e o ≡ owner_page L t o
  others n e (Bucket m) h out = bucket-page (after_note_at L e n) L (effect t u) t m (others-bucket n e m h out)
  others n e (Part p) h out = others-part n e p h out
