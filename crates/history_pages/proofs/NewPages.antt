-- A change that is held makes the same new pages over the later layout and table.
use Rattle.std.proofs.Common.{◌≡◌, ◌≢◌, ◌⊎◌, inl, inr, ℕ, true, min, Some, IsTrue, sym, refl, ap, subst, ◌∙◌, true≢false, nat_lt, nat_le, slice_index}
use Rattle.std.proofs.lemmas.Bool.{or_cases}
use Rattle.grid_types.specs.declared.layout_change.Cut.{Cut}
use Rattle.grid_types.specs.declared.layout_change.LayoutChange.{LayoutChange}
use Rattle.grid_types.specs.declared.layout_change.LayoutChange.TheVariants as note
use Rattle.grid_types.specs.declared.owner.Owner.{Owner}
use Rattle.grid_types.specs.declared.owner.Owner.TheVariants.{Bucket, Part}
use Rattle.grid_types.specs.declared.shape.Shape.{Shape}
use Rattle.grid_types.specs.declared.update.Update.{Update}
use Rattle.grid_types.specs.Regions.{contains, IsRegion}
use Rattle.grid_types.proofs.Numbers.{first}
use Rattle.grid_model.specs.Tables.{Table, IsTable, get, effect}
use Rattle.grid_model.specs.Layouts.{BucketBox, Layout, box, IsSound}
use Rattle.grid_model.specs.Notes.{after_note_at, split, joined, together}
use Rattle.grid_model.specs.Lone.{renewed}
use Rattle.grid_model.proofs.Boxes.{one-box, some-not-none}
use Rattle.grid_model.proofs.CutBoxes.{each-part}
use Rattle.grid_model.proofs.CutRegions.{left-contains, right-contains}
use Rattle.grid_model.proofs.Hulls.{hull-contains}
use Rattle.grid_model.proofs.Joined.{is-merge}
use Rattle.grid_model.proofs.TableLaws.{effect-table}
use Rattle.history_pages.specs.OwnerPages.{has_owner, owner_page}
use Rattle.history_pages.specs.PageLaws.{IsChange, page_after}
use Rattle.history_pages.specs.HoldingLaws.{IsHeld}
use Rattle.history_pages.proofs.Agreeing.{Agree, agree-after, same-bucket}
use Rattle.history_pages.proofs.Buckets.{bucket-page}
use Rattle.history_pages.proofs.Carried.{same-box, same-other}
use Rattle.history_pages.proofs.Changes.{box-there}
use Rattle.history_pages.proofs.Cutting.{CutsBox, lawful-cut}
use Rattle.history_pages.proofs.Joining.{JoinsBox, lawful-join, after-join}
use Rattle.history_pages.proofs.Numbers.{one-of-one, one-of-two}
use Rattle.history_pages.proofs.Parts.{part-of-layout}

-- tables that agree on a box agree on the parts that a cut makes of it
agree-cut : {K : ℕ} (L : Layout K) (s t : Table) (n : ℕ) (b : BucketBox K) (c : Cut) (right : ℕ) → IsRegion K b.region → box L n ≡ Some b → CutsBox L b c right → Agree b.region s t
    → (i : ℕ) (d : BucketBox K) → box (split L n b c right) i ≡ Some d → (n ≡ i) ⊎ (right ≡ i) → Agree d.region s t
agree-cut {K} L s t n b c right region there is a = each-part L n b c right there is.free (λ i d. (n ≡ i) ⊎ (right ≡ i) → Agree d.region s t)
    (λ _ q has. a q (first (contains b.region q) (nat_lt (slice_index q c.attribute) c.value) (sym (left-contains b c q region is.attribute is.within) ∙ has)))
    (λ _ q has. a q (first (contains b.region q) (nat_le c.value (slice_index q c.attribute)) (sym (right-contains b c q region is.attribute is.within) ∙ has)))
    other
  where
    other : (i : ℕ) (d : BucketBox K) → box L i ≡ Some d → i ≢ n → (n ≡ i) ⊎ (right ≡ i) → Agree d.region s t
    other i d at differ (inl p) = absurd (differ (sym p))
    other i d at differ (inr p) = absurd (some-not-none d (sym at ∙ ap (box L) (sym p) ∙ is.free))

-- tables that agree on two boxes agree on the one that they make
agree-join : {K : ℕ} (shape : Shape) (L : Layout K) (r s t : Table) (n : ℕ) (b : BucketBox K) (m : ℕ) → IsSound shape L t → box L n ≡ Some b → (is : JoinsBox shape L r n b m) → Agree b.region s t → Agree is.other.region s t
    → (i : ℕ) (d : BucketBox K) → box (joined L n b m is.other) i ≡ Some d → min n m ≡ i → Agree d.region s t
agree-join {K} shape L r s t n b m sound there is a o i d at number = subst (λ (x : BucketBox K). Agree x.region s t) (sym made) both
  where
    made : d ≡ together b is.other
    made = one-box (joined L n b m is.other) i (min n m) d (together b is.other) at (is-merge L n b m is.other is.differ).survivor (sym number)

    both : Agree (together b is.other).region s t
    both q has = by (or_cases (contains b.region q) (contains is.other.region q) (sym (hull-contains b.region is.other.region q (sound.regions n b there) (sound.regions m is.other is.beside) is.make) ∙ has))
      where
        by : (contains b.region q ≡ true) ⊎ (contains is.other.region q ≡ true) → get s q ≡ get t q
        by (inl h) = a q h
        by (inr h) = o q h

-- tables that agree on the box of a number have the same page of it after the same update
page-alike : {K : ℕ} (M L : Layout K) (s t : Table) (u : Update K) (i : ℕ) → box M i ≡ box L i → IsTable s → IsTable t → ((d : BucketBox K) → box L i ≡ Some d → Agree d.region s t)
    → owner_page M (effect s u) (Bucket i) ≡ owner_page L (effect t u) (Bucket i)
page-alike M L s t u i same g h agree =
    bucket-page M L (effect s u) (effect t u) i (same-bucket M L (effect s u) (effect t u) i same (effect-table s u g) (effect-table t u h) (λ d at. agree-after d.region s t u (agree d at)))

module _ {K : ℕ} (shape : Shape) (L M : Layout K) (t s : Table) (u : Update K) where
  -- the new page of a plain change
  plain-pages : (e : ℕ × BucketBox K) (o : Owner) → IsChange shape L t u note.Plain e → IsHeld shape L t note.Plain e M s → has_owner (renewed L e note.Plain) o ≡ true → owner_page M (effect s u) o ≡ owner_page L (effect t u) o
  unfolding renewed
  plain-pages e (Bucket i) h held new =
      let same = same-box shape L M t s u e note.Plain h held in
      let there = (box-there shape L t u note.Plain e h).0 in
      let number : e.0 ≡ i = one-of-one e.0 i new in
      page-alike M L s t u i (ap (box M) (sym number) ∙ same.there ∙ sym there ∙ ap (box L) number) held.stands.table h.stands.table
      (λ d at. subst (λ (x : BucketBox K). Agree x.region s t) (one-box L e.0 i e.1 d there at number) same.agree)
  plain-pages e (Part p) h held new = absurd (true≢false (sym new))

  -- those of a cut
  cut-pages : (c : Cut) (right : ℕ) (e : ℕ × BucketBox K) (o : Owner) → IsChange shape L t u (note.Cut c right) e → IsHeld shape L t (note.Cut c right) e M s → has_owner (renewed L e (note.Cut c right)) o ≡ true
      → owner_page (split L e.0 e.1 c right) (effect s u) o ≡ owner_page (split L e.0 e.1 c right) (effect t u) o
  unfolding renewed
  cut-pages c right e (Bucket i) h held new =
      let same = same-box shape L M t s u e (note.Cut c right) h held in
      let there = (box-there shape L t u (note.Cut c right) e h).0 in
      let is : CutsBox L e.1 c right = lawful-cut shape L t u e c right h.stands h.lawful h.holds in
      page-alike (split L e.0 e.1 c right) (split L e.0 e.1 c right) s t u i refl held.stands.table h.stands.table
      (λ d at. agree-cut L s t e.0 e.1 c right (h.stands.sound.regions e.0 e.1 there) there is same.agree i d at (one-of-two e.0 right i new))
  cut-pages c right e (Part p) h held new = part-of-layout (split L e.0 e.1 c right) (effect s u) (effect t u) p

  -- and those of a merge
  merge-pages : (m : ℕ) (e : ℕ × BucketBox K) (is : JoinsBox shape L (effect t u) e.0 e.1 m) (o : Owner) → IsChange shape L t u (note.Merge m) e → IsHeld shape L t (note.Merge m) e M s → has_owner (renewed L e (note.Merge m)) o ≡ true
      → owner_page (joined L e.0 e.1 m is.other) (effect s u) o ≡ owner_page (joined L e.0 e.1 m is.other) (effect t u) o
  unfolding renewed
  merge-pages m e is (Bucket i) h held new =
      let same = same-box shape L M t s u e (note.Merge m) h held in
      let other = same-other shape L M t s u e m is.other is.beside held in
      let there = (box-there shape L t u (note.Merge m) e h).0 in
      page-alike (joined L e.0 e.1 m is.other) (joined L e.0 e.1 m is.other) s t u i refl held.stands.table h.stands.table
      (λ d at. agree-join shape L (effect t u) s t e.0 e.1 m h.stands.sound there is same.agree other.agree i d at (one-of-one (min e.0 m) i new))
  merge-pages m e is (Part p) h held new = part-of-layout (joined L e.0 e.1 m is.other) (effect s u) (effect t u) p

  -- by notes
  pages-by : (n : LayoutChange) (e : ℕ × BucketBox K) (o : Owner) → IsChange shape L t u n e → IsHeld shape L t n e M s → (n ≡ note.Plain) ⊎ (M ≡ L) → has_owner (renewed L e n) o ≡ true → page_after M s u n e o ≡ page_after L t u n e o
  pages-by note.Plain e o h held _ new = plain-pages e o h held new
  pages-by (note.Cut c right) e o h held (inl q) new = absurd (cc)
  pages-by (note.Cut c right) e o h held (inr q) new = ap (λ (N : Layout K). owner_page (split N e.0 e.1 c right) (effect s u) o) q ∙ cut-pages c right e o h held new
  pages-by (note.Merge m) e o h held (inl q) new = absurd (cc)
  pages-by (note.Merge m) e o h held (inr q) new =
      let is = lawful-join shape L t u e m h.stands h.lawful h.holds in
      let joins : after_note_at L e (note.Merge m) ≡ joined L e.0 e.1 m is.other = after-join shape L (effect t u) e m is in
      ap (λ (N : Layout K). page_after N s u (note.Merge m) e o) q
      ∙ ap (λ (N : Layout K). owner_page N (effect s u) o) joins
      ∙ merge-pages m e is o h held new
      ∙ sym (ap (λ (N : Layout K). owner_page N (effect t u) o) joins)

  -- a change that is held makes the same new pages
  pub pages-carry : (n : LayoutChange) (e : ℕ × BucketBox K) (o : Owner) → IsChange shape L t u n e → IsHeld shape L t n e M s → IsTrue (has_owner (renewed L e n) o) → page_after M s u n e o ≡ page_after L t u n e o
  pages-carry n e o h held new = pages-by n e o h held held.layout new
