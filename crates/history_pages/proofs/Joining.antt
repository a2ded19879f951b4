-- A merge leaves the page of each directory part that it does not renew.
use Rattle.std.proofs.Common.{◌≡◌, ◌≢◌, ◌⊎◌, inl, inr, ℕ, true, false, min, max, List, Option, Some, None, Contains, IsSome, sym, refl, ap, subst, ◌∙◌, arith, true≢false}
use Rattle.std.proofs.lemmas.Bool.{or_cases, cases_eq}
use Rattle.std.specs.Option.{unwrap_or}
use Rattle.grid_types.specs.declared.key.Key.{Key}
use Rattle.grid_types.specs.declared.layout_change.LayoutChange.TheVariants as note
use Rattle.grid_types.specs.declared.owner.Owner.TheVariants.{Part}
use Rattle.grid_types.specs.declared.shape.Shape.{Shape}
use Rattle.grid_types.specs.declared.update.Update.{Update}
use Rattle.grid_types.specs.declared.update.Update.TheVariants.{Put, Remove}
use Rattle.grid_types.specs.Keys.{IsKey}
use Rattle.grid_types.specs.Regions.{contains, make_a_box}
use Rattle.grid_model.specs.Lists.{is_among}
use Rattle.grid_model.specs.Cells.{parts_holding}
use Rattle.grid_model.specs.Tables.{Table, get, effect}
use Rattle.grid_model.specs.Layouts.{BucketBox, Layout, box, holder, IsSound, number_at}
use Rattle.grid_model.specs.Lawful.{IsUpdateOf}
use Rattle.grid_model.specs.Notes.{updated_key, merges, after_note_at, IsLawfulNote, joined, together}
use Rattle.grid_model.specs.LayoutLaws.{StandsOver, IsMerge}
use Rattle.grid_model.proofs.Boxes.{one-value, one-box, some-not-none}
use Rattle.grid_model.proofs.Hulls.{hull-contains}
use Rattle.grid_model.proofs.Joined.{after-merge, is-merge}
use Rattle.grid_model.proofs.LayoutKept.{put-never-merges}
use Rattle.grid_model.proofs.Merged.{remove-merge}
use Rattle.grid_model.proofs.Partners.{IsMergeOf, each-merge}
use Rattle.history_pages.specs.OwnerPages.{owner_page}
use Rattle.history_pages.proofs.Names.{Has, same-name}
use Rattle.history_pages.proofs.Numbers.{lower-higher}
use Rattle.history_pages.proofs.Parts.{part-stays}

-- a merge of a box: another box of that number makes a box with it, and the layout stands over the table after it
pub record JoinsBox {K : ℕ} (shape : Shape) (L : Layout K) (s : Table) (n : ℕ) (b : BucketBox K) (m : ℕ) : Type 0 where
  pub other : BucketBox K
  pub beside : box L m ≡ Some other
  pub differ : n ≢ m
  pub make : make_a_box b.region other.region ≡ true
  pub stands : StandsOver shape (joined L n b m other) s

-- a remove of a key that a table has is one of its updates
removes-key : {K : ℕ} (shape : Shape) (L : Layout K) (t : Table) (k : Key K) → StandsOver shape L t → IsSome (get t k.numbers) → IsUpdateOf K (Remove k)
removes-key {K} shape L t k stands there = record { key = by (get t k.numbers) refl there; value = omega arith }
  where
    by : (o : Option (List ℕ)) → get t k.numbers ≡ o → IsSome o → IsKey K k.numbers
    by None e some = absurd (true≢false (sym some))
    by (Some d) e some = stands.keys k.numbers d e

-- a lawful merge of a remove joins the box that has the key
remove-joins : {K : ℕ} (shape : Shape) (L : Layout K) (t : Table) (k : Key K) (e : ℕ × BucketBox K) (m : ℕ) → StandsOver shape L t → IsSome (get t k.numbers) → Contains (merges shape L t k.numbers) (note.Merge m) → holder L k.numbers ≡ Some e
    → JoinsBox shape L (effect t (Remove k)) e.0 e.1 m
remove-joins {K} shape L t k e m stands there is holds = subst (λ (x : ℕ × BucketBox K). JoinsBox shape L (effect t (Remove k)) x.0 x.1 m) (one-value (w.number, w.here) e (sym w.holds ∙ holds)) (record {
  other = w.other;
  beside = w.beside;
  differ = w.differ;
  make = w.make;
  stands = subst (λ (M : Layout K). StandsOver shape M (effect t (Remove k))) (after-merge L k.numbers w.number w.here m w.other w.holds w.beside) (remove-merge shape L t k m stands (removes-key shape L t k stands there) is);
})
  where
    w : IsMergeOf shape L t k.numbers m
    w = each-merge shape L t k.numbers m stands.sound.numbered is

-- a lawful merge joins the box that has the key
pub lawful-join : {K : ℕ} (shape : Shape) (L : Layout K) (t : Table) (u : Update K) (e : ℕ × BucketBox K) (m : ℕ) → StandsOver shape L t → IsLawfulNote shape L t u (note.Merge m) → holder L (updated_key u) ≡ Some e
    → JoinsBox shape L (effect t u) e.0 e.1 m
lawful-join shape L t (Put r) e m stands is holds = absurd (put-never-merges shape L t r.key.numbers m is)
lawful-join shape L t (Remove k) e m stands (there, inl q) holds = absurd (cc)
lawful-join shape L t (Remove k) e m stands (there, inr q) holds = remove-joins shape L t k e m stands there q holds

-- the layout after a merge is the one of the two boxes
pub after-join : {K : ℕ} (shape : Shape) (L : Layout K) (s : Table) (e : ℕ × BucketBox K) (m : ℕ) (is : JoinsBox shape L s e.0 e.1 m) → after_note_at L e (note.Merge m) ≡ joined L e.0 e.1 m is.other
after-join shape L s e m is = ap (λ o. joined L e.0 e.1 m (unwrap_or o e.1)) is.beside

module _ {K : ℕ} (shape : Shape) (L : Layout K) (t s : Table) (n : ℕ) (b : BucketBox K) (m : ℕ) (sound : IsSound shape L t) (there : box L n ≡ Some b) (is : JoinsBox shape L s n b m) where
  abbrev merged : Layout K
  merged = joined L n b m is.other

  -- the box that vanishes
  abbrev vanishing : BucketBox K
  vanishing = unwrap_or (box L (max n m)) b

  -- of two boxes that are joined the one with a key out of the vanishing box has the lower number
  lower-has : (k : List ℕ) → contains vanishing.region k ≡ false → (i : ℕ) → Has L k i → (i ≡ min n m) ⊎ (i ≡ max n m) → Has L k (min n m)
  lower-has k out i h (inl e) = subst (Has L k) e h
  lower-has k out i h (inr e) =
      let found : box L (max n m) ≡ Some h.here = ap (box L) (sym e) ∙ h.there in
      absurd (true≢false (sym h.has ∙ ap (λ o. contains (unwrap_or o b).region k) (sym found) ∙ out))

  -- a key of both that is out of the vanishing box was in the box of the lower number
  of-two : (k : List ℕ) → contains vanishing.region k ≡ false → contains (together b is.other).region k ≡ true → Has L k (min n m)
  of-two k out has = by (or_cases (contains b.region k) (contains is.other.region k) (sym (hull-contains b.region is.other.region k (sound.regions n b there) (sound.regions m is.other is.beside) is.make) ∙ has)) (lower-higher n m)
    where
      one : contains b.region k ≡ true → Has L k n
      one q = record { here = b; there = there; has = q }

      two : contains is.other.region k ≡ true → Has L k m
      two q = record { here = is.other; there = is.beside; has = q }

      by : (contains b.region k ≡ true) ⊎ (contains is.other.region k ≡ true) → ((n ≡ min n m) × (m ≡ max n m)) ⊎ ((n ≡ max n m) × (m ≡ min n m)) → Has L k (min n m)
      by (inl q) (inl p) = lower-has k out n (one q) (inl p.0)
      by (inl q) (inr p) = lower-has k out n (one q) (inr p.0)
      by (inr q) (inl p) = lower-has k out m (two q) (inr p.1)
      by (inr q) (inr p) = lower-has k out m (two q) (inl p.1)

  -- each box after the merge that has a key out of the vanishing box had it before
  had : (k : List ℕ) → contains vanishing.region k ≡ false → (i : ℕ) → Has merged k i → Has L k i
  had k out i h = by (cases_eq i (min n m)) (cases_eq i (max n m))
    where
      g : IsMerge L n b m is.other (joined L n b m is.other)
      g = is-merge L n b m is.other is.differ

      by : (i ≡ min n m) ⊎ (i ≢ min n m) → (i ≡ max n m) ⊎ (i ≢ max n m) → Has L k i
      by (inl p) _ = subst (Has L k) (sym p) (of-two k out (ap (λ (x : BucketBox K). contains x.region k) (sym (one-box (joined L n b m is.other) i (min n m) h.here (together b is.other) h.there g.survivor p)) ∙ h.has))
      by (inr p) (inl q) = absurd (some-not-none h.here (sym h.there ∙ ap (box (joined L n b m is.other)) q ∙ g.gone))
      by (inr p) (inr q) = record { here = h.here; there = sym (g.others i (λ r. omega arith) (λ r. omega arith)) ∙ h.there; has = h.has }

  -- a key out of the vanishing box stays in its box
  pub name-stays : (k : List ℕ) → IsKey K k → contains vanishing.region k ≡ false → number_at merged k ≡ number_at L k
  name-stays k key out = same-name (joined L n b m is.other) L k is.stands.sound.numbered sound.numbered sound.apart (is.stands.sound.covers k key) (had k out)

  -- a directory part that is not renewed keeps its page
  pub joined-part : (p : ℕ) → is_among (parts_holding L.scales vanishing.region) p ≡ false → owner_page merged s (Part p) ≡ owner_page L t (Part p)
  joined-part p out = part-stays (joined L n b m is.other) L s t vanishing.region p sound.attributes sound.scales (is-merge L n b m is.other is.differ).scales out name-stays
