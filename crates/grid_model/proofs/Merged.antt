-- What a lawful merge leaves: it keeps a layout sound.
use Rattle.std.proofs.Common.{◌≡◌, ◌≢◌, ◌<◌, ◌≤◌, ◌+◌, ◌*◌, ◌/◌, ℕ, true, ◌||◌, min, max, List, length, Option, Some, None, IsSome, Contains, ◌⊎◌, inl, inr, nat_cmp, refl, sym, ap, subst, ◌∙◌, arith, true≢false, leb-true}
use Rattle.std.proofs.lemmas.Bool.{or_left, or_right, or_cases, cases_eq}
use Rattle.std.specs.Cmp.{nat_cmp_total}
use Rattle.std.specs.FinMap.Entries.{is_sorted-put, is_sorted-where_key}
use Rattle.grid_types.specs.declared.key.Key.{Key}
use Rattle.grid_types.specs.declared.shape.Shape.{Shape}
use Rattle.grid_types.specs.declared.update.Update.{Update}
use Rattle.grid_types.specs.declared.update.Update.TheVariants.{Put, Remove}
use Rattle.grid_types.specs.declared.layout_change.LayoutChange.TheVariants as note
use Rattle.grid_types.specs.Keys.{IsKey}
use Rattle.grid_types.specs.Regions.{contains, IsRegion, make_a_box, hull}
use Rattle.grid_model.specs.Tables.{Table, without, effect}
use Rattle.grid_model.specs.Lawful.{IsUpdateOf}
use Rattle.grid_model.specs.Layouts.{BucketBox, Layout, box, holder, records_inside, EachBox, Apart, IsDrawn, IsSound}
use Rattle.grid_model.specs.Scales.{scale_of}
use Rattle.grid_model.specs.Neighbours.{fit_together}
use Rattle.grid_model.specs.Notes.{updated_key, together, joined, after_note, merges, IsLawfulNote}
use Rattle.grid_model.specs.LayoutLaws.{StandsOver, IsMerge}
use Rattle.grid_model.proofs.Boxes.{one-value, some-not-none, one-box}
use Rattle.grid_model.proofs.Holders.{holder-finds, holder-box}
use Rattle.grid_model.proofs.Hulls.{hull-contains, hull-region, hull-drawn}
use Rattle.grid_model.proofs.Records.{at-most-both, no-more-without}
use Rattle.grid_model.proofs.LayoutKept.{table-after, its-table}
use Rattle.grid_model.proofs.Joined.{after-merge, is-merge}
use Rattle.grid_model.proofs.Partners.{IsMergeOf, each-merge, no-merge-of-put}

module _ {K : ℕ} (shape : Shape) (L : Layout K) (t : Table) (k : List ℕ) (stands : StandsOver shape L t) (n : ℕ) (b : BucketBox K) (m : ℕ) (c : BucketBox K)
    (at_n : box L n ≡ Some b) (at_m : box L m ≡ Some c) (differ : n ≢ m) (make : make_a_box b.region c.region ≡ true) (fit : fit_together shape (without t k) b.region c.region ≡ true) where
  abbrev merged : Layout K
  merged = joined L n b m c

  -- where a box after the merge comes from: it is the one that two made, or was there
  data Origin (i : ℕ) (d : BucketBox K) : Type 0 where
    Made : i ≡ min n m → d ≡ together b c → Origin i d
    Old : i ≢ n → i ≢ m → box L i ≡ Some d → Origin i d

  origin : (i : ℕ) (d : BucketBox K) → box merged i ≡ Some d → Origin i d
  origin i d e = by (cases_eq i (min n m)) (cases_eq i (max n m))
    where
      by : (i ≡ min n m) ⊎ (i ≢ min n m) → (i ≡ max n m) ⊎ (i ≢ max n m) → Origin i d
      by (inl p) h = Made p (one-box (joined L n b m c) i (min n m) d (together b c) e (is-merge L n b m c differ).survivor p)
      by (inr p) (inl q) = absurd (some-not-none d (sym e ∙ ap (box (joined L n b m c)) q ∙ (is-merge L n b m c differ).gone))
      by (inr p) (inr q) =
          let one : i ≢ n = λ s. omega arith in
          let other : i ≢ m = λ s. omega arith in
          Old one other (sym ((is-merge L n b m c differ).others i one other) ∙ e)

  -- what holds of the box that two made and of those that were there holds of each box
  each-box : (P : ℕ → BucketBox K → Type 0) → P (min n m) (together b c) → EachBox L P → EachBox merged P
  each-box P here there i d e = by (origin i d e)
    where
      by : Origin i d → P i d
      by (Made p q) = subst (λ (x : ℕ × BucketBox K). P x.0 x.1) (λ j. (sym p j, sym q j)) here
      by (Old p q r) = there i d r

  both-keys : (q : List ℕ) → contains (hull b.region c.region) q ≡ (contains b.region q || contains c.region q)
  both-keys q = hull-contains b.region c.region q (stands.sound.regions n b at_n) (stands.sound.regions m c at_m) make

  covers : (q : List ℕ) → IsKey K q → IsSome (holder merged q)
  covers q key = by (holder L q) refl (stands.sound.covers q key)
    where
      in_both : (contains b.region q || contains c.region q) ≡ true → IsSome (holder (joined L n b m c) q)
      in_both h = holder-finds q (joined L n b m c) (min n m) (together b c) (is-merge L n b m c differ).survivor (both-keys q ∙ h)

      kept : (i : ℕ) (d : BucketBox K) → box L i ≡ Some d → contains d.region q ≡ true → (i ≡ n) ⊎ (i ≢ n) → (i ≡ m) ⊎ (i ≢ m) → IsSome (holder (joined L n b m c) q)
      kept i d e has (inl p) h = in_both (or_left (contains b.region q) (contains c.region q) (ap (λ x. contains x.region q) (one-box L n i b d at_n e (sym p)) ∙ has))
      kept i d e has (inr p) (inl h) = in_both (or_right (contains b.region q) (contains c.region q) (ap (λ x. contains x.region q) (one-box L m i c d at_m e (sym h)) ∙ has))
      kept i d e has (inr p) (inr h) = holder-finds q (joined L n b m c) i d ((is-merge L n b m c differ).others i p h ∙ e) has

      by : (o : Option (ℕ × BucketBox K)) → holder L q ≡ o → IsSome o → IsSome (holder (joined L n b m c) q)
      by None h s = absurd (true≢false (sym s))
      by (Some e) h s =
          let found = holder-box q L e stands.sound.numbered h in
          kept e.0 e.1 found.0 found.1 (cases_eq e.0 n) (cases_eq e.0 m)

  -- no other box has a key of the one that two made
  others-apart : (q : List ℕ) (j : ℕ) (e : BucketBox K) → contains (hull b.region c.region) q ≡ true → j ≢ n → j ≢ m → box L j ≡ Some e → contains e.region q ≡ true → ⊥
  others-apart q j e has one other at_j in_e = by (or_cases (contains b.region q) (contains c.region q) (sym (both-keys q) ∙ has))
    where
      by : (contains b.region q ≡ true) ⊎ (contains c.region q ≡ true) → ⊥
      by (inl h) = one (sym (stands.sound.apart q n j b e at_n at_j h in_e))
      by (inr h) = other (sym (stands.sound.apart q m j c e at_m at_j h in_e))

  apart : Apart merged
  apart q i j d e at_i at_j in_d in_e = meet (origin i d at_i) (origin j e at_j)
    where
      meet : Origin i d → Origin j e → i ≡ j
      meet (Made p g) (Made r h) = p ∙ sym r
      meet (Made p g) (Old one other r) = absurd (others-apart q j e (ap (λ x. contains x.region q) (sym g) ∙ in_d) one other r in_e)
      meet (Old one other r) (Made p g) = absurd (others-apart q i d (ap (λ x. contains x.region q) (sym g) ∙ in_e) one other r in_d)
      meet (Old one other r) (Old one2 other2 s) = stands.sound.apart q i j d e r s in_d in_e

  room : length (records_inside (without t k) (hull b.region c.region)) ≤ shape.capacity
  room =
      let few : length (records_inside (without t k) b.region) + length (records_inside (without t k) c.region) ≤ 7 * shape.capacity / 10 = leb-true (length (records_inside (without t k) b.region) + length (records_inside (without t k) c.region)) (7 * shape.capacity / 10) fit in
      let all = at-most-both (hull b.region c.region) b.region c.region both-keys (without t k) in
      omega (arith, few, all)

  sound : IsSound shape merged (without t k)
  unfolding joined
  sound = record {
    attributes = stands.sound.attributes;
    scales = stands.sound.scales;
    few_boundaries = stands.sound.few_boundaries;
    few_cells = stands.sound.few_cells;
    numbered = is_sorted-put nat_cmp nat_cmp_total (min n m) (together b c) _ (is_sorted-where_key nat_cmp _ L.boxes stands.sound.numbered);
    regions = each-box (λ i d. IsRegion K d.region) (hull-region b.region c.region (stands.sound.regions n b at_n) (stands.sound.regions m c at_m)) stands.sound.regions;
    turns = each-box (λ i d. d.turn < K) (stands.sound.turns n b at_n) stands.sound.turns;
    drawn = each-box (λ i d. IsDrawn L.scales d) (λ a p. hull-drawn b.region c.region (stands.sound.regions n b at_n) (stands.sound.regions m c at_m) (scale_of L.scales a) a (stands.sound.drawn n b at_n a p) (stands.sound.drawn m c at_m a p)) stands.sound.drawn;
    covers = covers;
    apart = apart;
    room = each-box (λ i d. length (records_inside (without t k) d.region) ≤ shape.capacity) room (λ i d e. omega (arith, no-more-without t k d.region, stands.sound.room i d e));
    below_pages = each-box (λ i d. i < shape.pages) (omega (arith, stands.sound.below_pages n b at_n)) stands.sound.below_pages;
  }

-- a remove with a lawful merge keeps the layout sound
pub remove-merge : {K : ℕ} (shape : Shape) (L : Layout K) (t : Table) (k : Key K) (m : ℕ) → StandsOver shape L t → IsUpdateOf K (Remove k) → Contains (merges shape L t k.numbers) (note.Merge m)
    → StandsOver shape (after_note L k.numbers (note.Merge m)) (effect t (Remove k))
unfolding effect
remove-merge shape L t k m stands is h =
    let after_remove = table-after t (Remove k) (its-table shape L t stands) is in
    let w = each-merge shape L t k.numbers m stands.sound.numbered h in
    subst (λ M. StandsOver shape M (without t k.numbers)) (sym (after-merge L k.numbers w.number w.here m w.other w.holds w.beside)) (record {
      lawful = stands.lawful;
      attributes = stands.attributes;
      table = after_remove.table;
      keys = after_remove.keys;
      values = after_remove.values;
      sound = sound shape L t k.numbers stands w.number w.here m w.other w.there w.beside w.differ w.make w.fit;
    })

-- a merge of two boxes, where box n has the key
merge-of-two : {K : ℕ} (shape : Shape) (L : Layout K) (t : Table) (k : List ℕ) (m n : ℕ) (b : BucketBox K) → IsMergeOf shape L t k m → holder L k ≡ Some (n, b)
    → (c : BucketBox K) × (box L m ≡ Some c) × (n ≢ m) × IsMerge L n b m c (after_note L k (note.Merge m))
merge-of-two {K} shape L t k m n b w holds =
    subst (λ (e : ℕ × BucketBox K). (c : BucketBox K) × (box L m ≡ Some c) × (e.0 ≢ m) × IsMerge L e.0 e.1 m c (after_note L k (note.Merge m))) (one-value (w.number, w.here) (n, b) (sym w.holds ∙ holds))
    (w.other, w.beside, w.differ, subst (IsMerge L w.number w.here m w.other) (sym (after-merge L k w.number w.here m w.other w.holds w.beside)) (is-merge L w.number w.here m w.other w.differ))

-- a lawful merge is one of the box that has the key with another one
pub lawful-merge : {K : ℕ} (shape : Shape) (L : Layout K) (t : Table) (u : Update K) (m n : ℕ) (b : BucketBox K) → StandsOver shape L t → IsLawfulNote shape L t u (note.Merge m) → holder L (updated_key u) ≡ Some (n, b)
    → (c : BucketBox K) × (box L m ≡ Some c) × (n ≢ m) × IsMerge L n b m c (after_note L (updated_key u) (note.Merge m))
lawful-merge shape L t (Put r) m n b stands h holds = absurd (no-merge-of-put shape L t r.key.numbers m h)
lawful-merge shape L t (Remove k) m n b stands (there, inl e) holds = absurd cc
lawful-merge shape L t (Remove k) m n b stands (there, inr h) holds = merge-of-two shape L t k.numbers m n b (each-merge shape L t k.numbers m stands.sound.numbered h) holds
