-- A cut leaves the page of each directory part that it does not renew.
use Rattle.std.proofs.Common.{◌≡◌, ◌<◌, ◌≤◌, inl, inr, ℕ, Bool, true, false, cond, List, slice_index, slice_set, Some, None, IsTrue, refl, sym, ap, subst, ◌∙◌, arith, true≢false, nat_lt, ltb-true, ltb-false}
use Rattle.std.specs.Prelude.{⊤}
use Rattle.std.proofs.lemmas.Bool.{le-ltb}
use Rattle.grid_types.specs.declared.layout_change.Cut.{Cut}
use Rattle.grid_types.specs.declared.layout_change.LayoutChange.{LayoutChange}
use Rattle.grid_types.specs.declared.layout_change.LayoutChange.TheVariants as note
use Rattle.grid_types.specs.declared.owner.Owner.TheVariants.{Part}
use Rattle.grid_types.specs.declared.shape.Shape.{Shape}
use Rattle.grid_types.specs.declared.update.Update.{Update}
use Rattle.grid_types.specs.declared.update.Update.TheVariants.{Put, Remove}
use Rattle.grid_types.specs.Keys.{IsKey}
use Rattle.grid_types.specs.Regions.{contains, IsRegion, is_within}
use Rattle.grid_types.proofs.Numbers.{first}
use Rattle.grid_model.specs.Lists.{below, is_among}
use Rattle.grid_model.specs.Scales.{scale_of, refined}
use Rattle.grid_model.specs.Cells.{parts, parts_holding}
use Rattle.grid_model.specs.Tables.{Table}
use Rattle.grid_model.specs.Layouts.{BucketBox, Layout, box, holder, IsSound, number_at, directory_part}
use Rattle.grid_model.specs.Notes.{updated_key, put_note, IsLawfulNote, right_of, scales_after, split}
use Rattle.grid_model.specs.LayoutLaws.{StandsOver}
use Rattle.grid_model.specs.Spellings.{directory_spelling}
use Rattle.grid_model.proofs.Boxes.{one-value}
use Rattle.grid_model.proofs.Counts.{range-among}
use Rattle.grid_model.proofs.CutBoxes.{each-part, split-numbered, split-covers}
use Rattle.grid_model.proofs.CutLaws.{cuts-best}
use Rattle.grid_model.proofs.CutParts.{Cuts, cuts}
use Rattle.grid_model.proofs.CutRegions.{left-contains}
use Rattle.grid_model.proofs.LayoutKept.{PutBox, put-box, PutNote, There, HasRoom, IsCut, noted}
use Rattle.grid_model.proofs.LayoutLaws.{merges_only}
use Rattle.grid_model.proofs.LeastUnused.{least-unused}
use Rattle.grid_model.proofs.Refining.{parts-grow}
use Rattle.history_pages.specs.OwnerPages.{owner_page}
use Rattle.history_pages.proofs.Names.{Has, same-name}
use Rattle.history_pages.proofs.Parts.{part-stays}

-- a cut of a box: its boundary lies within the box, and no box has the number of the right part
pub record CutsBox {K : ℕ} (L : Layout K) (b : BucketBox K) (c : Cut) (right : ℕ) : Type 0 where
  pub attribute : c.attribute < K
  pub within : IsTrue (is_within b.region c.attribute c.value)
  pub free : box L right ≡ None

-- what a note says of a box where it is a cut
abbrev SaysCut : {K : ℕ} → Layout K → BucketBox K → LayoutChange → Type 0
SaysCut L b note.Plain = ⊤
SaysCut L b (note.Cut c right) = CutsBox L b c right
SaysCut L b (note.Merge m) = ⊤

-- a lawful cut of a put cuts the box that has the key
put-cuts : {K : ℕ} (shape : Shape) (L : Layout K) (t : Table) (k : List ℕ) (e : ℕ × BucketBox K) (c : Cut) (right : ℕ) → StandsOver shape L t → put_note shape L t k ≡ Some (note.Cut c right) → holder L k ≡ Some e → CutsBox L e.1 c right
put-cuts {K} shape L t k e c right stands is holds = subst (λ (x : ℕ × BucketBox K). CutsBox L x.1 c right) (one-value (p.number, p.here) e (sym p.held ∙ holds)) (by (noted shape L t k p.here (note.Cut c right) p.noted))
  where
    p : PutBox shape L t k (note.Cut c right)
    p = put-box shape L t k (note.Cut c right) stands is

    by : PutNote shape L t k p.here (note.Cut c right) → CutsBox L p.here c right
    by (There same _) = absurd (cc)
    by (HasRoom same _) = absurd (cc)
    by (IsCut d same found) =
        let facts : Cuts shape L.scales p.here t k d = cuts (cuts-best K) shape L.scales p.here t k d stands.sound.attributes (stands.sound.regions p.number p.here p.there) found in
        subst (SaysCut L p.here) (sym same) (record { attribute = facts.attribute; within = facts.within; free = least-unused.none L })

-- a lawful cut cuts the box that has the key
pub lawful-cut : {K : ℕ} (shape : Shape) (L : Layout K) (t : Table) (u : Update K) (e : ℕ × BucketBox K) (c : Cut) (right : ℕ) → StandsOver shape L t → IsLawfulNote shape L t u (note.Cut c right) → holder L (updated_key u) ≡ Some e → CutsBox L e.1 c right
lawful-cut shape L t (Put r) e c right stands is holds = put-cuts shape L t r.key.numbers e c right stands is holds
lawful-cut shape L t (Remove k) e c right stands (there, inl q) holds = absurd (cc)
lawful-cut shape L t (Remove k) e c right stands (there, inr q) holds = absurd (merges_only shape L t k.numbers c right q)

-- a part that is none of the directory's has no page
none-past : {K : ℕ} (L : Layout K) (t : Table) (p : ℕ) → parts L.scales ≤ p → owner_page L t (Part p) ≡ None
unfolding owner_page
none-past L t p past = ap (λ b. cond b (Some (directory_spelling p (directory_part L p))) None) (le-ltb p (parts L.scales) past)

-- what is not among the numbers below is past them
past-below : (n p : ℕ) → is_among (below n) p ≡ false → n ≤ p
past-below n p out = ltb-false p n (by (nat_lt p n) refl)
  where
    by : (b : Bool) → nat_lt p n ≡ b → b ≡ false
    by true e = absurd (true≢false (sym (range-among 0 n p (omega arith) (omega (arith, ltb-true p n e))) ∙ out))
    by false e = refl

-- the scales after a cut
pub scales-of-split : {K : ℕ} (L : Layout K) (n : ℕ) (b : BucketBox K) (c : Cut) (right : ℕ) → (split L n b c right).scales ≡ scales_after L.scales c
unfolding split
scales-of-split L n b c right = refl

-- they are the scales before it where the boundary is not fresh
pub scales-stay : (scales : List (List ℕ)) (c : Cut) → c.fresh ≡ false → scales_after scales c ≡ scales
scales-stay scales c old = ap (λ f. cond f (slice_set scales c.attribute (refined (scale_of scales c.attribute) c.value)) scales) old

module _ {K : ℕ} (shape : Shape) (L : Layout K) (t : Table) (n : ℕ) (b : BucketBox K) (c : Cut) (right : ℕ) (sound : IsSound shape L t) (there : box L n ≡ Some b) (is : CutsBox L b c right) where
  region : IsRegion K b.region
  region = sound.regions n b there

  -- each box after the cut that has a key out of the right part had it before
  had : (k : List ℕ) → contains (right_of b c).region k ≡ false → (m : ℕ) → Has (split L n b c right) k m → Has L k m
  had k out m h = each-part L n b c right there is.free (λ i d. contains d.region k ≡ true → Has L k i)
      (λ has. record { here = b; there = there; has = first (contains b.region k) (nat_lt (slice_index k c.attribute) c.value) (sym (left-contains b c k region is.attribute is.within) ∙ has) })
      (λ has. absurd (true≢false (sym has ∙ out)))
      (λ i d at _ has. record { here = d; there = at; has = has })
      m h.here h.there h.has

  -- a key out of the right part stays in its box
  pub name-stays : (k : List ℕ) → IsKey K k → contains (right_of b c).region k ≡ false → number_at (split L n b c right) k ≡ number_at L k
  name-stays k key out = same-name (split L n b c right) L k (split-numbered L n b c right there is.free sound.numbered) sound.numbered sound.apart
      (split-covers L n b c right there is.free region is.attribute is.within k sound.numbered (sound.covers k key)) (had k out)

  -- a directory part that is not renewed keeps its page
  pub cut-part : (s : Table) (p : ℕ) → is_among (cond c.fresh (below (parts (scales_after L.scales c))) (parts_holding L.scales (right_of b c).region)) p ≡ false → owner_page (split L n b c right) s (Part p) ≡ owner_page L t (Part p)
  cut-part s p out = by c.fresh refl out
    where
      by : (f : Bool) → c.fresh ≡ f → is_among (cond f (below (parts (scales_after L.scales c))) (parts_holding L.scales (right_of b c).region)) p ≡ false → owner_page (split L n b c right) s (Part p) ≡ owner_page L t (Part p)
      by true e o =
          let new : parts (scales_after L.scales c) ≤ p = past-below (parts (scales_after L.scales c)) p o in
          let grow : parts L.scales ≤ parts (scales_after L.scales c) = parts-grow L.scales c (sound.scales c.attribute is.attribute) in
          none-past (split L n b c right) s p (omega (arith, new, ap parts (scales-of-split L n b c right))) ∙ sym (none-past L t p (omega (arith, new, grow)))
      by false e o =
          part-stays (split L n b c right) L s t (right_of b c).region p sound.attributes sound.scales (scales-of-split L n b c right ∙ scales-stay L.scales c e) o name-stays
