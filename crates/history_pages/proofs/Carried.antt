-- A change that is held is one over the later layout and table too.
use Rattle.std.proofs.Common.{◌≡◌, ◌==◌, ◌||◌, ◌⊎◌, inl, inr, ℕ, true, false, Some, is_some, refl, sym, ap, subst, ◌∙◌, eq-eqb}
use Rattle.std.proofs.lemmas.Bool.{or_left}
use Rattle.grid_types.specs.declared.layout_change.Cut.{Cut}
use Rattle.grid_types.specs.declared.layout_change.LayoutChange.{LayoutChange}
use Rattle.grid_types.specs.declared.layout_change.LayoutChange.TheVariants as note
use Rattle.grid_types.specs.declared.shape.Shape.{Shape}
use Rattle.grid_types.specs.declared.update.Update.{Update}
use Rattle.grid_types.specs.declared.update.Update.TheVariants.{Put, Remove}
use Rattle.grid_types.specs.Regions.{contains}
use Rattle.grid_model.specs.Lists.{is_among}
use Rattle.grid_model.specs.Tables.{Table}
use Rattle.grid_model.specs.Layouts.{BucketBox, Layout, box, holder}
use Rattle.grid_model.specs.Notes.{updated_key, IsLawfulNote}
use Rattle.grid_model.specs.LayoutLaws.{StandsOver}
use Rattle.grid_model.specs.Lone.{renewed, dropped}
use Rattle.grid_model.proofs.LayoutKept.{put-never-merges}
use Rattle.grid_model.proofs.LayoutLaws.{merges_only}
use Rattle.history_pages.specs.PageLaws.{IsChange}
use Rattle.history_pages.specs.HoldingLaws.{IsHeld}
use Rattle.history_pages.proofs.Agreeing.{Agree, IsSame, is-same}
use Rattle.history_pages.proofs.Changes.{box-there}
use Rattle.history_pages.proofs.Joining.{JoinsBox, lawful-join}
use Rattle.history_pages.proofs.Lawful.{note-at, same-note, plain-note}
use Rattle.history_pages.proofs.Merging.{still-merges}
use Rattle.history_pages.proofs.Names.{has-holder}
use Rattle.history_pages.proofs.Numbers.{both-among}

module _ {K : ℕ} (L : Layout K) (e : ℕ × BucketBox K) where
  -- the box of a change is among the buckets that it drops
  box-dropped : (n : LayoutChange) → is_among (dropped L e n).buckets e.0 ≡ true
  unfolding renewed dropped
  box-dropped note.Plain = or_left (e.0 == e.0) false (eq-eqb e.0 e.0 refl)
  box-dropped (note.Cut c right) = or_left (e.0 == e.0) ((right == e.0) || false) (eq-eqb e.0 e.0 refl)
  box-dropped (note.Merge m) = both-among e.0 m e.0 (inl refl)

  -- and so is the other box of a merge
  other-dropped : (m : ℕ) → is_among (dropped L e (note.Merge m)).buckets m ≡ true
  unfolding dropped
  other-dropped m = both-among e.0 m m (inr refl)

module _ {K : ℕ} (shape : Shape) (L M : Layout K) (t s : Table) (u : Update K) (e : ℕ × BucketBox K) where
  -- where a change is held, its box is the same
  pub same-box : (n : LayoutChange) → IsChange shape L t u n e → IsHeld shape L t n e M s → IsSame M s t e.0 e.1
  same-box n h held = is-same M L s t e.0 e.1 (box-there shape L t u n e h).0 (held.buckets e.0 (box-dropped L e n))

  -- and so is the other box of a merge
  pub same-other : (m : ℕ) (c : BucketBox K) → box L m ≡ Some c → IsHeld shape L t (note.Merge m) e M s → IsSame M s t m c
  same-other m c beside held = is-same M L s t m c beside (held.buckets m (other-dropped L e m))

module _ {K : ℕ} (shape : Shape) (t s : Table) (e : ℕ × BucketBox K) (agree : Agree e.1.region s t) where
  -- a plain note is lawful over another layout and table too
  plain-lawful : (L M : Layout K) (u : Update K) → StandsOver shape L t → StandsOver shape M s → holder L (updated_key u) ≡ Some e → holder M (updated_key u) ≡ Some e → contains e.1.region (updated_key u) ≡ true
      → IsLawfulNote shape L t u note.Plain → IsLawfulNote shape M s u note.Plain
  plain-lawful L M (Put w) old new was is has lawful =
      note-at shape M s w.key.numbers e is ∙ plain-note shape M L s t w.key.numbers e.1 new.table old.table agree has (sym (note-at shape L t w.key.numbers e was) ∙ lawful)
  plain-lawful L M (Remove k) old new was is has lawful = (ap is_some (agree k.numbers has) ∙ lawful.0, inl refl)

  module _ (L : Layout K) (old : StandsOver shape L t) (new : StandsOver shape L s) where
    -- a cut is lawful over another table too
    cut-lawful : (u : Update K) (c : Cut) (right : ℕ) → holder L (updated_key u) ≡ Some e → contains e.1.region (updated_key u) ≡ true → IsLawfulNote shape L t u (note.Cut c right) → IsLawfulNote shape L s u (note.Cut c right)
    cut-lawful (Put w) c right is has lawful =
        note-at shape L s w.key.numbers e is ∙ same-note shape L s t w e.1 new.table old.table agree has ∙ sym (note-at shape L t w.key.numbers e is) ∙ lawful
    cut-lawful (Remove k) c right is has (there, inl q) = absurd (cc)
    cut-lawful (Remove k) c right is has (there, inr q) = absurd (merges_only shape L t k.numbers c right q)

    -- and so is a merge, where the tables agree on the other box as well
    merge-lawful : (u : Update K) (m : ℕ) (c : BucketBox K) → holder L (updated_key u) ≡ Some e → contains e.1.region (updated_key u) ≡ true → box L m ≡ Some c → Agree c.region s t → IsLawfulNote shape L t u (note.Merge m) → IsLawfulNote shape L s u (note.Merge m)
    merge-lawful (Put w) m c is has beside other lawful = absurd (put-never-merges shape L t w.key.numbers m lawful)
    merge-lawful (Remove k) m c is has beside other (there, inl q) = absurd (cc)
    merge-lawful (Remove k) m c is has beside other (there, inr q) =
        (ap is_some (agree k.numbers has) ∙ there, inr (still-merges shape L s t k e m c old.sound.numbered new.table old.table is beside agree other q))

module _ {K : ℕ} (shape : Shape) (L M : Layout K) (t s : Table) (u : Update K) where
  -- a plain change is one over the later layout and table
  plain-change : (e : ℕ × BucketBox K) → IsChange shape L t u note.Plain e → IsHeld shape L t note.Plain e M s → IsChange shape M s u note.Plain e
  plain-change e h held =
      let same = same-box shape L M t s u e note.Plain h held in
      let has = (box-there shape L t u note.Plain e h).1 in
      let is : holder M (updated_key u) ≡ Some e = has-holder M (updated_key u) e.0 held.stands.sound.numbered held.stands.sound.apart (record { here = e.1; there = same.there; has = has }) in
      record { stands = held.stands; lawful = plain-lawful shape t s e same.agree L M u h.stands held.stands h.holds is has h.lawful; holds = is }

  -- over the same layout each note is lawful still
  note-lawful : (n : LayoutChange) (e : ℕ × BucketBox K) → IsChange shape L t u n e → IsHeld shape L t n e M s → StandsOver shape L s → IsLawfulNote shape L s u n
  note-lawful note.Plain e h held new =
      plain-lawful shape t s e (same-box shape L M t s u e note.Plain h held).agree L L u h.stands new h.holds h.holds (box-there shape L t u note.Plain e h).1 h.lawful
  note-lawful (note.Cut c right) e h held new =
      cut-lawful shape t s e (same-box shape L M t s u e (note.Cut c right) h held).agree L h.stands new u c right h.holds (box-there shape L t u (note.Cut c right) e h).1 h.lawful
  note-lawful (note.Merge m) e h held new =
      let is : JoinsBox shape L _ e.0 e.1 m = lawful-join shape L t u e m h.stands h.lawful h.holds in
      merge-lawful shape t s e (same-box shape L M t s u e (note.Merge m) h held).agree L h.stands new u m is.other h.holds (box-there shape L t u (note.Merge m) e h).1 is.beside
      (same-other shape L M t s u e m is.other is.beside held).agree h.lawful

  -- a change that is held is one over the later layout and table
  pub change-carries : (n : LayoutChange) (e : ℕ × BucketBox K) → IsChange shape L t u n e → IsHeld shape L t n e M s → IsChange shape M s u n e
  change-carries n e h held = by held.layout
    where
      by : (n ≡ note.Plain) ⊎ (M ≡ L) → IsChange shape M s u n e
      by (inl q) = subst (λ m. IsChange shape L t u m e → IsHeld shape L t m e M s → IsChange shape M s u m e) (sym q) (plain-change e) h held
      by (inr q) =
          let stands : StandsOver shape L s = subst (λ (N : Layout K). StandsOver shape N s) q held.stands in
          subst (λ (N : Layout K). IsChange shape N s u n e) (sym q) (record { stands = stands; lawful = note-lawful n e h held stands; holds = h.holds })
