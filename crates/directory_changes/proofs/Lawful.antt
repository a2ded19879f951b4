-- The boundary of a lawful cut.
use Rattle.std.proofs.Common.{◌≡◌, inl, inr, ℕ, List, Some, sym, subst}
use Rattle.std.specs.Prelude.{⊤}
use Rattle.grid_types.specs.declared.layout_change.Cut.{Cut}
use Rattle.grid_types.specs.declared.layout_change.LayoutChange.{LayoutChange}
use Rattle.grid_types.specs.declared.layout_change.LayoutChange.TheVariants as note
use Rattle.grid_types.specs.declared.shape.Shape.{Shape}
use Rattle.grid_types.specs.declared.update.Update.{Update}
use Rattle.grid_types.specs.declared.update.Update.TheVariants.{Put, Remove}
use Rattle.grid_model.specs.Tables.{Table}
use Rattle.grid_model.specs.Layouts.{Layout}
use Rattle.grid_model.specs.Notes.{put_note, IsLawfulNote}
use Rattle.grid_model.specs.LayoutLaws.{StandsOver}
use Rattle.grid_model.proofs.CutLaws.{cuts-best}
use Rattle.grid_model.proofs.CutParts.{Cuts, cuts}
use Rattle.grid_model.proofs.CutScales.{CutsScale}
use Rattle.grid_model.proofs.LayoutKept.{PutBox, put-box, PutNote, There, HasRoom, IsCut, noted}
use Rattle.grid_model.proofs.LayoutLaws.{merges_only}

-- what a note says of the scales where it is a cut
abbrev SaysScale : Shape → List (List ℕ) → LayoutChange → Type 0
SaysScale shape scales note.Plain = ⊤
SaysScale shape scales (note.Cut c right) = CutsScale shape scales c
SaysScale shape scales (note.Merge m) = ⊤

put-scale : {K : ℕ} (shape : Shape) (L : Layout K) (t : Table) (k : List ℕ) (c : Cut) (right : ℕ) → StandsOver shape L t → put_note shape L t k ≡ Some (note.Cut c right) → CutsScale shape L.scales c
put-scale {K} shape L t k c right stands is = by (noted shape L t k p.here (note.Cut c right) p.noted)
  where
    p : PutBox shape L t k (note.Cut c right)
    p = put-box shape L t k (note.Cut c right) stands is

    by : PutNote shape L t k p.here (note.Cut c right) → CutsScale shape L.scales c
    by (There same _) = absurd (cc)
    by (HasRoom same _) = absurd (cc)
    by (IsCut d same found) =
        let facts : Cuts shape L.scales p.here t k d = cuts (cuts-best K) shape L.scales p.here t k d stands.sound.attributes (stands.sound.regions p.number p.here p.there) found in
        subst (SaysScale shape L.scales) (sym same) facts.scale

-- a lawful cut is at an existing boundary, or at a fresh one by which its scale may grow
pub lawful-scale : {K : ℕ} (shape : Shape) (L : Layout K) (t : Table) (u : Update K) (c : Cut) (right : ℕ) → StandsOver shape L t → IsLawfulNote shape L t u (note.Cut c right) → CutsScale shape L.scales c
lawful-scale shape L t (Put r) c right stands is = put-scale shape L t r.key.numbers c right stands is
lawful-scale shape L t (Remove k) c right stands (there, inl q) = absurd (cc)
lawful-scale shape L t (Remove k) c right stands (there, inr q) = absurd (merges_only shape L t k.numbers c right q)
