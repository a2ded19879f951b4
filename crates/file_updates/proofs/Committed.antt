-- What a commit asks, of a plan whose new pages were written.
use Rattle.std.specs.Prelude.{if◌then◌else◌}
use Rattle.std.proofs.Common.{◌≡◌, ◌∙◌, ℕ, List, Option, Some, None, is_some, refl, sym, ap, subst, length, true≢false}
use Rattle.grid_types.specs.declared.shape.Shape.{Shape}
use Rattle.grid_types.specs.declared.update.Update.{Update}
use Rattle.grid_types.specs.declared.update.Update.TheVariants.{Put, Remove}
use Rattle.disk_trait.specs.declared.disk.Disk.{Ghosts}
use Rattle.grid_model.specs.Lawful.{IsUpdateOf}
use Rattle.grid_model.specs.Layouts.{BucketBox, Layout}
use Rattle.grid_model.specs.Notes.{updated_key}
use Rattle.grid_model.specs.Tables.{Table, get}
use Rattle.history_pages.specs.NewPages.{new_pages}
use Rattle.history_pages.specs.PageLaws.{IsChange}
use Rattle.file_images.specs.Kept.{Kept}
use Rattle.file_images.specs.Leads.{Standing}
use Rattle.file_images.specs.Meets.{Meets}
use Rattle.file_books.specs.Books.{Books}
use Rattle.file_books.specs.declared.record_change.RecordChange.TheVariants.{More, Same}
use Rattle.file_standing.specs.Files.{IsFile}
use Rattle.file_standing.specs.Steps.{publishing, record_change}
use Rattle.grid_file.specs.Files.{OpenFile, IsOpenFile, with_claim}
use Rattle.grid_file.specs.FileLaws.{IsWrittenOut, WritingStands}
use Rattle.grid_file.specs.Keeping.{KeepsFile}
use Rattle.update_plans.specs.declared.plan.Plan.{Plan}
use Rattle.update_plans.specs.Plans.{counted, IsPlanOf, IsSoundPlan}
use Rattle.file_updates.specs.Writing.{publishing_by}

-- where a file is at a standing, the new pages that were written of a plan read on the claimed pages, and the disk meets what is kept beside them
pub written_out : {K : ℕ} {D : Type 0} (g : Ghosts D) (law : WritingStands K g) (f new : OpenFile D) (k : Kept K) (m : Standing K) (e : ℕ × BucketBox K) (u : Update K) (p : Plan K) (first second : List ℕ) → IsOpenFile K g new → IsFile f.books k m → Meets g k f.disk
    → KeepsFile K g (with_claim p.pages f) new → IsPlanOf f.books.shape m.layout m.table u e first second p → IsUpdateOf K u → new.written ≡ new_pages m.layout m.table u p.note e → length new.written ≡ length new.claimed → IsWrittenOut g new.books k m e u p.note new.claimed new.disk
written_out g law f new k m e u p first second sound is meets keeps of update pages all =
    law.written (with_claim p.pages f) new k m e u p.note sound (law.claims f k m p.pages is meets) keeps (subst (λ (b : Books). IsChange b.shape m.layout m.table u p.note e) (sym keeps.books) of.change) update pages (sym all)

-- a plan counts the records of a table as its update does
counts_records : {K : ℕ} (shape : Shape) (L : Layout K) (t : Table) (u : Update K) (e : ℕ × BucketBox K) (first second : List ℕ) (p : Plan K) → IsPlanOf shape L t u e first second p → counted u (get t (updated_key u)) ≡ record_change t u
counts_records {K = K} shape L t (Put r) e first second p of = same (get t r.key.numbers)
  where
    same : (o : Option (List ℕ)) → counted (Put r) o ≡ (if is_some o then Same else More)
    same None = refl
    same (Some d) = refl
counts_records shape L t (Remove k) e first second p of = by (get t k.numbers) refl
  where
    by : (o : Option (List ℕ)) → get t k.numbers ≡ o → counted (Remove k) (get t k.numbers) ≡ record_change t (Remove k)
    by None is = absurd (true≢false (sym of.change.lawful.0 ∙ ap is_some is))
    by (Some d) is = ap (counted (Remove k)) is

-- what is published of a plan is what is published of its change at the standing
pub publishes : {K : ℕ} (shape : Shape) (m : Standing K) (e : ℕ × BucketBox K) (u : Update K) (p : Plan K) (first second pages : List ℕ) (any : Shape) (scales : List (List ℕ)) → IsPlanOf shape m.layout m.table u e first second p → IsSoundPlan any scales u p → publishing_by p pages ≡ publishing m e u p.note pages
publishes shape m e u p first second pages any scales of sound = λ i. record {
  bucket = of.bucket i;
  note = p.note;
  directory = of.directory i;
  pages = pages;
  change = (sound.records ∙ ap (counted u) of.old ∙ counts_records shape m.layout m.table u e first second p of) i;
}
