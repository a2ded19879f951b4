-- The plan of a put: one that leaves the layout, and one whose bucket is cut.
use Rattle.std.proofs.Common.{◌≡◌, ◌+◌, ℕ, cond, List, [], ◌∷◌, length, Option, Some, None, is_some, refl, sym, ap, ◌∙◌, arith}
use Rattle.std.proofs.lemmas.List.{length-map}
use Rattle.std.specs.Option.{unwrap_or}
use Rattle.grid_types.specs.declared.layout_change.Cut.{Cut}
use Rattle.grid_types.specs.declared.layout_change.LayoutChange.TheVariants as note
use Rattle.grid_types.specs.declared.owner.Owner.TheVariants.{Bucket, Part}
use Rattle.grid_types.specs.declared.shape.Shape.{Shape}
use Rattle.grid_types.specs.declared.update.Record.{Record}
use Rattle.grid_types.specs.declared.update.Update.TheVariants.{Put}
use Rattle.grid_model.specs.Cells.{dims}
use Rattle.grid_model.specs.Cuts.{cut}
use Rattle.grid_model.specs.Layouts.{BucketBox, Layout, unused}
use Rattle.grid_model.specs.Lone.{renewed, need}
use Rattle.grid_model.specs.Notes.{put_note, cut_note, scales_after}
use Rattle.grid_model.specs.Tables.{Table}
use Rattle.history_pages.specs.PageLaws.{IsChange}
use Rattle.directory_changes.specs.Changes.{directory_change, parts_changed, IsChangeOf}
use Rattle.directory_changes.specs.Fresh.{IsFreshFor}
use Rattle.directory_changes.specs.declared.change.DirectoryChange.{DirectoryChange}
use Rattle.directory_changes.proofs.Renewed.{same-parts}
use Rattle.change_plans.specs.Plans.{CutsByLayout, IsCutDue, IsCutPut, IsPageOf, IsPlainPut}
use Rattle.file_books.specs.Books.{AreScalesOf}
use Rattle.file_books.specs.Effects.{AreOfOneKind}
use Rattle.file_books.specs.declared.record_change.RecordChange.TheVariants.{More, Same}
use Rattle.update_plans.specs.declared.plan.Plan.{Plan}
use Rattle.update_plans.specs.Plans.{counted, IsPlanOf, IsSoundPlan}
use Rattle.update_plans.specs.Putting.{plain_put}

pub plain-plan : {K : ℕ} (shape : Shape) (L : Layout K) (t : Table) (r : Record K) (e : ℕ × BucketBox K) (from : List ℕ) (n b : ℕ) (old : Option (List ℕ)) (page second : List ℕ) → IsPageOf shape L t r.key.numbers e from n → b ≡ e.0 → IsPlainPut shape L t r e old page
    → IsPlanOf shape L t (Put r) e page second (plain_put b old)
unfolding directory_change need renewed
plain-plan shape L t r e from n b old page second h number is = record {
  change = record { stands = h.stands; lawful = is.noted; holds = h.holds };
  bucket = number;
  directory = refl;
  need = refl;
  pages = refl;
  old = is.old;
  buffers = λ i. (Bucket (number i), sym (ap (λ o. unwrap_or o []) is.page) i) ∷ [];
}

plain-counted : {K : ℕ} (r : Record K) (old : Option (List ℕ)) → cond (is_some old) Same More ≡ counted (Put r) old
plain-counted r None = refl
plain-counted r (Some d) = refl

pub plain-sound : {K : ℕ} (shape : Shape) (scales : List (List ℕ)) (r : Record K) (b : ℕ) (old : Option (List ℕ)) → AreScalesOf K shape scales → IsSoundPlan shape scales (Put r) (plain_put b old)
unfolding parts_changed
plain-sound shape scales r b old s = record { kind = tt; directory = tt; fresh = tt; scales = s; pages = refl; need = refl; records = plain-counted r old }

-- the rule of the median, a layout's scales and its least unused number are those by which it is cut
pub by-layout : {K : ℕ} (L : Layout K) (scales : List (List ℕ)) (right : ℕ) → scales ≡ L.scales → right ≡ unused L → CutsByLayout cut L scales right
by-layout L scales right same number = record { median = λ shape scales b keys. refl; scales = same; number = number }

-- the plan of a put into a bucket that is cut
abbrev pub cut_put : {K : ℕ} → ℕ → Cut → ℕ → DirectoryChange K → ℕ → Plan K
cut_put b c right directory n = record { bucket = b; note = note.Cut c right; directory = directory; records = More; old = None; need = n + 1; pages = n }

pub cut-plan : {K : ℕ} (shape : Shape) (L : Layout K) (t : Table) (r : Record K) (e : ℕ × BucketBox K) (from : List ℕ) (n b : ℕ) (c : Cut) (right : ℕ) (directory : DirectoryChange K) (first second : List ℕ) (pages : ℕ) (scales : List (List ℕ))
    → IsCutDue shape L t r.key.numbers e from n → CutsByLayout cut L scales right → put_note shape L t r.key.numbers ≡ Some (cut_note L c) → b ≡ e.0 → directory ≡ directory_change L e (note.Cut c right) → pages ≡ 2 + length (parts_changed (dims scales) directory)
    → IsCutPut L t r e c right first second → IsPlanOf shape L t (Put r) e first second (cut_put b c right directory pages)
unfolding need renewed
cut-plan shape L t r e from n b c right directory first second pages scales due by noted number is count put =
    let h : IsChange shape L t (Put r) (note.Cut c right) e = record { stands = due.there.stands; lawful = noted ∙ ap (λ m. Some (note.Cut c m)) (sym by.number); holds = due.there.holds } in
    let parts : length (parts_changed (dims scales) directory) ≡ length (renewed L e (note.Cut c right)).parts = (λ i. length (parts_changed (dims (by.scales i)) (is i))) ∙ ap length (same-parts shape L t (Put r) (note.Cut c right) e h) in
    record {
      change = h;
      bucket = number;
      directory = is;
      need = omega (arith, count, parts);
      pages = omega (arith, count, parts);
      old = sym due.absent;
      buffers = λ i. (Bucket (number i), sym (ap (λ o. unwrap_or o []) put.left) i) ∷ (Bucket right, sym (ap (λ o. unwrap_or o []) put.right) i) ∷ [];
    }

pub cut-sound : {K : ℕ} (shape : Shape) (scales : List (List ℕ)) (r : Record K) (b : ℕ) (c : Cut) (right : ℕ) (directory : DirectoryChange K) (n : ℕ) → AreScalesOf K shape (scales_after scales c) → IsChangeOf (dims scales) directory → IsFreshFor scales c → AreOfOneKind (note.Cut c right) directory
    → n ≡ 2 + length (parts_changed (dims scales) directory) → IsSoundPlan shape scales (Put r) (cut_put b c right directory n)
cut-sound shape scales r b c right directory n s change fresh kind count = record {
  kind = kind;
  directory = change;
  fresh = fresh;
  scales = s;
  pages = omega (arith, count, length-map (parts_changed (dims scales) directory) Part);
  need = refl;
  records = refl;
}
