-- The plan of a removal that leaves the layout.
use Rattle.std.proofs.Common.{◌≡◌, ℕ, List, [], ◌∷◌, Some, refl, sym, ap}
use Rattle.std.specs.Option.{unwrap_or}
use Rattle.grid_types.specs.declared.key.Key.{Key}
use Rattle.grid_types.specs.declared.layout_change.LayoutChange.TheVariants as note
use Rattle.grid_types.specs.declared.owner.Owner.TheVariants.{Bucket}
use Rattle.grid_types.specs.declared.shape.Shape.{Shape}
use Rattle.grid_types.specs.declared.update.Update.TheVariants.{Remove}
use Rattle.grid_model.specs.Layouts.{BucketBox, Layout}
use Rattle.grid_model.specs.Lone.{renewed, need}
use Rattle.grid_model.specs.Tables.{Table, get}
use Rattle.directory_changes.specs.Changes.{directory_change, parts_changed}
use Rattle.directory_changes.specs.declared.change.DirectoryChange.TheVariants.{Nothing}
use Rattle.change_plans.specs.Plans.{IsPageOf, IsPlainRemove}
use Rattle.file_books.specs.Books.{AreScalesOf}
use Rattle.file_books.specs.declared.record_change.RecordChange.TheVariants.{Fewer}
use Rattle.update_plans.specs.declared.plan.Plan.{Plan}
use Rattle.update_plans.specs.Plans.{IsPlanOf, IsSoundPlan}

-- the plan of a key's removal from a bucket
abbrev pub removal : {K : ℕ} → ℕ → List ℕ → Plan K
removal b d = record { bucket = b; note = note.Plain; directory = Nothing; records = Fewer; old = Some d; need = 1; pages = 1 }

pub removal-plan : {K : ℕ} (shape : Shape) (L : Layout K) (t : Table) (k : Key K) (e : ℕ × BucketBox K) (from : List ℕ) (n b : ℕ) (d page : List ℕ) → IsPageOf shape L t k.numbers e from n → b ≡ e.0 → Some d ≡ get t k.numbers → IsPlainRemove shape L t k e page
    → IsPlanOf shape L t (Remove k) e page [] (removal b d)
unfolding directory_change need renewed
removal-plan shape L t k e from n b d page h number old r = record {
  change = record { stands = h.stands; lawful = r.noted; holds = h.holds };
  bucket = number;
  directory = refl;
  need = refl;
  pages = refl;
  old = old;
  buffers = λ i. (Bucket (number i), sym (ap (λ o. unwrap_or o []) r.page) i) ∷ [];
}

pub removal-sound : {K : ℕ} (shape : Shape) (scales : List (List ℕ)) (k : Key K) (b : ℕ) (d : List ℕ) → AreScalesOf K shape scales → IsSoundPlan shape scales (Remove k) (removal b d)
unfolding parts_changed
removal-sound shape scales k b d s = record { kind = tt; directory = tt; fresh = tt; scales = s; pages = refl; need = refl; records = refl }
