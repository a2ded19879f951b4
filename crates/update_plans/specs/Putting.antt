-- What comes of a record that is to be put.
use Rattle.std.specs.Prelude.{◌≡◌, ◌<◌, ◌^◌, ℕ, Bool, false, List, Option, Some, None, is_some, if◌then◌else◌, IsTrue, ⊤}
use Rattle.grid_types.specs.declared.layout_change.LayoutChange.{LayoutChange}
use Rattle.grid_types.specs.declared.layout_change.LayoutChange.TheVariants as note
use Rattle.grid_types.specs.Regions.{contains}
use Rattle.grid_model.specs.Buckets.{SpellsBucket}
use Rattle.grid_model.specs.Spellings.{BucketOf}
use Rattle.directory_changes.specs.declared.change.DirectoryChange.TheVariants.{Nothing}
use Rattle.file_books.specs.declared.record_change.RecordChange.TheVariants.{More, Same}
use Rattle.update_plans.specs.declared.plan.Plan.{Plan}
use Rattle.update_plans.specs.declared.putting.Planned.{Planned}
use Rattle.update_plans.specs.declared.putting.Planned.TheVariants as planned

-- the plan of a put into a bucket that leaves the layout, by the data that the key had
abbrev pub plain_put : {K : ℕ} → ℕ → Option (List ℕ) → Plan K
plain_put b old = record { bucket = b; note = note.Plain; directory = Nothing; records = if is_some old then Same else More; old = old; need = 2; pages = 1 }

-- where there is a plan, P holds of it
abbrev pub IfPlan : {K : ℕ} → Planned K → (Plan K → Type 0) → Type 0
IfPlan (planned.Plan p) P = P p
IfPlan (planned.NoCut cells boundaries) P = ⊤
IfPlan planned.NoBucket P = ⊤

-- where there is no cut, P holds of the numbers of cells and of boundaries
abbrev pub IfNoCut : {K : ℕ} → Planned K → (ℕ → ℕ → Type 0) → Type 0
IfNoCut (planned.Plan p) P = ⊤
IfNoCut (planned.NoCut cells boundaries) P = P cells boundaries
IfNoCut planned.NoBucket P = ⊤

-- where there is no plan, P holds
abbrev pub OnNoPlan : {K : ℕ} → Planned K → Type 0 → Type 0
OnNoPlan (planned.Plan p) P = ⊤
OnNoPlan (planned.NoCut cells boundaries) P = P
OnNoPlan planned.NoBucket P = P

-- the note of the plan, where there is one
abbrev pub note_planned : {K : ℕ} → Planned K → Option LayoutChange
note_planned (planned.Plan p) = Some p.note
note_planned (planned.NoCut cells boundaries) = None
note_planned planned.NoBucket = None

-- the note of a put is plain, or a cut of one of K attributes at a value of 64 bits, whose right part has this number
abbrev pub IsPutNote : (K n : ℕ) → LayoutChange → Type 0
IsPutNote K n note.Plain = ⊤
IsPutNote K n (note.Cut c right) = (c.attribute < K) × (c.value < 2 ^ 64) × (right ≡ n)
IsPutNote K n (note.Merge m) = ⊥

-- bytes spell no bucket whose region has a key
abbrev pub HasNoBucketOf : ℕ → ℕ → List ℕ → List ℕ → Type 0
HasNoBucketOf K capacity bytes k = (b : BucketOf K) → SpellsBucket capacity bytes b → IsTrue (contains b.box.region k) → ⊥

-- whether a change is a cut at a fresh boundary
abbrev pub is_refinement : LayoutChange → Bool
is_refinement note.Plain = false
is_refinement (note.Cut c right) = c.fresh
is_refinement (note.Merge m) = false

-- whether there is a plan, and it is of such a cut
abbrev pub refines : {K : ℕ} → Planned K → Bool
refines (planned.Plan p) = is_refinement p.note
refines (planned.NoCut cells boundaries) = false
refines planned.NoBucket = false
