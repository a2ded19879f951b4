-- What an update comes to over a layout and a table, and why it may be refused.
use Rattle.std.specs.Prelude.{◌≡◌, ◌≤◌, ◌⊎◌, ℕ, List, [], ◌∷◌, nat_lt, if◌then◌else◌, Option, Some, None, Result, IfErr, IfSome, ⊤}
use Rattle.std.specs.Option.{option_map_or}
use Rattle.grid_types.specs.declared.key.Key.{Key}
use Rattle.grid_types.specs.declared.layout_change.LayoutChange.{LayoutChange}
use Rattle.grid_types.specs.declared.layout_change.LayoutChange.TheVariants as note
use Rattle.grid_types.specs.declared.refusal.Refusal.{Refusal}
use Rattle.grid_types.specs.declared.refusal.Refusal.TheVariants.{ReadFault, NoCut, Damaged}
use Rattle.grid_types.specs.declared.shape.Shape.{Shape}
use Rattle.grid_types.specs.declared.update.Update.{Update}
use Rattle.grid_types.specs.declared.update.Update.TheVariants.{Put, Remove}
use Rattle.disk_trait.specs.Causes.{Rose}
use Rattle.grid_model.specs.Cells.{cells}
use Rattle.grid_model.specs.Lawful.{StandsWith}
use Rattle.grid_model.specs.Layouts.{BucketBox, Layout}
use Rattle.grid_model.specs.Lone.{boundaries, need}
use Rattle.grid_model.specs.Notes.{merges, put_note}
use Rattle.grid_model.specs.Tables.{Table, get}
use Rattle.bucket_page.specs.OnPage.{head_told}
use Rattle.query_paths.specs.Pinned.{Place}
use Rattle.query_paths.specs.Paths.{IsGetRefusal}
use Rattle.merge_paths.specs.Partners.{IsRefusedBeside}
use Rattle.update_plans.specs.declared.plan.Plan.{Plan}
use Rattle.update_plans.specs.Plans.{IsPlanOf}
use Rattle.file_updates.specs.declared.planning.Outcome.{Outcome}
use Rattle.file_updates.specs.declared.planning.Outcome.TheVariants as outcome

-- the note that an update of a box takes where so many pages are free: of merges the first, if there are pages for it, and else none
abbrev pub first_merge : {K : ℕ} → ℕ → Layout K → ℕ × BucketBox K → Update K → List LayoutChange → LayoutChange
first_merge free L e u [] = note.Plain
first_merge free L e u (m ∷ ms) = if nat_lt free (need L e u m) then note.Plain else m

-- the note that a lone caller's update takes where so many pages are free: a put that of the rule, if there is one, and a removal of a key that is there the first merge, if there are pages for it
abbrev pub chosen_note : {K : ℕ} → Shape → ℕ → Layout K → Table → ℕ × BucketBox K → Update K → Option LayoutChange
chosen_note shape free L t e (Put r) = put_note shape L t r.key.numbers
chosen_note shape free L t e (Remove k) = Some (first_merge free L e (Remove k) (merges shape L t k.numbers))

-- the merge that a removal takes, if it takes one, with its plan, whose new pages stand in two buffers
pub record IsFirstMerge {K : ℕ} (shape : Shape) (free : ℕ) (L : Layout K) (t : Table) (k : Key K) (e : ℕ × BucketBox K) (first second : List ℕ) (o : Option (Plan K)) : Type 0 where
  pub chosen : first_merge free L e (Remove k) (merges shape L t k.numbers) ≡ option_map_or (λ p. p.note) o note.Plain
  pub is : IfSome o (IsPlanOf shape L t (Remove k) e first second)

-- an update changes nothing: it removes a key that is absent
abbrev pub ChangesNothing : {K : ℕ} → Table → Update K → Type 0
ChangesNothing t (Put r) = ⊥
ChangesNothing t (Remove k) = get t k.numbers ≡ None

-- a plan is that of an update, with the note that a lone caller's takes
pub record IsChosenPlan {K : ℕ} (shape : Shape) (free : ℕ) (L : Layout K) (t : Table) (e : ℕ × BucketBox K) (u : Update K) (first second : List ℕ) (p : Plan K) : Type 0 where
  pub is : IsPlanOf shape L t u e first second p
  pub chosen : chosen_note shape free L t e u ≡ Some p.note

-- what an update comes to over a layout and a table, where so many pages are free: nothing where it changes nothing, and else its plan, whose new pages stand in two buffers
abbrev pub IsOutcomeOf : {K : ℕ} → Shape → ℕ → Layout K → Table → ℕ × BucketBox K → Update K → List ℕ → List ℕ → Outcome K → Type 0
IsOutcomeOf shape free L t e u first second outcome.Nothing = ChangesNothing t u
IsOutcomeOf shape free L t e u first second (outcome.Change p) = IsChosenPlan shape free L t e u first second p

-- an outcome fits an update, whatever the pages say: its plan's note stands with it, and only a removal changes nothing
abbrev pub FitsUpdate : {K : ℕ} → Update K → Outcome K → Type 0
FitsUpdate u (outcome.Change p) = StandsWith u p.note
FitsUpdate (Put r) outcome.Nothing = ⊥
FitsUpdate (Remove k) outcome.Nothing = ⊤

-- where there is a plan, P holds of it
abbrev pub IfChange : {K : ℕ} → (Plan K → Type 0) → Outcome K → Type 0
IfChange P outcome.Nothing = ⊤
IfChange P (outcome.Change p) = P p

-- an update has no note over a layout and a table: it is a put whose bucket can't be cut
abbrev pub HasNoNote : {K : ℕ} → Shape → Layout K → Table → Update K → Type 0
HasNoNote shape L t (Put r) = put_note shape L t r.key.numbers ≡ None
HasNoNote shape L t (Remove k) = ⊥

-- over the pages of a layout and a table a reading may fail, and an update without a note is refused for want of a cut
abbrev pub IsHonestRefusal : {K : ℕ} → Shape → Layout K → Table → Update K → Refusal → Type 0
IsHonestRefusal shape L t u ReadFault = ⊤
IsHonestRefusal shape L t u (NoCut c b) = HasNoNote shape L t u
IsHonestRefusal shape L t u _ = ⊥

-- an update may be refused so: a reading failed, there is no cut within the limits, of so many cells and boundaries, or a page that was read is not the expected one, on the way to the key's bucket or to a neighbour of it
abbrev pub IsUpdateRefusal : ℕ → Place → ℕ → ℕ → List ℕ → List ℕ → List ℕ → Refusal → Type 0
IsUpdateRefusal K p before now key found beside ReadFault = Rose before now
IsUpdateRefusal K p before now key found beside (NoCut c b) = (c ≡ cells p.scales) × (b ≡ boundaries p.scales)
IsUpdateRefusal K p before now key found beside (Damaged at) = IsGetRefusal K p before now key found (Damaged at) ⊎ IsRefusedBeside p before now (head_told K found).region beside (Damaged at)
IsUpdateRefusal K p before now key found beside _ = ⊥

-- its count of failures does not fall, and a refusal has its cause
pub record HasUpdateCause {T : Type 0} (K : ℕ) (p : Place) (before now : ℕ) (key found beside : List ℕ) (result : Result T Refusal) : Type 0 where
  pub later : before ≤ now
  pub refused : IfErr result (IsUpdateRefusal K p before now key found beside)
