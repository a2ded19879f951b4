-- Plans over a layout and a table.
use Rattle.std.specs.Prelude.{◌≡◌, ℕ, List, Option, Some}
use Rattle.grid_types.specs.declared.layout_change.LayoutChange.{LayoutChange}
use Rattle.grid_types.specs.declared.shape.Shape.{Shape}
use Rattle.grid_types.specs.declared.update.Update.{Update}
use Rattle.grid_model.specs.Layouts.{BucketBox, Layout}
use Rattle.grid_model.specs.Tables.{Table}
use Rattle.update_plans.specs.declared.plan.Plan.{Plan}
use Rattle.update_plans.specs.Plans.{IsPlanOf}

-- there is a plan, it is that of an update over a layout and a table, with its new pages in two buffers, and its note is this one
pub record IsPlannedAs {K : ℕ} (shape : Shape) (L : Layout K) (t : Table) (u : Update K) (e : ℕ × BucketBox K) (n : LayoutChange) (first second : List ℕ) (o : Option (Plan K)) : Type 0 where
  pub plan : Plan K
  pub there : o ≡ Some plan
  pub is : IsPlanOf shape L t u e first second plan
  pub noted : plan.note ≡ n
