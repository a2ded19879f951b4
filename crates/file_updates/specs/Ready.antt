-- A plan that only lacks its new pages, whatever the pages of the file say.
use Rattle.std.specs.Prelude.{ℕ, IsTrue}
use Rattle.grid_types.specs.declared.owner.Owner.TheVariants.{Bucket}
use Rattle.grid_types.specs.declared.update.Update.{Update}
use Rattle.file_books.specs.Books.{Books, has_page}
use Rattle.file_books.specs.Effects.{HasOther}
use Rattle.update_plans.specs.declared.plan.Plan.{Plan}
use Rattle.update_plans.specs.Plans.{IsSoundPlan}

-- the plan of an update is ready in the books of a file: it is sound, its bucket has a page, and the other one as its note asks
pub record IsReadyPlan {K : ℕ} (b : Books) (u : Update K) (p : Plan K) : Type 0 where
  pub sound : IsSoundPlan b.shape b.scales u p
  pub bucket : IsTrue (has_page b (Bucket p.bucket))
  pub other : HasOther b p.bucket p.note
