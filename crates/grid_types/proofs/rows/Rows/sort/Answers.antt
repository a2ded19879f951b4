use Rattle.std.proofs.Common.{◌≡◌, false, refl}
use Rattle.std.specs.Ordering.{is_lt, ordering_then}
use Rattle.std.specs.declared.cmp.Ordering.{Ordering}
use Rattle.std.specs.declared.cmp.Ordering.TheVariants.{Less, Equal, Greater}
use Rattle.grid_types.proofs.rows.Rows.sort.Goals as goal

not-below : (o p : Ordering) → is_lt (ordering_then o p) ≡ false → is_lt o ≡ false
not-below Less p e = e
not-below Equal p e = refl
not-below Greater p e = refl

pub returns-clause-sorted : goal.returns-clause-sorted
returns-clause-sorted g c k d l h = not-below _ _ (c.sort_unstable.ensures.sorted k d l h)
