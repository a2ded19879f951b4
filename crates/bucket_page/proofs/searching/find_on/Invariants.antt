use Rattle.std.proofs.Common.{◌≡◌, ◌<◌, ◌≤◌, ◌+◌, ◌*◌, ◌-◌, ℕ}
use Rattle.std.specs.declared.cmp.Ordering.TheVariants.{Less, Greater}
use Rattle.grid_types.specs.Keys.{key_cmp}
use Rattle.bucket_page.specs.OnPage.{numbers_at}
use Rattle.bucket_page.proofs.searching.find_on.Given as goal

abbrev pub invariant-halves : goal.invariant-halves
invariant-halves g l = record {
  ordered : l.low ≤ l.high;
  within : l.high ≤ l.count;
  below : (i : ℕ) → i + 1 ≡ l.low → key_cmp l.key.numbers (numbers_at g.row.K (96 + 80 * i) l.page) ≡ Greater;
  above : l.high < l.count → key_cmp l.key.numbers (numbers_at g.row.K (96 + 80 * l.high) l.page) ≡ Less;
}

abbrev pub decreases-halves : goal.decreases-halves
decreases-halves g l = l.high - l.low
