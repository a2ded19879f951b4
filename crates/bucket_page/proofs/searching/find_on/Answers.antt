use Rattle.std.proofs.Common.{◌≡◌, ◌<◌, ◌+◌, ◌-◌, ◌*◌, ◌/◌, ℕ, sym, subst, arith}
use Rattle.std.specs.declared.cmp.Ordering.TheVariants.{Less}
use Rattle.grid_types.specs.Keys.{key_cmp}
use Rattle.bucket_page.specs.OnPage.{numbers_at}
use Rattle.bucket_page.proofs.Finding.{found_on, place_on}
use Rattle.bucket_page.proofs.searching.find_on.Goals as goal

pub returns-in-Equal-clause-found : goal.returns-in-Equal-clause-found
returns-in-Equal-clause-found g c = λ capacity b s is.
    let middle = c.halves.low + (c.halves.high - c.halves.low) / 2 in
    let lt : middle < c.args.count = omega (arith, c.halves.invariant.within, c.halves-test.true) in
    found_on g.row.K capacity c.args.count c.args.page.now b c.requires.few c.requires.many c.fits-page s is c.args.key.now.numbers middle lt (sym c.in-Equal.ensures)

pub returns-clause-none : goal.returns-clause-none
returns-clause-none g c = λ capacity b s is.
    let k = c.args.key.now.numbers in
    let inv = c.halves.invariant in
    let same : c.halves.high ≡ c.halves.low = omega (arith, inv.ordered, c.halves-test.false) in
    place_on g.row.K capacity c.args.count c.args.page.now b c.requires.few c.requires.many c.fits-page s is k c.halves.low (omega (arith, inv.ordered, inv.within)) inv.below
    (λ lt. subst (λ (n : ℕ). key_cmp k (numbers_at g.row.K (96 + 80 * n) c.args.page.now) ≡ Less) same (inv.above (omega (arith, same, lt))))
