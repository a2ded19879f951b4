use Rattle.std.proofs.Common.{arith, lit<, ◌≡◌}
use Rattle.page_fields.proofs.ZeroWords.{two_zeros, is_zero, zero_is, starts_zero, ends_zero, both_zero}
use Rattle.page_fields.proofs.words.up_to_three_zeros.Goals as goal

pub returns-then-get_u16-eq0 : goal.returns-then-get_u16-eq0
returns-then-get_u16-eq0 c =
    let page = c.args.page.now in
    let last = c.get_u16-then-get_u16-eq0.result in (
      λ h. both_zero 2 c.args.from c.args.to c.get_u16.result last page two_zeros (omega arith) (omega arith) c.requires.inside c.told-page c.fits-page c.get_u16.ensures c.get_u16-then-get_u16-eq0.ensures (omega arith) (is_zero last h),
      λ zeros. zero_is last (ends_zero 2 c.args.from c.args.to last page two_zeros (lit< tt) (omega arith) c.requires.inside c.told-page c.get_u16-then-get_u16-eq0.ensures zeros),
    )

pub returns-else-get_u16-eq0 : goal.returns-else-get_u16-eq0
returns-else-get_u16-eq0 c =
    let first = c.get_u16.result in (
      λ h.
          let e : first ≡ 0 = is_zero first h in
          absurd (omega (arith, e)),
      λ zeros. zero_is first (starts_zero 2 c.args.from c.args.to first c.args.page.now two_zeros (lit< tt) (omega arith) c.requires.inside c.told-page c.get_u16.ensures zeros),
    )
