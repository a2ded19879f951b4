use Rattle.std.proofs.Common.{◌≡◌, ◌+◌, ◌-◌, ◌*◌, ◌∙◌, sym, arith, lit<}
use Rattle.std.proofs.lemmas.Bool.{false≢true}
use Rattle.page_fields.specs.Fields.{AreZeros}
use Rattle.page_fields.proofs.ZeroWords.{eight_zeros, is_zero, zero_is, starts_zero, ends_zero, word_zeros, covered}
use Rattle.page_fields.proofs.words.zeros_by_words.Goals as goal

pub returns-then-get_u64-ne0 : goal.returns-then-get_u64-ne0
returns-then-get_u64-ne0 c = (
  λ h. absurd (false≢true h),
  λ zeros.
      let at = c.args.from + 8 * c.loop-i.i in
      let e : c.get_u64.result ≡ 0 = starts_zero 8 at c.args.to c.get_u64.result c.args.page.now eight_zeros (lit< tt) (omega arith) c.requires.inside c.told-page c.get_u64.ensures (λ k low high. zeros k (omega (arith, low)) high) in
      absurd (omega (arith, e)),
)

pub loop-i-preserved : goal.loop-i-preserved
loop-i-preserved c =
    let at = c.args.from + 8 * c.loop-i.i in
    let next = c.args.from + 8 * (c.loop-i.i + 1) in
    let here : AreZeros at next c.args.page.now = word_zeros 8 at next c.args.page.now eight_zeros (omega arith) (omega arith) c.told-page c.fits-page (sym c.get_u64.ensures ∙ omega arith) in
    covered c.args.from at next at c.args.page.now (omega arith) c.loop-i.invariant here

pub returns : goal.returns
returns c =
    let page = c.args.page.now in
    let from = c.args.from in
    let to = c.args.to in
    let last = c.get_u64-2.result in (
      λ h. covered from (from + 8 * c.loop-i.i) to (to - 8) page (omega (arith, c.loop-i-test.false)) c.loop-i.invariant
          (word_zeros 8 (to - 8) to page eight_zeros (omega arith) c.requires.inside c.told-page c.fits-page (sym c.get_u64-2.ensures ∙ is_zero last h)),
      λ zeros. zero_is last (ends_zero 8 from to last page eight_zeros (lit< tt) (omega arith) c.requires.inside c.told-page c.get_u64-2.ensures zeros),
    )
