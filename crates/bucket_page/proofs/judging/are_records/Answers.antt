use Rattle.std.proofs.Common.{◌+◌, ◌*◌, ℕ, inl, inr, sym, subst, refl, arith}
use Rattle.page_fields.proofs.Steps.{below_or_at}
use Rattle.bucket_page.specs.Judging.{IsRecordIn}
use Rattle.bucket_page.proofs.judging.are_records.Goals as goal

pub loop-i-preserved : goal.loop-i-preserved
loop-i-preserved g c = λ k lt.
    elim (below_or_at k c.loop-i.i lt) [
      | inl low ↦ c.loop-i.invariant k low
      | inr e ↦ subst (λ (n : ℕ). IsRecordIn g.row.K c.args.page.now c.args.region.now (96 + 80 * n)) (sym e) (c.is_record.ensures.0 c.if-not-is_record.false)
    ]

pub returns : goal.returns
returns g c = (λ yes k lt. c.loop-i.invariant k (omega (arith, lt, c.loop-i-test.false)), λ all. refl)
