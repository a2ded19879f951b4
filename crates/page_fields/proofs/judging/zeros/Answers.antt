use Rattle.std.proofs.Common.{arith}
use Rattle.std.proofs.lemmas.Bool.Decides.{Decides-eqb}
use Rattle.std.proofs.lemmas.Slice.Eq.{slice_eq-Decides}
use Rattle.page_fields.proofs.ZeroParts.{zeros_there, zeros_same}
use Rattle.page_fields.proofs.judging.zeros.Goals as goal

pub returns : goal.returns
returns c =
    let same = slice_eq-Decides Decides-eqb _ _ _ c.eq.ensures in (
      λ h. zeros_there c.args.from c.args.to 4096 c.args.page.now c.requires (same.0 h),
      λ h. same.1 (zeros_same c.args.from c.args.to 4096 c.args.page.now (omega arith) c.requires c.told-page h),
    )
