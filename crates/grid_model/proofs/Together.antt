-- The laws that stand on others: lawful notes keep layouts sound, and a lone caller's answers are legal.
use Rattle.std.proofs.Common.{ℕ}
use Rattle.grid_model.specs.LayoutLaws.{KeepsSound}
use Rattle.grid_model.specs.LoneLaws.{IsLegalAlone}
use Rattle.grid_model.proofs.ScaleLaws.{parts-numbers}
use Rattle.grid_model.proofs.CutLaws.{cuts-best}
use Rattle.grid_model.proofs.LeastUnused.{least-unused}
use Rattle.grid_model.proofs.Merged.{remove-merge, lawful-merge}
use Rattle.grid_model.proofs.LayoutLaws.{keeps-sound}
use Rattle.grid_model.proofs.Telling.{legal-alone}

pub sound-layouts : {K : ℕ} → KeepsSound K
sound-layouts {K} = keeps-sound parts-numbers (cuts-best K) remove-merge

pub lone-legal : {K : ℕ} → IsLegalAlone K
lone-legal {K} = legal-alone sound-layouts least-unused (record { merge = lawful-merge })
