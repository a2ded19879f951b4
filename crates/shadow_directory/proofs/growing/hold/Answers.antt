use Rattle.shadow_directory.proofs.Keeping.{reads-failed}
use Rattle.shadow_directory.proofs.growing.hold.Goals as goal

pub returns-in_err-read_old-clause-reads : goal.returns-in_err-read_old-clause-reads
returns-in_err-read_old-clause-reads g c = reads-failed c.args.pages.now c.read_old.new.pages c.args.dims.now.intervals c.read_old.new.page c.from_residual.result _ c.from_residual.ensures.1 c.in_err-read_old.ensures.reads
