use Rattle.file_roots.proofs.Unique.{one_file_shape, one_newest_root, one_table_area, one_newest_whole}
use Rattle.file_roots.proofs.laws.uniqueness_law.Goals as goal

pub returns : goal.returns
returns c = record { shapes = one_file_shape; newest = one_newest_root; areas = one_table_area; whole = one_newest_whole }
