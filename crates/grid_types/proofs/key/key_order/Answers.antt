use Rattle.std.specs.Cmp.Lexicographic.{nat_list_cmp_total}
use Rattle.std.specs.FinMap.{nat_cmp-IsAntisymmetric, slice_cmp-IsAntisymmetric}
use Rattle.grid_types.proofs.key.key_order.Goals as goal

pub returns : goal.returns
returns c = record { total = nat_list_cmp_total; one = slice_cmp-IsAntisymmetric nat_cmp-IsAntisymmetric }
