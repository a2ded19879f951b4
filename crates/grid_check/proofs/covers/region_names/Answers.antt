use Rattle.std.proofs.Common.{List, sym, subst, arith}
use Rattle.grid_model.specs.ScaleLaws.{IsCell}
use Rattle.grid_check.proofs.covers.region_names.Goals as goal

pub all_name-requires : goal.all_name-requires
all_name-requires g c =
    let e = c.cells_of.ensures in
    let box = c.cells_of.result in
    let few = c.requires.few in (
      omega (arith, few),
      (
        omega (arith, few),
        (
          c.requires.count,
          (few, (subst (λ (ns : List _). IsCell ns box.hi) (sym c.requires.dims) e.highest, (subst (λ (ns : List _). IsCell ns box.lo) (sym c.requires.dims) e.lowest, e.some c.requires.lawful))),
        ),
      ),
    )
