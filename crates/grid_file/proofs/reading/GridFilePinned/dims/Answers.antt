use Rattle.std.proofs.Common.{List, ℕ, sym, ap, subst, arith}
use Rattle.grid_types.proofs.Places.{within-limits}
use Rattle.grid_model.specs.Cells.{cells}
use Rattle.grid_cells.specs.Dims.{IsDims}
use Rattle.linear_scales.specs.Limited.{scales_of}
use Rattle.file_state.proofs.Rooms.{interval_there}
use Rattle.grid_file.proofs.reading.GridFilePinned.dims.Goals as goal

pub invariant_of-result : goal.invariant_of-result
invariant_of-result g c =
    let are = c.self.invariant.0.books_are in
    record {
      lawful = subst IsDims (sym c.dims.ensures) (record {
        each = interval_there (scales_of c.scales.result.now);
        few = omega (arith, are.scales.few_cells, (within-limits c.self.inside.state.shape are.lawful).few_cells, ap (λ (s : List (List ℕ)). cells s) c.scales.ensures.scales);
      });
    }
