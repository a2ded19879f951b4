-- The scales of a file make a directory of at most a million cells.
use Rattle.std.proofs.Common.{ℕ, List, [], arith, IsTrue}
use Rattle.std.proofs.lemmas.List.{length-map, get_or-map}
use Rattle.grid_types.specs.declared.shape.Shape.{Shape}
use Rattle.grid_types.specs.Shapes.{is_shape}
use Rattle.grid_types.proofs.Places.{within-limits}
use Rattle.grid_model.specs.Scales.{intervals}
use Rattle.grid_model.specs.Cells.{dims}
use Rattle.grid_cells.specs.Dims.{IsDims}
use Rattle.file_books.specs.Books.{AreScalesOf}

pub are-dims : (K : ℕ) (shape : Shape) (scales : List (List ℕ)) → IsTrue (is_shape shape) → AreScalesOf K shape scales → IsDims (dims scales)
are-dims K shape scales lawful s = record {
  each = λ a p. omega (arith, get_or-map intervals scales a [] 0 (omega (arith, p, length-map scales intervals)));
  few = omega (arith, s.few_cells, (within-limits shape lawful).few_cells);
}
