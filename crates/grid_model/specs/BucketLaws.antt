-- What layouts promise of the buckets of their boxes.
use Rattle.std.specs.Prelude.{◌≡◌, ℕ, map, Some}
use Rattle.grid_types.specs.declared.shape.Shape.{Shape}
use Rattle.grid_model.specs.Tables.{Table}
use Rattle.grid_model.specs.Layouts.{BucketBox, Layout, box}
use Rattle.grid_model.specs.LayoutLaws.{StandsOver}
use Rattle.grid_model.specs.Buckets.{IsBucket}
use Rattle.grid_model.specs.Images.{bucket_on, AreRecordsOf}

-- a layout that is sound for a table divides it into buckets: the records of its boxes, put together, are the table, no key on two of them, and each box with its records is a lawful bucket
pub record DividesTable (K : ℕ) : Type 0 where
  pub together : (shape : Shape) (L : Layout K) (t : Table) → StandsOver shape L t → AreRecordsOf (map (bucket_on t) L.boxes) t
  pub lawful : (shape : Shape) (L : Layout K) (t : Table) (n : ℕ) (b : BucketBox K) → StandsOver shape L t → box L n ≡ Some b → IsBucket shape.capacity (bucket_on t (n, b))
