-- What the definitions of scales and cells promise.
use Rattle.std.specs.Prelude.{◌≡◌, ◌<◌, ◌≤◌, ◌+◌, ◌↔◌, ◌||◌, ◌==◌, ℕ, List, false, length, slice_get, slice_index, Some, Contains, IsTrue}
use Rattle.grid_types.specs.declared.region.Region.{Region}
use Rattle.grid_types.specs.Regions.{contains}
use Rattle.grid_types.specs.Keys.{top}
use Rattle.grid_model.specs.Lists.{is_among}
use Rattle.grid_model.specs.Scales.{scale_of, is_scale, interval, low, high, is_drawn, refined, refined_at}
use Rattle.grid_model.specs.Cells.{dims, cells, cell_of, cell_index, all_cells, cells_of, image_of}

-- a scale parts the numbers into intervals: an interval's bounds contain a number exactly where it is the number's interval; a fresh boundary makes a scale again, which cuts one interval in two and keeps all ends
pub record PartsNumbers : Type 0 where
  pub bounds : (scale : List ℕ) (v i : ℕ) → IsTrue (is_scale scale) → v ≤ top → i ≤ length scale → ((low scale i ≤ v) × (v ≤ high scale i)) ↔ (interval scale v ≡ i)
  pub few : (scale : List ℕ) (v : ℕ) → interval scale v ≤ length scale
  pub scale : (scale : List ℕ) (v : ℕ) → IsTrue (is_scale scale) → is_among scale v ≡ false → 1 ≤ v → v ≤ top → IsTrue (is_scale (refined scale v))
  pub longer : (scale : List ℕ) (v : ℕ) → IsTrue (is_scale scale) → is_among scale v ≡ false → length (refined scale v) ≡ length scale + 1
  pub has : (scale : List ℕ) (v b : ℕ) → IsTrue (is_scale scale) → IsTrue (is_among (refined scale v) b) ↔ IsTrue (is_among scale b || (v == b))
  pub above : (scale : List ℕ) (v x : ℕ) → IsTrue (is_scale scale) → is_among scale v ≡ false → v ≤ x → interval (refined scale v) x ≡ interval scale x + 1
  pub below : (scale : List ℕ) (v x : ℕ) → IsTrue (is_scale scale) → is_among scale v ≡ false → x < v → interval (refined scale v) x ≡ interval scale x
  pub drawn : (scale : List ℕ) (v lo hi : ℕ) → IsTrue (is_scale scale) → IsTrue (is_drawn scale lo hi) → IsTrue (is_drawn (refined scale v) lo hi)

-- a cell of a directory has an interval of each attribute
pub record IsCell (ns cell : List ℕ) : Type 0 where
  pub count : length cell ≡ length ns
  pub each : (a : ℕ) → a < length ns → slice_index cell a < slice_index ns a

-- cells have indices: the cell at an index is the one whose index it is, and each index below the number of cells is one; a key's cell is among those of a region that has the key; and the cell of a key in a refined directory has the key's old cell as its image
pub record HaveIndices (K : ℕ) : Type 0 where
  pub count : (scales : List (List ℕ)) → length (all_cells scales) ≡ cells scales
  pub cell_there : (scales : List (List ℕ)) (cell : List ℕ) → IsCell (dims scales) cell → slice_get (all_cells scales) (cell_index (dims scales) cell) ≡ Some cell
  pub index_of : (scales : List (List ℕ)) (i : ℕ) (cell : List ℕ) → slice_get (all_cells scales) i ≡ Some cell → IsCell (dims scales) cell × (cell_index (dims scales) cell ≡ i)
  pub key : (scales : List (List ℕ)) (k : List ℕ) → length k ≡ length scales → IsCell (dims scales) (cell_of scales k)
  pub region : (scales : List (List ℕ)) (r : Region K) (k : List ℕ) → length k ≡ length scales → IsTrue (contains r k) → Contains (cells_of scales r) (cell_of scales k)
  pub image : (scales : List (List ℕ)) (k : List ℕ) (a v : ℕ) → length k ≡ length scales → a < length scales → IsTrue (is_scale (scale_of scales a)) → is_among (scale_of scales a) v ≡ false
      → image_of (cell_of (refined_at scales a v) k) a (interval (scale_of scales a) v) ≡ cell_of scales k
