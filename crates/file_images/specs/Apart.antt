-- Pages of a file of which nothing is kept.
use Rattle.std.specs.Prelude.{◌≡◌, ◌≢◌, ◌<◌, ◌≤◌, ℕ, List, slice_get, Some}
use Rattle.grid_types.specs.Shapes.{area_pages, slot_page, data_page}
use Rattle.grid_types.specs.Shapes as places
use Rattle.grid_types.specs.Ranges.{own_page}
use Rattle.grid_model.specs.Spellings.{LoggedBatch}
use Rattle.grid_model.specs.Roots.{WholeRoot}
use Rattle.file_images.specs.Kept.{PlacedBatch, MayBeNewest, InDoubt, Kept, on_half, used}

-- a page is none of those of which something is kept: no header page, none of the table area of a root that may be the newest, no data page that always holds something, no gate page, and no slot with a batch, also one in doubt
pub record IsFreePage {K : ℕ} (k : Kept K) (q : ℕ) : Type 0 where
  pub headers : 2 ≤ q
  pub areas : (w : WholeRoot) (i : ℕ) → MayBeNewest k w → i < area_pages k.shape → own_page k.shape w.fields.number i ≢ q
  pub pages : (p : ℕ) (bytes : List ℕ) → slice_get k.always p ≡ Some (Some bytes) → data_page k.shape p ≢ q
  pub gates : (h : ℕ) → h < 2 → places.gate_page k.shape h ≢ q
  pub slots : (h i : ℕ) (p : PlacedBatch K) → h < 2 → slice_get (on_half k h) i ≡ Some p → slot_page k.shape h i ≢ q
  pub doubt : (b : LoggedBatch K) → k.next ≡ InDoubt b → used k k.half < k.shape.slots → slot_page k.shape k.half (used k k.half) ≢ q
