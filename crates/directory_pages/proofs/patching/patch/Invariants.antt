use Rattle.std.proofs.Common.{◌≡◌, ℕ, List, length, take, slice_index}
use Rattle.std.specs.Prelude.{IsTrue}
use Rattle.grid_model.specs.Lists.{is_among}
use Rattle.directory_pages.specs.Spelling.{SpellsPart, bucket_in}
use Rattle.directory_pages.specs.Patching.{AreCells, IsBesideCells, patched}
use Rattle.directory_pages.proofs.patching.patch.Given as goal

abbrev pub invariant-loop-i : goal.invariant-loop-i
invariant-loop-i l = record {
  long : length l.page ≡ 4096;
  named : (i : ℕ) → IsTrue (is_among (take l.i-index l.indices) i) → bucket_in i l.page ≡ l.bucket;
  others : (k : ℕ) → IsBesideCells (take l.i-index l.indices) k → slice_index l.page k ≡ slice_index l.initial.page k;
  cells : (part : ℕ) (cells : List ℕ) → SpellsPart part l.initial.page cells → AreCells (length cells) l.indices → SpellsPart part l.page (patched (take l.i-index l.indices) l.bucket cells);
}
