use Rattle.std.proofs.Common.{◌≡◌, ◌<◌, ◌+◌, ◌*◌, ℕ, length, slice_index}
use Rattle.grid_types.specs.declared.sizes.TheConstants.{WORDS_ON_PAGE}
use Rattle.directory_pages.specs.Spelling.{bucket_in}
use Rattle.grid_check.proofs.parts.take_part.Given as goal

abbrev pub invariant-loop-i : goal.invariant-loop-i
invariant-loop-i l = record {
  count : length l.names ≡ length l.initial.names;
  before : (at : ℕ) → at < WORDS_ON_PAGE * l.part → slice_index l.names at ≡ slice_index l.initial.names at;
  taken : (i : ℕ) → i < l.i → slice_index l.names (WORDS_ON_PAGE * l.part + i) ≡ bucket_in i l.page;
}
