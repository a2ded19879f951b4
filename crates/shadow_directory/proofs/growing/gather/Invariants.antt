use Rattle.std.proofs.Common.{◌≡◌, ◌≤◌, ◌+◌, ◌-◌, ℕ, List, length}
use Rattle.grid_types.specs.Shapes.{word_pages}
use Rattle.grid_model.specs.Lists.{product}
use Rattle.shadow_directory.specs.Calls.{OnlyReads, Tells, Holds}
use Rattle.shadow_directory.specs.Images.{needs, parts_needed}
use Rattle.shadow_directory.specs.Reads.{readings, last_held}
use Rattle.shadow_directory.proofs.Onward.{onward}
use Rattle.shadow_directory.proofs.Patched.{AreGathered}
use Rattle.shadow_directory.proofs.growing.gather.Given as goal

abbrev pub invariant-loop-part : goal.invariant-loop-part
invariant-loop-part g l = record {
  reads : OnlyReads g.P.ChangePages l.initial.pages l.pages;
  held : Holds g.P.ChangePages l.dims.intervals l.pages l.held l.page;
  long : length l.buckets ≡ 1000;
  gathered : (D : List ℕ) → Tells g.P.ChangePages l.initial.pages l.dims.intervals D → AreGathered D l.images l.count l.from l.buckets;
  least : l.initial.steps ≤ l.steps;
  turn : l.steps + readings l.held (onward (needs l.images l.count) l.from (word_pages (product l.dims.intervals))) ≡ l.initial.steps + readings l.initial.held (parts_needed l.images l.count (word_pages (product l.dims.intervals)));
  last : last_held l.held (onward (needs l.images l.count) l.from (word_pages (product l.dims.intervals))) ≡ last_held l.initial.held (parts_needed l.images l.count (word_pages (product l.dims.intervals)));
}

abbrev pub decreases-loop-part : goal.decreases-loop-part
decreases-loop-part g l = 1001 - l.from
