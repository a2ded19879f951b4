use Rattle.std.proofs.Common.{◌≡◌, take, count_by}
use Rattle.grid_gen.specs.Generated.{is_put}
use Rattle.grid_gen.proofs.puts.count_puts.Given as goal

abbrev pub invariant-loop-line : goal.invariant-loop-line
invariant-loop-line g l = l.count ≡ count_by is_put (take l.line-index l.lines)
