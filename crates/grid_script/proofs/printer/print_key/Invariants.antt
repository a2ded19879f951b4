use Rattle.std.proofs.Common.{◌≡◌, ◌≤◌, ◌+◌, ◌*◌, ◌++◌, length, take}
use Rattle.grid_model.specs.Text.{key_text}
use Rattle.grid_script.proofs.printer.print_key.Given as goal

abbrev pub invariant-loop-a : goal.invariant-loop-a
invariant-loop-a g l = record {
  printed : l.out.items ≡ l.initial.out.items ++ key_text (take l.a l.numbers);
  short : length l.out.items ≤ length l.initial.out.items + 21 * l.a;
}
