use Rattle.std.proofs.Common.{◌≡◌, take}
use Rattle.grid_shell.specs.Statuses.{greatest_status}
use Rattle.grid_shell.specs.Endings.{status_of, IsOfLines}
use Rattle.grid_shell.proofs.ending.Ending.worst.Given as goal

abbrev pub invariant-loop-reply : goal.invariant-loop-reply
invariant-loop-reply g l = record {
  greatest : status_of l.worst ≡ greatest_status (take l.reply-index l.replies);
  line : IsOfLines l.worst;
}
