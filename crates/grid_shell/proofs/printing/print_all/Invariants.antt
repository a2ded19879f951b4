use Rattle.std.proofs.Common.{Ok}
use Rattle.disk_trait.specs.declared.sink.SinkFailed.{SinkFailed}
use Rattle.grid_shell.specs.Printing.{Passes}
use Rattle.grid_shell.proofs.Lines.{text_to}
use Rattle.grid_shell.proofs.printing.print_all.Given as goal

abbrev pub invariant-loop-reply : goal.invariant-loop-reply
invariant-loop-reply g l = Passes {E = SinkFailed} g.O.Sink (text_to l.replies l.reply-index) l.lines.items l.initial.out l.out (Ok tt)
