use Rattle.std.proofs.Common.{◌≡◌, ◌++◌, ◌∷◌, [], Ok, map, slice_index_or}
use Rattle.grid_model.specs.Text.{reply_lines, row_text}
use Rattle.disk_trait.specs.declared.sink.SinkFailed.{SinkFailed}
use Rattle.grid_shell.specs.Printing.{Passes}
use Rattle.grid_shell.proofs.Lines.{rows_to}
use Rattle.grid_shell.proofs.printing.print_reply.Given as goal

abbrev pub invariant-loop-row : goal.invariant-loop-row
invariant-loop-row g l = record {
  rows : reply_lines l.reply ≡ slice_index_or (reply_lines l.reply) 0 [] ∷ map row_text l.row-items;
  so_far : Passes {E = SinkFailed} g.O.Sink (l.fn.lines.items ++ rows_to (slice_index_or (reply_lines l.reply) 0 []) l.row-items l.row-index) l.lines.items l.fn.out l.out (Ok tt);
}
