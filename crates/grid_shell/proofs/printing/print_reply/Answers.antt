use Rattle.std.proofs.Common.{◌≡◌, ◌∙◌, ◌+◌, ◌++◌, [], List, ℕ, Ok, length, drop, slice_index_or, refl, sym, ap, subst, append_assoc, arith}
use Rattle.std.specs.List.{flat_map}
use Rattle.grid_model.specs.Text.{reply_lines}
use Rattle.disk_trait.specs.declared.sink.SinkFailed.{SinkFailed}
use Rattle.grid_shell.specs.Printing.{Passes}
use Rattle.grid_shell.proofs.Adding.{passes_more, passes_on, passes_failed}
use Rattle.grid_shell.proofs.Lines.{reply_text, row_line, rows_to, rows_none, rows_more, rows_all, rows_rest}
use Rattle.grid_shell.proofs.printing.print_reply.Goals as goal

pub returns-in_err-make_room : goal.returns-in_err-make_room
returns-in_err-make_room g c = passes_failed c.args.lines.now.items (reply_text c.args.reply.now) _ _ _ c.args.out.now c.make_room.new.out _ c.from_residual.result c.in_err-make_room.ensures.passes refl c.from_residual.ensures.0

pub loop-row-init : goal.loop-row-init
loop-row-init g c =
    let first = slice_index_or (reply_lines c.args.reply.now) 0 [] in
    let rows = c.rows_of-row-items.result.now in
    record {
      rows = c.rows_of-row-items.ensures;
      so_far = passes_more c.args.lines.now.items c.make_room.new.lines.items c.add_first.new.out.items _ _ c.args.out.now c.make_room.new.out c.in_ok-make_room.ensures.passes c.add_first.ensures.line (ap (λ (t : List ℕ). c.args.lines.now.items ++ t) (rows_none first rows));
    }

pub returns-in_err-make_room-2 : goal.returns-in_err-make_room-2
returns-in_err-make_room-2 g c =
    let inv = c.loop-row.invariant in
    let first = slice_index_or (reply_lines c.args.reply.now) 0 [] in
    let rows = c.rows_of-row-items.result.now in
    let i = c.loop-row.row-index in
    passes_failed (c.args.lines.now.items ++ rows_to first rows i) (flat_map row_line (drop i rows)) (c.args.lines.now.items ++ reply_text c.args.reply.now) _ _ c.args.out.now c.make_room-in-loop-row.new.out _ c.from_residual-in_err-make_room-2.result
    (passes_on _ _ _ c.args.out.now c.loop-row.out c.make_room-in-loop-row.new.out _ inv.so_far c.in_err-make_room-2.ensures.passes)
    (rows_rest c.args.reply.now first rows inv.rows c.args.lines.now.items i) c.from_residual-in_err-make_room-2.ensures.0

pub loop-row-preserved : goal.loop-row-preserved
loop-row-preserved g c =
    let inv = c.loop-row.invariant in
    let first = slice_index_or (reply_lines c.args.reply.now) 0 [] in
    let rows = c.rows_of-row-items.result.now in
    let i = c.loop-row.row-index in
    let had = c.args.lines.now.items in
    let more = rows_more first rows i c.row-item.result (omega arith) in
    record {
      rows = inv.rows;
      so_far = passes_more _ _ c.add_row.new.out.items (row_line c.row-item.result) (had ++ rows_to first rows (i + 1)) c.args.out.now c.make_room-in-loop-row.new.out
          (passes_on _ _ _ c.args.out.now c.loop-row.out c.make_room-in-loop-row.new.out (Ok tt) inv.so_far c.in_ok-make_room-2.ensures.passes)
          c.add_row.ensures.line
          (ap (λ (t : List ℕ). had ++ t) (more ∙ ap (λ r. rows_to first rows i ++ row_line r) (sym c.row-item.is)) ∙ sym (append_assoc had (rows_to first rows i) (row_line c.row-item.result)));
    }

pub returns : goal.returns
returns g c =
    let inv = c.loop-row.invariant in
    let first = slice_index_or (reply_lines c.args.reply.now) 0 [] in
    let rows = c.rows_of-row-items.result.now in
    let end : length rows ≡ c.loop-row.row-index = omega (arith, c.loop-row-test.false, c.loop-row.auto.row-index-end) in
    subst (λ (t : List ℕ). Passes {E = SinkFailed} g.O.Sink (c.args.lines.now.items ++ t) c.loop-row.lines.items c.args.out.now c.loop-row.out (Ok tt)) (rows_all c.args.reply.now first rows inv.rows c.loop-row.row-index end) inv.so_far
