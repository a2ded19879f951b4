use Rattle.std.proofs.Common.{◌≡◌, ◌∙◌, ◌+◌, Ok, length, sym, arith}
use Rattle.std.proofs.lemmas.Result.{on_ok_weaker}
use Rattle.grid_model.specs.Text.{front_line}
use Rattle.disk_trait.specs.declared.sink.SinkFailed.{SinkFailed}
use Rattle.grid_shell.specs.Printing.{Passes, session_text}
use Rattle.grid_shell.proofs.Adding.{adds_next, passes_more, passes_on}
use Rattle.grid_shell.proofs.Lines.{text_to, all_text, passes_reply, adds_text}
use Rattle.grid_shell.proofs.printing.print_all.Goals as goal
use Rattle.grid_shell.proofs.printing.print_all.Goals.{After-put_all}

pub loop-reply-preserved : goal.loop-reply-preserved
loop-reply-preserved g c = passes_on _ _ _ c.args.out.now c.loop-reply.out c.print_reply.new.out (Ok tt) (passes_reply c.args.replies.now c.loop-reply.reply-index c.reply-item.result (omega arith) c.reply-item.is c.loop-reply.lines.items c.args.out.now c.loop-reply.out c.loop-reply.invariant) c.in_ok-print_reply.ensures

pub returns-in_err-print_reply-clause-front : goal.returns-in_err-print_reply-clause-front
returns-in_err-print_reply-clause-front g c = λ h.
    let state = passes_on _ _ _ c.args.out.now c.loop-reply.out c.print_reply.new.out _ (passes_reply c.args.replies.now c.loop-reply.reply-index c.reply-item.result (omega arith) c.reply-item.is c.loop-reply.lines.items c.args.out.now c.loop-reply.out c.loop-reply.invariant) c.in_err-print_reply.ensures in
    adds_text c.args.replies.now (c.loop-reply.reply-index + 1) c.args.front _ _ (state.front h)

pub returns-in_err-make_room-clause-front : goal.returns-in_err-make_room-clause-front
returns-in_err-make_room-clause-front g c = λ h.
    let state = passes_on _ _ _ c.args.out.now c.loop-reply.out c.make_room.new.out _ c.loop-reply.invariant c.in_err-make_room.ensures.passes in
    adds_text c.args.replies.now c.loop-reply.reply-index c.args.front _ _ (state.front h)

-- all replies and the front have passed into sink and buffer
whole_text : (g : _) (c : After-put_all g) → Passes {E = SinkFailed} g.O.Sink (session_text c.args.replies.now c.args.front) c.as_slice.result.now c.args.out.now c.make_room.new.out (Ok tt)
whole_text g c =
    let n = c.loop-reply.reply-index in
    let end : length c.args.replies.now ≡ n = omega (arith, c.loop-reply-test.false, c.loop-reply.auto.reply-index-end) in
    passes_more (text_to c.args.replies.now n) c.make_room.new.lines.items c.as_slice.result.now (front_line c.args.front) (session_text c.args.replies.now c.args.front) c.args.out.now c.make_room.new.out
    (passes_on _ _ _ c.args.out.now c.loop-reply.out c.make_room.new.out (Ok tt) c.loop-reply.invariant c.in_ok-make_room.ensures.passes)
    (c.as_slice.ensures.value ∙ c.add_front.ensures.line) (sym (all_text c.args.replies.now n c.args.front end))

pub returns-clause-printed : goal.returns-clause-printed
returns-clause-printed g c = λ h. on_ok_weaker c.put_all.result (λ added. added ∙ (whole_text g c).kept h) (c.put_all.ensures.added ((whole_text g c).tells ∙ h))

pub returns-clause-front : goal.returns-clause-front
returns-clause-front g c = λ h. adds_next _ _ _ _ _ ((whole_text g c).front h) ((whole_text g c).kept h) (c.put_all.ensures.front ((whole_text g c).tells ∙ h))
