use Rattle.std.proofs.Common.{◌≡◌, ◌+◌, ◌++◌, ◌∷◌, [], ◌<◌, ◌≤◌, ◌∙◌, List, length, take, refl, sym, ap, subst, arith}
use Rattle.std.proofs.lemmas.List.{take_all, take_more}
use Rattle.grid_types.specs.declared.request.Line.{Line}
use Rattle.script_sessions.specs.Sessions.{RepliesTo, RepliesToAll}
use Rattle.script_sessions.proofs.Following.{more-replied, none-replied}
use Rattle.script_sessions.proofs.session.answer_all.Goals as goal

pub loop-line-init : goal.loop-line-init
loop-line-init g c = record {
  len = c.requires.none;
  room = omega arith;
  so_far = none-replied {K = g.row.K} {D = g.row.D.Denot} g.D.Disk c.store_law.ensures c.args.store.now (take 0 c.args.lines.now) c.args.replies.now.items refl c.requires.empty (λ k h left. g.met.D.Disk.only_now c.args.store.now.file.disk k h left);
}

pub loop-line-preserved : goal.loop-line-preserved
loop-line-preserved g c =
    let inv = c.loop-line.invariant in
    let e = c.answer_line-reply.ensures in
    let line = c.line-item.result in
    let lt : c.loop-line.line-index < length c.args.lines.now = omega arith in
    let taken : take c.loop-line.line-index c.args.lines.now ++ line ∷ [] ≡ take (c.loop-line.line-index + 1) c.args.lines.now =
    ap (λ (l : Line g.row.K). take c.loop-line.line-index c.args.lines.now ++ l ∷ []) c.line-item.is ∙ sym (take_more c.args.lines.now c.loop-line.line-index line lt) in
    let next : RepliesTo {K = g.row.K} {D = g.row.D.Denot} g.D.Disk line.request c.answer_line-reply.result c.loop-line.store c.answer_line-reply.new.store =
    record { answers = e.answers; lone = e.lone; kind = e.kind; shape = e.shape; changes = e.changes; fault = e.fault } in
    record {
      len = omega (arith, c.in-Ok.ensures.len, inv.len);
      room = omega (arith, c.in-Ok.ensures.capacity, inv.room);
      so_far = more-replied {K = g.row.K} {D = g.row.D.Denot} g.D.Disk c.session_law.ensures (take c.loop-line.line-index c.args.lines.now) c.loop-line.replies.items line c.answer_line-reply.result
          c.args.store.now c.loop-line.store c.answer_line-reply.new.store inv.so_far next (take (c.loop-line.line-index + 1) c.args.lines.now) c.push.new.self.items (sym taken) c.in-Ok.ensures.items;
    }

pub returns : goal.returns
returns g c =
    let le : length c.args.lines.now ≤ c.loop-line.line-index = omega (arith, c.loop-line-test.false) in
    let all = subst (λ (ls : List (Line g.row.K)). RepliesToAll {K = g.row.K} {D = g.row.D.Denot} g.D.Disk ls c.loop-line.replies.items c.args.store.now c.loop-line.store) (take_all c.loop-line.line-index c.args.lines.now le) c.loop-line.invariant.so_far in
    record { runs = all.runs; lone = all.lone; kinds = all.kinds; shape = all.shape; changes = all.changes; faults = all.faults }
