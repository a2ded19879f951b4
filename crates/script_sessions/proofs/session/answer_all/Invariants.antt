use Rattle.std.proofs.Common.{◌≡◌, ◌≤◌, take}
use Rattle.std.specs.Vec.{vec_len, vec_capacity}
use Rattle.script_sessions.specs.Sessions.{RepliesToAll}
use Rattle.script_sessions.proofs.session.answer_all.Given as goal

abbrev pub invariant-loop-line : goal.invariant-loop-line
invariant-loop-line g l = record {
  len : vec_len l.replies ≡ l.line-index;
  room : vec_capacity l.initial.replies ≤ vec_capacity l.replies;
  so_far : RepliesToAll {K = g.row.K} {D = g.row.D.Denot} g.D.Disk (take l.line-index l.lines) l.replies.items l.initial.store l.store;
}
