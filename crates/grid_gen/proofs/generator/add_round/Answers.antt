use Rattle.std.proofs.Common.{◌≡◌, ◌∙◌, ◌+◌, ◌*◌, ◌++◌, sym, ap, arith}
use Rattle.std.proofs.lemmas.List.{append-nil}
use Rattle.grid_gen.specs.Draws.{nth_draw}
use Rattle.grid_gen.proofs.Drawing.{nth_draw-0, nth_draw-then}
use Rattle.grid_gen.proofs.Rounds.{first_lines, first_lines-all, first_lines-more}
use Rattle.grid_gen.proofs.generator.add_round.Goals as goal

pub loop-c-init : goal.loop-c-init
loop-c-init g c =
    let none : 0 ≡ 0 * (g.row.K + 2) = omega arith in
    record {
      last = sym (nth_draw-0 c.args.draws.now.last) ∙ ap (nth_draw c.args.draws.now.last) none;
      so_far = sym (append-nil c.args.list.now.items);
    }

pub loop-c-preserved : goal.loop-c-preserved
loop-c-preserved g c =
    let seed = c.args.draws.now.last in
    let n = c.loop-c.c in
    record {
      last = nth_draw-then seed (n * (g.row.K + 2)) (g.row.K + 2) ((n + 1) * (g.row.K + 2)) c.loop-c.draws.last c.draw_line.new.draws.last (omega arith) c.loop-c.invariant.last c.draw_line.ensures.last;
      so_far = first_lines-more g.row.K seed c.args.clients n c.loop-c.draws.last c.args.list.now.items c.loop-c.list.items c.push.new.self.items c.draw_line.result
          c.loop-c.invariant.so_far c.loop-c.invariant.last c.draw_line.ensures.line c.in_ok-push.ensures.items;
    }

pub returns-clause-lines : goal.returns-clause-lines
returns-clause-lines g c =
    let seed = c.args.draws.now.last in
    let all : c.loop-c.c ≡ c.args.clients = omega (arith, c.loop-c.auto.c-end, c.loop-c-test.false) in
    c.loop-c.invariant.so_far
    ∙ ap (λ n. c.args.list.now.items ++ first_lines g.row.K seed c.args.clients n) all
    ∙ ap (λ lines. c.args.list.now.items ++ lines) (first_lines-all g.row.K seed c.args.clients)
