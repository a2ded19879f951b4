use Rattle.std.proofs.Common.{◌≡◌, ◌∙◌, ◌+◌, ◌*◌, sym, ap, arith}
use Rattle.grid_gen.specs.Draws.{nth_draw}
use Rattle.grid_gen.proofs.Drawing.{nth_draw-0, nth_draw-then}
use Rattle.grid_gen.proofs.Rounds.{first_rounds, first_rounds-all, first_rounds-more}
use Rattle.grid_gen.proofs.generator.generate.Goals as goal

pub loop-round-init : goal.loop-round-init
loop-round-init g c =
    let none : 0 ≡ 0 * c.args.clients * (g.row.K + 2) = omega arith in
    record {
      last = sym (nth_draw-0 c.args.seed) ∙ ap (nth_draw c.args.seed) none;
      so_far = c.new-list.ensures.items;
    }

pub loop-round-preserved : goal.loop-round-preserved
loop-round-preserved g c =
    let clients = c.args.clients in
    let n = c.loop-round._round in
    record {
      last = nth_draw-then c.args.seed (n * clients * (g.row.K + 2)) (clients * (g.row.K + 2)) ((n + 1) * clients * (g.row.K + 2)) c.loop-round.draws.last c.add_round.new.draws.last (omega arith) c.loop-round.invariant.last c.in_ok-add_round.ensures.last;
      so_far = first_rounds-more g.row.K c.args.seed clients n c.loop-round.draws.last c.loop-round.list.items c.add_round.new.list.items
          c.loop-round.invariant.so_far c.loop-round.invariant.last c.in_ok-add_round.ensures.lines;
    }

pub returns : goal.returns
returns g c =
    let all : c.loop-round._round ≡ c.args.rounds = omega (arith, c.loop-round.auto._round-end, c.loop-round-test.false) in
    c.of.ensures ∙ c.loop-round.invariant.so_far
    ∙ ap (first_rounds g.row.K c.args.seed c.args.clients) all
    ∙ first_rounds-all g.row.K c.args.seed c.args.rounds c.args.clients
