use Rattle.std.proofs.Common.{◌≡◌, ◌∙◌, ◌+◌, ap, arith}
use Rattle.grid_gen.specs.Draws.{nth_draw}
use Rattle.grid_gen.proofs.Drawing.{line-drawn, number-drawn}
use Rattle.grid_gen.proofs.lines.draw_line.Goals as goal

pub returns-clause-line : goal.returns-clause-line
returns-clause-line g c =
    line-drawn g.row.K c.args.draws.now.last c.args.client c.next-kind.result c.next-kind.new.self.last c.draw_key-key.new.draws.last c.next-number.result c.draw_key-key.result c.request_of-request.result
    c.next-kind.ensures.value c.next-kind.ensures.last c.draw_key-key.ensures.key c.draw_key-key.ensures.last c.next-number.ensures.value c.request_of-request.ensures

pub returns-clause-last : goal.returns-clause-last
returns-clause-last g c =
    let place : 2 + g.row.K ≡ g.row.K + 2 = omega arith in
    c.next-number.ensures.last
    ∙ number-drawn g.row.K c.args.draws.now.last c.next-kind.result c.next-kind.new.self.last c.draw_key-key.new.draws.last c.next-number.result
    c.next-kind.ensures.value c.next-kind.ensures.last c.draw_key-key.ensures.last c.next-number.ensures.value
    ∙ ap (nth_draw c.args.draws.now.last) place
