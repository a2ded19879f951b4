use Rattle.std.proofs.Common.{◌≡◌, ◌∙◌, ◌+◌, ◌<◌, length, map, sym, ap, arith}
use Rattle.std.proofs.lemmas.List.{length-set, length-replicate, take_more_set}
use Rattle.grid_gen.specs.Draws.{nth_draw}
use Rattle.grid_gen.specs.Generated.{key_number}
use Rattle.grid_gen.proofs.Drawing.{nth_draw-0, nth_draw-behind, draws_from-0, key-more}
use Rattle.grid_gen.proofs.lines.draw_key.Goals as goal

pub loop-a-init : goal.loop-a-init
loop-a-init g c = record {
  count = length-replicate g.row.K 0;
  so_far = ap (map key_number) (sym (draws_from-0 c.args.draws.now.last 1));
  last = sym (nth_draw-0 c.args.draws.now.last);
}

pub loop-a-preserved : goal.loop-a-preserved
loop-a-preserved g c =
    let seed = c.args.draws.now.last in
    let a = c.loop-a.a in
    let numbers = c.loop-a.numbers in
    let number = c.from.result in
    let within : a < length numbers = omega (arith, c.loop-a.invariant.count, c.loop-a-test.true) in
    let next : c.next.result ≡ nth_draw seed (a + 1) = nth_draw-behind seed a (a + 1) c.loop-a.draws.last c.next.result (omega arith) c.loop-a.invariant.last c.next.ensures.value in
    record {
      count = length-set numbers a (key_number number) ∙ c.loop-a.invariant.count;
      so_far = key-more seed a number _ _ c.loop-a.invariant.so_far (take_more_set numbers a (key_number number) within) (c.from.ensures ∙ next);
      last = c.next.ensures.last ∙ next;
    }
