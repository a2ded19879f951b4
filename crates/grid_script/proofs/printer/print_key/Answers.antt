use Rattle.std.proofs.Common.{arith}
use Rattle.grid_script.proofs.KeyPrints.{key_step}
use Rattle.grid_script.proofs.printer.print_key.Goals as goal

pub loop-a-preserved : goal.loop-a-preserved
loop-a-preserved g c =
    let before = c.before-in-loop-a.ensures in
    record {
      printed = key_step c.args.out.now.items c.print_numbered.new.out.items c.loop-a.out.items c.numbers-numbers.result.now c.before-in-loop-a.result.now c.loop-a.a c.loop-a-test.true
          (record { first = before.first; later = before.later }) c.loop-a.invariant.printed c.print_numbered.ensures.items;
      short = omega (arith, c.print_numbered.ensures.len, before.short);
    }
