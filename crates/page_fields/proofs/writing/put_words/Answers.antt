use Rattle.std.proofs.Common.{◌*◌, refl, arith}
use Rattle.page_fields.proofs.Series.{none-written, next-written, all-written, front-written}
use Rattle.page_fields.proofs.writing.put_words.Goals as goal

pub loop-i-init : goal.loop-i-init
loop-i-init c = none-written 4 c.args.at c.args.words.now c.args.page.now

pub loop-i-preserved : goal.loop-i-preserved
loop-i-preserved c = next-written 4 c.args.at c.args.words.now c.args.page.now c.loop-i.i (4 * c.loop-i.i) c.loop-i.page _ c.loop-i-test.true (omega (arith, c.told-page)) refl c.loop-i.invariant c.set_u32.ensures.written

pub returns-clause-written : goal.returns-clause-written
returns-clause-written c = all-written 4 c.args.at c.args.words.now c.args.page.now c.loop-i.i c.loop-i.page (omega (arith, c.loop-i-test.false)) c.loop-i.invariant

pub returns-clause-front : goal.returns-clause-front
returns-clause-front c = front-written 4 c.args.at c.args.words.now c.args.page.now _ (omega (arith, c.told-page)) (returns-clause-written c)
