use Rattle.std.proofs.Common.{◌∙◌, ◌<◌, ◌+◌, ap, sym, arith}
use Rattle.grid_types.specs.Shapes.{word_pages}
use Rattle.grid_model.specs.Lists.{product}
use Rattle.shadow_directory.specs.Images.{needs, parts_needed}
use Rattle.shadow_directory.specs.Reads.{readings, last_held}
use Rattle.shadow_directory.proofs.Keeping.{reads-on, reads-self, reads-failed, reads-behind}
use Rattle.shadow_directory.proofs.Needed.{needed-all, next-needed, none-needed}
use Rattle.shadow_directory.proofs.Onward.{onward}
use Rattle.shadow_directory.proofs.Read.{read-next, ticks-done, ticks-failed}
use Rattle.shadow_directory.proofs.Patched.{gathered-more}
use Rattle.shadow_directory.proofs.growing.gather.Goals as goal

pub returns-in_err-hold-clause-reads : goal.returns-in_err-hold-clause-reads
returns-in_err-hold-clause-reads g c =
    let ns = c.args.dims.now.intervals in
    reads-behind g.met.P.ChangePages.stays_on c.args.pages.now c.loop-part.pages c.hold.new.pages ns c.hold.new.page c.from_residual.result c.loop-part.invariant.reads
    (reads-failed c.loop-part.pages c.hold.new.pages ns c.hold.new.page c.from_residual.result _ c.from_residual.ensures.1 c.in_err-hold.ensures.reads)

pub returns-in_err-hold-clause-ticks : goal.returns-in_err-hold-clause-ticks
returns-in_err-hold-clause-ticks g c =
    let N = word_pages (product c.args.dims.now.intervals) in
    let was = c.loop-part.invariant in
    let needed = c.in-Some.ensures in
    let inside : c.in-Some.part < N = omega (arith, needed.needed, c.requires.images needed.place needed.inside) in
    let step = next-needed c.args.images.now c.args.count c.loop-part.from c.in-Some.part N (omega (arith, c.requires.count, c.told-images)) inside needed in
    let rest = onward (needs c.args.images.now c.args.count) (c.in-Some.part + 1) N in
    let ticks = c.in_err-hold.ensures.ticks in
    ticks-failed (readings c.args.held.now (parts_needed c.args.images.now c.args.count N)) c.args.steps.now c.hold.new.steps c.from_residual.result _ c.from_residual.ensures.1
    (omega (arith, was.least, ticks.least))
    (omega (arith, was.turn, ticks.most, ap (readings c.loop-part.held) step, read-next c.loop-part.held c.in-Some.part rest))

pub loop-part-init : goal.loop-part-init
loop-part-init g c =
    let N = word_pages (product c.args.dims.now.intervals) in
    let all = needed-all c.args.images.now c.args.count N in
    record {
      reads = reads-self g.met.P.ChangePages.stays_self c.args.pages.now;
      held = c.requires.held;
      long = c.told-buckets;
      gathered = λ D tells k lt low. absurd (omega (arith, low));
      least = omega arith;
      turn = ap (λ ps. c.args.steps.now + readings c.args.held.now ps) all;
      last = ap (last_held c.args.held.now) all;
    }

pub loop-part-preserved : goal.loop-part-preserved
loop-part-preserved g c =
    let was = c.loop-part.invariant in
    let held = c.in_ok-hold.ensures in
    let law = g.met.P.ChangePages.stays_on in
    let reads = reads-on law was.reads held.reads.same in
    let N = word_pages (product c.args.dims.now.intervals) in
    let needed = c.in-Some.ensures in
    let inside : c.in-Some.part < N = omega (arith, needed.needed, c.requires.images needed.place needed.inside) in
    let step = next-needed c.args.images.now c.args.count c.loop-part.from c.in-Some.part N (omega (arith, c.requires.count, c.told-images)) inside needed in
    let rest = onward (needs c.args.images.now c.args.count) (c.in-Some.part + 1) N in
    record {
      reads = reads;
      held = held.held;
      long = c.take_buckets.array_long;
      gathered = λ D tells.
          gathered-more c.args.dims.now.intervals D tells.given c.args.images.now c.args.count c.loop-part.from c.in-Some.part c.hold.new.page c.loop-part.buckets c.take_buckets.new.buckets tells.spell c.requires.images c.in-Some.ensures (omega arith)
          (held.held.told c.in-Some.part tells.given held.there (reads.keeps.told ∙ tells.told)) c.take_buckets.ensures.taken c.take_buckets.ensures.others (was.gathered D tells);
      least = omega (arith, was.least, held.ticks.least);
      turn = omega (arith, was.turn, held.ticks.all, ap (readings c.loop-part.held) step, read-next c.loop-part.held c.in-Some.part rest, ap (λ h. readings h rest) held.there);
      last = ap (λ h. last_held h rest) held.there ∙ sym (ap (last_held c.loop-part.held) step) ∙ was.last;
    }

pub returns-clause-last : goal.returns-clause-last
returns-clause-last g c =
    let N = word_pages (product c.args.dims.now.intervals) in
    sym (ap (last_held c.loop-part.held) (none-needed c.args.images.now c.args.count c.loop-part.from N c.in_default.ensures)) ∙ c.loop-part.invariant.last

pub returns-clause-ticks : goal.returns-clause-ticks
returns-clause-ticks g c =
    let N = word_pages (product c.args.dims.now.intervals) in
    let none = none-needed c.args.images.now c.args.count c.loop-part.from N c.in_default.ensures in
    ticks-done (readings c.args.held.now (parts_needed c.args.images.now c.args.count N)) c.args.steps.now c.loop-part.steps _
    (omega (arith, c.loop-part.invariant.turn, ap (readings c.loop-part.held) none))
