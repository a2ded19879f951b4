use Rattle.std.proofs.Common.{◌+◌, ◌*◌, ◌≤◌, arith, refl, subst, sym, length, slice_index, take}
use Rattle.std.proofs.lemmas.Bool.{false≢true}
use Rattle.directory_pages.specs.Spelling.{SpellsPart}
use Rattle.directory_pages.specs.Patching.{patched}
use Rattle.directory_pages.proofs.Patches.{patched_none, length-patched, named_more, others_more, cells_more}
use Rattle.directory_pages.proofs.patching.patch.Goals as goal

pub loop-i-init : goal.loop-i-init
loop-i-init c = record {
  long = c.told-page;
  named = λ i yes. absurd (false≢true yes);
  others = λ k out. refl;
  cells = λ part cells s few. subst (SpellsPart part c.args.page.now) (sym (patched_none c.args.bucket cells)) s;
}

pub loop-i-preserved : goal.loop-i-preserved
loop-i-preserved c =
    let is = c.args.indices.now in
    let n = c.loop-i.i-index in
    let x = c.args.bucket in
    let old = c.loop-i.page in
    let new = c.set_bucket.new.page in
    let inside = c.requires.inside n c.loop-i-test.true in
    let room : 96 + 4 * slice_index is n + 4 ≤ length old = omega (arith, inside, c.loop-i.invariant.long) in
    record {
      long = c.set_bucket.array_long;
      named = named_more is n x old new c.loop-i-test.true c.set_bucket.ensures.written room (omega arith) c.loop-i.invariant.named;
      others = others_more is n x c.args.page.now old new c.loop-i-test.true c.set_bucket.ensures.written room c.loop-i.invariant.others;
      cells = λ part cells s few.
          let low = few n c.loop-i-test.true in
          let before = patched (take n is) x cells in
          cells_more is n x part new cells c.loop-i-test.true low (c.set_bucket.ensures.cells part before (c.loop-i.invariant.cells part cells s few) (omega (arith, low, length-patched (take n is) x cells)));
    }
