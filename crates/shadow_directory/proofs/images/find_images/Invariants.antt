use Rattle.std.proofs.Common.{◌≡◌, length}
use Rattle.shadow_directory.specs.Images.{AreImages}
use Rattle.shadow_directory.proofs.images.find_images.Given as goal

abbrev pub invariant-loop-k : goal.invariant-loop-k
invariant-loop-k g l = record {
  long : length l.images ≡ 1000;
  found : AreImages l.old.intervals l.new.intervals l.attribute l.interval l.part l.k l.images;
}
