-- Once a disk is synced, all that its data pages read as is on it for good.
use Rattle.std.proofs.Common.{ℕ, List, None, Some, sym, subst}
use Rattle.disk_trait.specs.declared.disk.Disk.{Ghosts}
use Rattle.disk_trait.specs.Calls.{IsSynced}
use Rattle.grid_model.proofs.Boxes.{some-not-none}
use Rattle.file_images.specs.Kept.{Kept}
use Rattle.file_images.specs.Shows.{HoldsPages, Shows}
use Rattle.file_images.specs.Meets.{Meets}
use Rattle.file_images.proofs.NewFile.{get_replicate}
use Rattle.file_redo.specs.Redoing.{settled_kept}
use Rattle.file_redo.proofs.Reading.{read-held}

settled-shows : {K : ℕ} (k : Kept K) (image : List ℕ) → HoldsPages k.shape k.fresh image → Shows k image → Shows (settled_kept k) image
settled-shows k image now was = record {
  sizes = record { two = was.sizes.two; first = was.sizes.first; second = was.sizes.second };
  shape = was.shape;
  roots = was.roots;
  pages = read-held k.shape k.fresh k.always image now was.pages;
  formed = was.formed;
  slots = was.slots;
  unused = λ h i is. was.unused h i (record { two = is.two; inside = is.inside; behind = is.behind; apart = is.apart });
  next = was.next;
}

pub synced-meets : {K : ℕ} {D : Type 0} (g : Ghosts D) (k : Kept K) (d : D) → IsSynced g d → Meets g k d → Meets g (settled_kept k) d
synced-meets g k d synced was = record {
  crash = λ h image may. settled-shows k image (subst (HoldsPages k.shape k.fresh) (sym (synced.only h image may)) (was.fresh h)) (was.crash h image may);
  loose = was.loose;
  fresh = λ h p bytes at. absurd (some-not-none bytes (get_replicate k.shape.pages None (Some bytes) p at));
  reads = was.reads;
  writes = was.writes;
  size = was.size;
}
