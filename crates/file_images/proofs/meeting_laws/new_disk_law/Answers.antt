use Rattle.std.proofs.Common.{subst, sym, arith}
use Rattle.std.specs.Prelude.{Some, None}
use Rattle.grid_model.proofs.Boxes.{some-not-none}
use Rattle.file_images.specs.Leads.{HasStanding}
use Rattle.file_images.specs.NewFiles.{new_kept, new_standing}
use Rattle.file_images.specs.Shows.{Shows}
use Rattle.file_images.proofs.NewFile.{get_replicate, new_shows, new_has_standing}
use Rattle.file_images.proofs.meeting_laws.new_disk_law.Goals as goal

pub returns : goal.returns
returns g c = record {
  meets = λ s d long synced is. record {
    crash = λ h image now. subst (Shows (new_kept g.row.K s)) (sym (synced.only h image now)) (new_shows g.row.K s (g.D.Disk.seen d) (is h));
    loose = λ h gate image now. tt;
    fresh = λ h p bytes at. absurd (some-not-none bytes (get_replicate s.pages None (Some bytes) p at));
    reads = omega arith;
    writes = omega arith;
    size = long;
  };
  stands = λ s d h synced is image now. subst (λ image. HasStanding image (new_standing g.row.K)) (sym (synced.only h image now)) (new_has_standing g.row.K s (g.D.Disk.seen d) is);
}
