use Rattle.std.proofs.Common.{refl}
use Rattle.file_images.specs.Kept.{Counting, Barred}
use Rattle.file_images.proofs.Histories.{leads_shut, leads_barred, leads_placed}
use Rattle.file_images.proofs.kept_laws.doubt_law.Goals as goal

pub returns : goal.returns
returns g c = record {
  counts = λ k d m w x two is some along. leads_placed k w m x along d is two Counting some refl;
  barred = λ k d m w x two is along. leads_barred k w m x along d is two Barred refl;
  gone = λ k m w x along. leads_shut k w m x along;
}
