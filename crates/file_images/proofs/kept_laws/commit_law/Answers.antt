use Rattle.file_images.proofs.Committing.{step_shows, committed_shows}
use Rattle.file_images.proofs.kept_laws.commit_law.Goals as goal

pub returns : goal.returns
returns g c = record {
  during = λ k b x y shut lt was step. step_shows k b shut lt x y was step;
  after = λ k b x y shut lt was a done. committed_shows k b shut lt x y was a done;
}
