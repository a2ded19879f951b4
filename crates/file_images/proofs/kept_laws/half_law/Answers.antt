use Rattle.file_images.proofs.Clearing.{clearing_shows, cleared_shows}
use Rattle.file_images.proofs.Covering.{turned_shows}
use Rattle.file_images.proofs.kept_laws.half_law.Goals as goal

pub returns-clause-cleared : goal.returns-clause-cleared
returns-clause-cleared g c = record {
  during = λ k h x y was two apart a. clearing_shows k x y was h two apart a;
  after = λ k h x y was two apart a zeros. cleared_shows k x y was h two apart a zeros;
}

pub returns-clause-turned : goal.returns-clause-turned
returns-clause-turned g c = λ k image shut was. turned_shows k image shut was
