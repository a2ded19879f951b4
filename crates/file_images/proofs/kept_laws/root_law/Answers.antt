use Rattle.file_images.proofs.RootSteps.{root_step_shows}
use Rattle.file_images.proofs.RootMoments.{closing_shows, closed_shows, parts_shows, fields_shows, opening_shows, rooted_shows}
use Rattle.file_images.proofs.kept_laws.root_law.Goals as goal

pub returns-clause-alone : goal.returns-clause-alone
returns-clause-alone g c = λ k root other x y was a roots. root_step_shows k x y was.shape.lawful a root other was roots

pub returns-clause-moments : goal.returns-clause-moments
returns-clause-moments g c = record {
  closing = λ k tried x y is under was a. closing_shows k x y was tried is under a;
  closed = λ k x y was a shut. closed_shows k x y was a shut;
  parts = λ k x y shut was a. parts_shows k x y was shut a;
  fields = λ k x y shut was a. fields_shows k x y was shut a;
  opening = λ k new x y shut next was now. opening_shows k x y was shut new next.number next.lawful next.area now;
  rooted = λ k new x y shut next was now. rooted_shows k x y was shut new next.number next.lawful next.area now;
}
