use Rattle.file_images.proofs.Crashes.{committed_stands, closed_stands, tried_stands, rooted_stands, loosened_stands}
use Rattle.file_images.proofs.TwoPlaced.{two_lead}
use Rattle.file_images.proofs.crash_laws.crash_law.Goals as goal

pub returns : goal.returns
returns g c = record {
  committed = λ k s half slot b m old new is inside leads was step. committed_stands k s half slot b m old new is inside leads was step;
  both_lead = λ k m b d w x both along. two_lead k m b d w x both along;
  closed = λ k m b d image leads was. closed_stands k m b d image leads was;
  tried = λ k m b d w image leads was. tried_stands k m b d w image leads was;
  rooted = λ k m b d w image leads was. rooted_stands k m b d w image leads was;
  loosened = λ k m b d w image two leads behind_all was. loosened_stands k m b d w image two leads behind_all was;
}
