use Rattle.file_images.specs.Steps.{other_half}
use Rattle.file_images.proofs.Histories.{leads_flying, leads_over}
use Rattle.file_images.proofs.Leading.{leads_doubted, none_beyond, leads_loosened, leads_cleared}
use Rattle.file_images.proofs.leading_laws.leading_journal_law.Goals as goal

pub returns : goal.returns
returns g c = record {
  flying = λ k m w x along. leads_flying k w m x along;
  doubted = λ k m d w x shut none follows along. leads_doubted k m d w x none follows along;
  turned = λ k m w x along. leads_over k w m x along k.root k.other (other_half k.half);
  loosened = λ k h m w x two behind along. leads_loosened k h m w x two behind along;
  shut = λ k h m w x two behind along. leads_cleared k h m w x two behind along;
  none_beyond = λ k place d w two first some none. none_beyond k place d w two first some none;
}
