use Rattle.file_images.proofs.Covering.{covers_itself, covers_then, covers_shows, settled_shows}
use Rattle.file_images.proofs.meeting_laws.covering_law.Goals as goal

pub returns : goal.returns
returns g c = record {
  itself = covers_itself;
  onward = covers_then;
  shows = λ then now image covers was. covers_shows then now covers image was;
  settled = λ k pages image now was. settled_shows k pages image was now;
}
