use Rattle.file_images.proofs.Covering.{covers_meets, settled_meets, turned_meets}
use Rattle.file_images.proofs.Standings.{shows_stands}
use Rattle.file_images.proofs.meeting_laws.meeting_law.Goals as goal

pub returns : goal.returns
returns g c = record {
  covered = λ then now d covers was. covers_meets then now covers g.D.Disk d was;
  settled = λ k pages d synced was. settled_meets g.D.Disk k pages d was synced;
  turned = λ k d shut was. turned_meets g.D.Disk k d shut was;
  stands = λ k m d h still leads was image may. shows_stands k image m (was.crash h image may) still leads;
}
