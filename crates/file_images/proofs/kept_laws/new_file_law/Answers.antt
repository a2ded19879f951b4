use Rattle.file_images.proofs.NewFile.{new_shows, new_root_leads, new_leads, new_has_standing}
use Rattle.file_images.proofs.NewImage.{is_new_file}
use Rattle.file_images.proofs.kept_laws.new_file_law.Goals as goal

pub returns : goal.returns
returns g c = record {
  there_is = λ s lawful attributes. is_new_file g.row.K s lawful attributes;
  shows = λ s image is. new_shows g.row.K s image is;
  along = λ s lawful attributes. new_root_leads g.row.K s lawful attributes;
  leads = λ s lawful attributes. new_leads g.row.K s lawful attributes;
  stands = λ s image is. new_has_standing g.row.K s image is;
}
