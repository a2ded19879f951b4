use Rattle.std.specs.Prelude.{slice_set, Some, None}
use Rattle.file_images.proofs.PagesLeading.{leads_fresh, leads_settled, leads_let_go, covers_let_go}
use Rattle.file_images.proofs.leading_laws.leading_page_law.Goals as goal

pub returns : goal.returns
returns g c = record {
  written = λ k m p bytes w x along. leads_fresh k (slice_set k.fresh p (Some bytes)) m w x along;
  unwritten = λ k m p w x along. leads_fresh k (slice_set k.fresh p None) m w x along;
  settled = λ k m pages w x none along. leads_settled k m pages w x none along;
  let_go = λ k m pages w x none along. leads_let_go k m pages w x none along;
  covered = λ k pages. covers_let_go k pages;
}
