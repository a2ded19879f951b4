use Rattle.std.specs.Prelude.{None}
use Rattle.file_images.specs.Kept.{ShutHeader, LooseHeader}
use Rattle.file_images.proofs.Histories.{leads_over}
use Rattle.file_images.proofs.Leading.{leads_closed, leads_tried, leads_rooted, leads_ahead, leads_begun}
use Rattle.file_images.proofs.leading_laws.leading_root_law.Goals as goal

pub returns-clause-along : goal.returns-clause-along
returns-clause-along g c = record {
  closed = λ k m w x along. leads_over k w m x along k.root ShutHeader k.half;
  tried = λ k m new w x along. leads_over k w m x along k.root (LooseHeader new) k.half;
  placed = λ k m new w x along. leads_over k w m x along new (LooseHeader None) k.half;
  ahead = λ k m new w x before after is along. leads_ahead k w m x before after new along is;
  begins = λ k m new is. leads_begun k m new is;
}

pub returns-clause-together : goal.returns-clause-together
returns-clause-together g c = record {
  closed = λ k m leads. leads_closed k m leads;
  tried = λ k m new new_leads leads. leads_tried k m new new_leads leads;
  placed = λ k m new may leads. leads_rooted k m new may leads;
}
