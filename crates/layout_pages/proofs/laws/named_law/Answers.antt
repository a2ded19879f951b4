use Rattle.layout_pages.proofs.Staying.{named-stay, named-apart}
use Rattle.layout_pages.proofs.laws.named_law.Goals as goal

pub returns : goal.returns
returns c = record { stay = named-stay; apart = named-apart }
