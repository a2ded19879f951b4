use Rattle.history_pages.proofs.Following.{next-spells}
use Rattle.history_pages.proofs.Spelled.{bucket-spelled, part-expected}
use Rattle.history_pages.proofs.Whole.{whole}
use Rattle.history_pages.proofs.laws.spelling_law.Goals as goal

pub returns : goal.returns
returns g c = record { bucket = bucket-spelled; part = λ shape L t p read bytes stands. part-expected shape L t p stands read bytes; whole = whole; next = next-spells }
