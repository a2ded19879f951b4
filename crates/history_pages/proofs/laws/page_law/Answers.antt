use Rattle.history_pages.proofs.Changes.{renewed-dropped, others-bucket, others, gone}
use Rattle.history_pages.proofs.Following.{next-pages}
use Rattle.history_pages.proofs.Named.{named}
use Rattle.history_pages.proofs.Renewed.{new-page}
use Rattle.history_pages.proofs.laws.page_law.Goals as goal

pub returns : goal.returns
returns g c = record { named = named; among = renewed-dropped; others = others; bucket = others-bucket; new = new-page; gone = gone; next = next-pages }
