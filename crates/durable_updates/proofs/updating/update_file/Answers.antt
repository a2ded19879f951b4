use Rattle.std.proofs.Common.{rules, ◌≤◌, Err}
use Rattle.grid_types.specs.declared.refusal.Refusal.TheVariants.{Worn}
use Rattle.client_sessions.specs.Points.{Point}
use Rattle.client_sessions.specs.Told.{worn_from}
use Rattle.durable_updates.specs.Points.{IsAnsweredAt, reply_to, request_of}
use Rattle.durable_updates.proofs.Goings.{there-none}
use Rattle.durable_updates.proofs.Updates.{answered_there, at_point, open_settled, worn_told}
use Rattle.durable_updates.proofs.updating.update_file.Goals as goal

pub returns-then-front-ge-WORN-clause-answers : goal.returns-then-front-ge-WORN-clause-answers
returns-then-front-ge-WORN-clause-answers g c = λ told p none is.
    let f = c.args.file.now in
    let u = c.args.update.now in
    let w = open_settled {K = g.row.K} {D = g.row.D.Denot} g.D.Disk f.books p f.disk none is in
    let goes = there-none {K = g.row.K} {D = g.row.D.Denot} {g = g.D.Disk} f c.requires.none (λ x h left. g.met.D.Disk.only_now f.disk x h left) in
    let worn : worn_from ≤ c.front-front.result = search rules in
    at_point (λ (q : Point g.row.K). IsAnsweredAt {K = g.row.K} {D = g.row.D.Denot} g.D.Disk f.books.shape q (request_of u) (reply_to u (Err (Worn c.front-front.result))) f.disk f.books f.disk) p none
    (answered_there {K = g.row.K} {D = g.row.D.Denot} g.D.Disk f.books.shape f f goes p.at w (request_of u) (reply_to u (Err (Worn c.front-front.result))) (worn_told f.books.shape _ u c.front-front.result worn))
