use Rattle.std.proofs.Common.{◌∙◌, ◌++◌, ap}
use Rattle.std.proofs.lemmas.Result.{on_ok_weaker}
use Rattle.grid_model.specs.Listings.{rows}
use Rattle.grid_model.specs.Tables.{Table, pairs_of}
use Rattle.query_paths.proofs.gathering.ListingGather.gather.Goals as goal

pub returns-clause-gathered : goal.returns-clause-gathered
returns-clause-gathered g c = λ found few is capacity b s count.
    on_ok_weaker c.push_matching.result (λ e. e ∙ ap (λ (t : Table). t ++ rows (pairs_of b.rows) c.args.query.now) is) (c.push_matching.ensures capacity b s count)
