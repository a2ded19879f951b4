use Rattle.query_paths.proofs.Found.{counted-more}
use Rattle.query_paths.proofs.gathering.TallyGather.gather.Goals as goal

pub returns-clause-gathered : goal.returns-clause-gathered
returns-clause-gathered g c = λ found few is capacity b s count.
    counted-more b.rows c.args.query.now found c.args.self.now.rows c.args.count c.count_matching-found.result c.saturating_add-self.result few is count c.requires.many (c.count_matching-found.ensures capacity b s count) c.saturating_add-self.ensures
