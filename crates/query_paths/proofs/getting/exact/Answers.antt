use Rattle.bucket_page.specs.OnPage.{bucket_told}
use Rattle.query_paths.specs.Calls.{place}
use Rattle.query_paths.specs.Finding.{IsBucketFound}
use Rattle.query_paths.proofs.Answered.{answered}
use Rattle.query_paths.proofs.getting.exact.Goals as goal

pub returns-clause-expected : goal.returns-clause-expected
returns-clause-expected g c =
    let old = place g.Q.Pinned c.args.pinned.now in
    let bytes = c.find_bucket.new.page in
    let found : IsBucketFound {K = g.row.K} old c.args.key.now.numbers bytes c.in_ok-head.head = c.in_ok-head.ensures.expected in
    record {
      number = c.in_ok-head.head.number;
      names = found.names;
      bucket = bucket_told g.row.K bytes;
      has = found.has;
      answer_is = c.get_on.ensures old.shape.capacity (bucket_told g.row.K bytes) found.has.expected.spelled found.count;
    }

pub returns-clause-answer : goal.returns-clause-answer
returns-clause-answer g c = λ L t pin.
    answered (place g.Q.Pinned c.args.pinned.now) L t pin c.args.key.now.numbers c.numbers-numbers.ensures.key c.find_bucket.new.page c.get_on.result (returns-clause-expected g c)
