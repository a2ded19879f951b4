use Rattle.std.proofs.Common.{IsTrue, ap}
use Rattle.std.specs.Option.{is_some}
use Rattle.grid_model.specs.Lists.{is_among}
use Rattle.query_paths.specs.Readings.{Unspelled}
use Rattle.query_paths.specs.Calls.{place}
use Rattle.query_paths.proofs.Judged.{spells-none, spells-other}
use Rattle.query_paths.proofs.reading.read_spelled.Goals as goal
use Rattle.query_paths.proofs.reading.read_spelled.Goals.{in_default-judge-via-in-Some-judge+else-head-number, in_default-judge-via-in_default-judge}

pub returns-in_default-judge-clause-read : goal.returns-in_default-judge-clause-read
returns-in_default-judge-clause-read g c =
    let r = rw c.in-Ok.is at c.read_bucket.ensures.read in
    let h = rw c.in-Some.is at r in
    let p = place g.Q.Pinned c.args.pinned.now in
    let named : IsTrue (is_among (g.Q.Pinned.numbers c.args.pinned.now) c.args.number) = c.in-Ok.ensures.there.0 (ap is_some c.in-Some.is) in
    let bytes = c.read_bucket.new.page in
    let is = c.capacity-capacity.ensures.value in
    elim c.in_default-judge.branch [
      | in_default-judge-via-in-Some-judge+else-head-number w ↦ Unspelled (spells-other p c.args.number bytes c.in-Some.at c.capacity-capacity.result is named h w.in-Some-judge.head c.requires c.capacity-capacity.ensures.few w.in-Some-judge.ensures.spelled w.in-Some-judge.ensures.head w.if-head-number.false)
      | in_default-judge-via-in_default-judge w ↦ Unspelled (spells-none p c.args.number bytes c.in-Some.at c.capacity-capacity.result is named h w.in_default-judge.ensures.none)
    ]
