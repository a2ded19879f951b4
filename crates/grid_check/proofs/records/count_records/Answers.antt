use Rattle.std.proofs.Common.{arith}
use Rattle.grid_types.proofs.Places.{within-limits}
use Rattle.grid_check.specs.Covers.{records_under}
use Rattle.grid_check.proofs.Tally.{one_counted, all_counted}
use Rattle.grid_check.proofs.records.count_records.Goals as goal

pub loop-number-preserved : goal.loop-number-preserved
loop-number-preserved g c =
    let i = c.loop-number.invariant in
    let e = c.records_at-count.ensures in
    record {
      total = one_counted (records_under {K = g.row.K} c.args.table.now.items c.args.holdings.now) c.loop-number.number c.loop-number.count c.records_at-count.result i.total e.value;
      few = omega (arith, i.few, e.few);
    }

pub returns : goal.returns
returns g c = record {
  counted = λ image held.
      let s = c.args.geometry.now in
      all_counted {K = g.row.K} s.shape c.requires.few (within-limits s.shape s.lawful).small_capacity image c.args.table.now.items c.args.holdings.now c.requires.room held c.loop-number.count c.loop-number.number
      (omega (arith, c.loop-number-test.false, c.loop-number.auto.number-end, c.requires.count)) c.loop-number.invariant.total;
}
