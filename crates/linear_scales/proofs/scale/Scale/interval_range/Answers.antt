use Rattle.linear_scales.proofs.Meeting.{range-meets}
use Rattle.linear_scales.proofs.scale.Scale.interval_range.Goals as goal

pub returns-clause-meets : goal.returns-clause-meets
returns-clause-meets c =
    range-meets c.args.self.now.boundaries c.args.side.now c.begin.result c.end.result c.interval.result c.interval-2.result
    c.interval.ensures.lawful.scale c.requires c.begin.ensures c.end.ensures c.end.type_inv c.interval.ensures.value c.interval-2.ensures.value
