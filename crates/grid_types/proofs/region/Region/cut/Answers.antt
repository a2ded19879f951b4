use Rattle.grid_types.proofs.Parted.{below-region, from-region}
use Rattle.grid_types.proofs.region.Region.cut.Goals as goal

pub returns-clause-regions : goal.returns-clause-regions
returns-clause-regions g c f =
    let r = c.args.self.now in
    (below-region r c.args.attribute c.args.value f c.requires.attribute c.requires.within, from-region r c.args.attribute c.args.value f c.requires.attribute c.requires.within)
