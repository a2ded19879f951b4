use Rattle.linear_scales.proofs.Searching.{search-answers}
use Rattle.linear_scales.proofs.boundaries.search.Goals as goal

pub returns : goal.returns
returns c = search-answers c.args.boundaries.now c.args.v c.binary_search.result c.requires c.binary_search.ensures.position
