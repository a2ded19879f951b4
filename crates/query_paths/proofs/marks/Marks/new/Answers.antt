use Rattle.std.proofs.Common.{refl}
use Rattle.query_paths.proofs.Rounds.{none-filled}
use Rattle.query_paths.proofs.marks.Marks.new.Goals as goal

pub returns : goal.returns
returns c = none-filled c.in_ok-rounds.rounds.items 0 c.args.count c.args.count (c.in_ok-rounds.ensures.items_if_clones_equal (λ y e. e)) refl
