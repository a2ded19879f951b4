use Rattle.std.proofs.Common.{◌∙◌, Bool, List, ap, slice_set, true}
use Rattle.query_paths.proofs.Rounds.{round-set}
use Rattle.query_paths.proofs.marks.Marks.mark.Goals as goal

pub returns : goal.returns
returns c = round-set c.self.inside.present c.self.inside.rounds.items c.args.n ∙ ap (λ (bs : List Bool). slice_set bs c.args.n true) c.self.view_is
