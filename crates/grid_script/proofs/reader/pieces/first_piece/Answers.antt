use Rattle.std.proofs.Common.{◌∙◌, ap}
use Rattle.grid_model.specs.Script.{pieces}
use Rattle.grid_script.proofs.Pieces.{pieces-split, pieces-whole}
use Rattle.grid_script.proofs.reader.pieces.first_piece.Goals as goal

pub returns-in-Some-clause-pieces : goal.returns-in-Some-clause-pieces
returns-in-Some-clause-pieces c =
    let found = c.in-Some.ensures.found in
    ap (pieces c.args.byte) found.0 ∙ pieces-split c.args.byte c.in-Some.piece.now c.in-Some.after.now found.1

pub returns-in-None-clause-pieces : goal.returns-in-None-clause-pieces
returns-in-None-clause-pieces c = pieces-whole c.args.byte c.args.text.now c.in-None.ensures.none
