use Rattle.std.proofs.Common.{◌∙◌, ◌∷◌, ap, List, ℕ}
use Rattle.grid_model.specs.Script.{lines_of}
use Rattle.grid_script.proofs.LinesOf.{lines_of-ended, lines_of-unended, lines_of-end}
use Rattle.grid_script.proofs.lines.first_line.Goals as goal

pub returns-in-Some-clause-lines : goal.returns-in-Some-clause-lines
returns-in-Some-clause-lines c =
    let found = c.in-Some.ensures.found in
    ap lines_of found.0 ∙ lines_of-ended c.in-Some.parts.0.now c.in-Some.parts.1.now found.1

pub returns-in-None-clause-lines : goal.returns-in-None-clause-lines
returns-in-None-clause-lines c =
    lines_of-unended c.args.text.now c.requires.some c.in-None.ensures.none ∙ ap (λ (ls : List (List ℕ)). c.args.text.now ∷ ls) (lines_of-end c.args.text.now)
