use Rattle.std.proofs.Common.{◌≡◌, ◌∙◌, sym}
use Rattle.grid_words.specs.Given.{words_of}
use Rattle.grid_shell.proofs.Serving.{ShapeLaws}
use Rattle.grid_shell.proofs.Asking.{status_words, nothing_touched, serves}
use Rattle.grid_shell.proofs.run.run_grid.Goals as goal

pub returns-clause-words : goal.returns-clause-words
returns-clause-words g c = λ two. status_words g.B.Bay g.B.Disk.Disk g.S.Source g.O.Sink (words_of c.args.given) _ _ _ _ _ _ c.do_words-ending.result c.do_words-ending.ensures.came (sym c.finish.ensures.status ∙ two)

pub returns-clause-nothing : goal.returns-clause-nothing
returns-clause-nothing g c = nothing_touched g.B.Bay g.B.Disk.Disk g.S.Source g.O.Sink (words_of c.args.given) _ _ _ _ _ _ c.do_words-ending.result c.do_words-ending.ensures.came

pub returns-clause-did : goal.returns-clause-did
returns-clause-did g c = record { ending = c.do_words-ending.result; ends = c.finish.ensures.status; came = c.do_words-ending.ensures.came; told = c.finish.ensures.told }

pub returns-clause-served : goal.returns-clause-served
returns-clause-served g c =
    let laws : ShapeLaws = record { one = c.uniqueness_law.ensures.shapes; first = c.survey_law.ensures.answer; second = c.survey_law-2.ensures.answer; third = c.survey_law-3.ensures.answer; fourth = c.survey_law-4.ensures.answer } in
    serves g.B.Bay g.B.Disk.Disk g.S.Source g.O.Sink (words_of c.args.given) _ _ _ _ _ _ c.do_words-ending.result _ c.finish.ensures.status laws c.present_law.ensures c.do_words-ending.ensures.came
