use Rattle.std.proofs.Common.{◌≡◌, ◌≢◌, ◌∙◌, ◌++◌, ℕ, List, None, Some, sym, ap}
use Rattle.std.proofs.lemmas.Bool.Decides.{Decides-eqb}
use Rattle.std.proofs.lemmas.Slice.Eq.{strip_suffix_is}
use Rattle.grid_model.specs.Script.{without_return}
use Rattle.grid_script.proofs.Pieces.{return-dropped, return-kept}
use Rattle.grid_script.proofs.reader.pieces.without_return.Goals as goal

pub returns-in-Some : goal.returns-in-Some
returns-in-Some c =
    let ends : c.args.line.now ≡ c.in-Some.front.now ++ c.as_slice.result.now = strip_suffix_is Decides-eqb c.args.line.now c.as_slice.result.now (Some c.in-Some.front) c.in-Some.ensures.cases in
    sym (ap without_return (ends ∙ ap (λ p. c.in-Some.front.now ++ p) c.as_slice.ensures) ∙ return-dropped c.in-Some.front.now)

pub returns-in-None : goal.returns-in-None
returns-in-None c =
    let other : (front : List ℕ) → c.args.line.now ≢ front ++ c.as_slice.result.now = strip_suffix_is Decides-eqb c.args.line.now c.as_slice.result.now None c.in-None.ensures.cases in
    sym (return-kept c.args.line.now (λ front e. other front (e ∙ ap (λ p. front ++ p) (sym c.as_slice.ensures))))
