use Rattle.std.proofs.Common.{◌∙◌, sym, ap, subst}
use Rattle.std.specs.Prelude.{IsTrue}
use Rattle.std.proofs.lemmas.Bool.{false≢true}
use Rattle.grid_types.specs.Shapes.{is_shape}
use Rattle.grid_model.specs.Spellings.{shape_bytes}
use Rattle.root_pages.proofs.ShapePlaces.{shape_again}
use Rattle.root_pages.proofs.shape_reading.decode_shape.Goals as goal

pub returns-in_default-clause-none : goal.returns-in_default-clause-none
returns-in_default-clause-none c = λ s is.
    let e = shape_again c.args.page.now s c.shape_in.result is c.shape_in.ensures in
    false≢true (c.in_default.ensures.found.1 (subst (λ t. IsTrue (is_shape t)) e is.lawful))

pub returns-then-not-is_spelled-clause-none : goal.returns-then-not-is_spelled-clause-none
returns-then-not-is_spelled-clause-none c = λ s is.
    let e = shape_again c.args.page.now s c.shape_in.result is c.shape_in.ensures in
    let same = c.in-Some.ensures.value in
    false≢true (sym c.if-not-is_spelled.true ∙ c.is_spelled.ensures.1 (is.bytes ∙ ap shape_bytes (e ∙ sym same)))

pub returns-clause-only : goal.returns-clause-only
returns-clause-only c = λ s is.
    shape_again c.args.page.now s c.shape_in.result is c.shape_in.ensures ∙ sym c.in-Some.ensures.value
