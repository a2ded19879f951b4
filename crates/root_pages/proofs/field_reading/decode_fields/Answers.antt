use Rattle.std.proofs.Common.{◌∙◌, refl, sym, ap, subst}
use Rattle.std.proofs.lemmas.Bool.{false≢true}
use Rattle.grid_model.specs.Spellings.{root_bytes}
use Rattle.grid_model.specs.Lawful.{IsRootOn}
use Rattle.root_pages.specs.Fields.{model_fields}
use Rattle.root_pages.proofs.Roots.{root_again}
use Rattle.root_pages.proofs.field_reading.decode_fields.Goals as goal

pub returns-then-not-is_lawful-clause-none : goal.returns-then-not-is_lawful-clause-none
returns-then-not-is_lawful-clause-none c = λ r is.
    let e = root_again c.args.geometry.now.shape c.args.header c.args.geometry.now.shape.k c.args.page.now r (model_fields c.fields_in-fields.result) c.args.geometry.now.lawful refl is c.fields_in-fields.ensures.at c.fields_in-fields.ensures.count in
    false≢true (sym c.if-not-is_lawful.true ∙ c.is_lawful.ensures.1 (subst (IsRootOn c.args.geometry.now.shape c.args.header) e is.lawful))

pub returns-then-not-is_spelled-clause-none : goal.returns-then-not-is_spelled-clause-none
returns-then-not-is_spelled-clause-none c = λ r is.
    let e = root_again c.args.geometry.now.shape c.args.header c.args.geometry.now.shape.k c.args.page.now r (model_fields c.fields_in-fields.result) c.args.geometry.now.lawful refl is c.fields_in-fields.ensures.at c.fields_in-fields.ensures.count in
    false≢true (sym c.if-not-is_spelled.true ∙ c.is_spelled.ensures.1 (is.bytes ∙ ap root_bytes e))

pub returns-clause-only : goal.returns-clause-only
returns-clause-only c = λ r is. root_again c.args.geometry.now.shape c.args.header c.args.geometry.now.shape.k c.args.page.now r (model_fields c.fields_in-fields.result) c.args.geometry.now.lawful refl is c.fields_in-fields.ensures.at c.fields_in-fields.ensures.count
