use Rattle.std.proofs.Common.{◌<◌, ◌≡◌, ◌∙◌, not, sym, IsTrue, arith}
use Rattle.std.proofs.lemmas.List.Elements.{All-map}
use Rattle.grid_types.specs.Regions.{contains, is_within}
use Rattle.grid_model.specs.Lists.{is_among}
use Rattle.grid_model.specs.Scales.{scale_of}
use Rattle.grid_model.specs.Cuts.{divides, may_grow}
use Rattle.linear_scales.specs.Limited.{scales_of}
use Rattle.split_policy.specs.Rows.{keys_of}
use Rattle.split_policy.proofs.Laws.{each-answer, cut-attribute, cut-divides, cut-within, cut-fresh, cut-limits}
use Rattle.split_policy.proofs.median.MedianCutRule.cut.Goals as goal

pub returns-clause-attribute : goal.returns-clause-attribute
returns-clause-attribute g c = each-answer c.median_cut.result (λ a. a.attribute < g.row.K) (λ a e.
    omega (arith, c.median_cut.ensures.count, cut-attribute c.args.shape.now (scales_of c.args.scales.now) (keys_of c.args.rows.now) (record { region = c.args.region.now; turn = c.args.turn }) a (sym c.median_cut.ensures.value ∙ e)))

pub returns-clause-divides : goal.returns-clause-divides
returns-clause-divides g c = each-answer c.median_cut.result (λ a. IsTrue (divides (keys_of c.args.rows.now) a.attribute a.value)) (λ a e.
    cut-divides c.args.shape.now (scales_of c.args.scales.now) (keys_of c.args.rows.now) (record { region = c.args.region.now; turn = c.args.turn }) a (sym c.median_cut.ensures.value ∙ e))

pub returns-clause-within : goal.returns-clause-within
returns-clause-within g c = λ h. each-answer c.median_cut.result (λ a. IsTrue (is_within c.args.region.now a.attribute a.value)) (λ a e.
    cut-within c.args.shape.now (scales_of c.args.scales.now) (keys_of c.args.rows.now) (record { region = c.args.region.now; turn = c.args.turn }) (All-map (λ k. IsTrue (contains c.args.region.now k)) (λ r. r.key.numbers) c.args.rows.now h) a (sym c.median_cut.ensures.value ∙ e))

pub returns-clause-fresh : goal.returns-clause-fresh
returns-clause-fresh g c = λ h. each-answer c.median_cut.result (λ a. a.fresh ≡ not (is_among (scale_of (scales_of c.args.scales.now) a.attribute) a.value)) (λ a e.
    cut-fresh c.args.shape.now (scales_of c.args.scales.now) (keys_of c.args.rows.now) (record { region = c.args.region.now; turn = c.args.turn }) (All-map (λ k. IsTrue (contains c.args.region.now k)) (λ r. r.key.numbers) c.args.rows.now h) a (sym c.median_cut.ensures.value ∙ e))

pub returns-clause-limits : goal.returns-clause-limits
returns-clause-limits g c = each-answer c.median_cut.result (λ a. IsTrue a.fresh → IsTrue (may_grow c.args.shape.now (scales_of c.args.scales.now) a.attribute)) (λ a e.
    cut-limits c.args.shape.now (scales_of c.args.scales.now) (keys_of c.args.rows.now) (record { region = c.args.region.now; turn = c.args.turn }) a (sym c.median_cut.ensures.value ∙ e))
