use Rattle.std.proofs.Common.{◌+◌, ◌-◌, ◌*◌, inr, refl, replicate, arith, Err}
use Rattle.grid_types.specs.declared.refusal.Refusal.TheVariants.{NoMemory}
use Rattle.grid_types.specs.Shapes.{file_pages}
use Rattle.root_pages.specs.Fields.{model_fields}
use Rattle.linear_scales.specs.Limited.{scales_of}
use Rattle.file_roots.specs.Gathering.{MayBeGathered, area_in}
use Rattle.file_roots.proofs.Outcomes.{refused_so, told_on}
use Rattle.file_roots.proofs.Whole.{area_of_pages}
use Rattle.file_roots.proofs.Verdicts.{fields_same, whole_root}
use Rattle.file_roots.proofs.Filling.{zeros_long, area_lawful, same_root}
use Rattle.file_roots.proofs.Telling.{tells_found, tells_refused}
use Rattle.file_roots.proofs.reading.read_newest_from.Goals as goal

pub returns-in_err-fields-clause-tells : goal.returns-in_err-fields-clause-tells
returns-in_err-fields-clause-tells g c = λ h pages.
    let seen = g.D.Disk.seen c.args.disk.now in
    let chosen = c.in_err-fields.ensures in
    tells_refused c.args.geometry.now.shape c.args.geometry.now.lawful seen c.args.steps.now (c.args.steps.now + 2) c.from_residual.result c.in_err-fields.field-0.0 c.from_residual.ensures.1
    (λ p e. chosen.damaged seen pages.zeroth_is pages.first_is p (refused_so _ _ e)) (λ e. let told = chosen.no_other.1 in absurd (cc (told, e))) (λ n is le. absurd (omega (arith, is, le)))

pub returns-in_err-fields-clause-causes : goal.returns-in_err-fields-clause-causes
returns-in_err-fields-clause-causes g c =
    let told = c.in_err-fields.ensures.no_other in
    told_on c.from_residual.result c.in_err-fields.field-0.0 c.from_residual.ensures.1 (λ is. cc (told.1, is)) (λ is. cc (told.1, is)) (inr (inr told))

pub returns-in-Err-clause-tells : goal.returns-in-Err-clause-tells
returns-in-Err-clause-tells g c = λ h pages.
    let seen = g.D.Disk.seen c.args.disk.now in
    tells_refused c.args.geometry.now.shape c.args.geometry.now.lawful seen c.args.steps.now (c.args.steps.now + 2) (Err NoMemory) NoMemory refl
    (λ p e. absurd (cc (e))) (λ e. (model_fields c.in_ok-fields.fields, c.in_ok-fields.ensures.found seen pages.zeroth_is pages.first_is)) (λ n is le. absurd (omega (arith, is, le)))

pub returns-in_err-read_area-clause-tells : goal.returns-in_err-read_area-clause-tells
returns-in_err-read_area-clause-tells g c = λ h pages.
    let seen = g.D.Disk.seen c.args.disk.now in
    let chosen = c.in_ok-fields.ensures in
    let r = model_fields c.in_ok-fields.fields in
    let newest = chosen.found seen pages.zeroth_is pages.first_is in
    let begun = c.in-Ok.ensures.empty seen r chosen.lawful in
    let area = c.in_err-read_area.ensures in
    tells_refused c.args.geometry.now.shape c.args.geometry.now.lawful seen c.args.steps.now (c.read_area.new.steps + 2) c.from_residual-in_err-read_area.result c.in_err-read_area.field-0.0 c.from_residual-in_err-read_area.ensures.1
    (λ p e. inr (inr (inr (r, newest, area.gathers.damaged h begun p (refused_so _ _ e))))) (λ e. (r, newest))
    (λ n is le. let good = area.good_before h begun (n - 2) (omega (arith, is, le)) in record { root = r; newest = newest; area = good.0; spelled = good.1 })

pub returns-clause-tells : goal.returns-clause-tells
returns-clause-tells g c = λ h pages.
    let s = c.args.geometry.now.shape in
    let lawful = c.args.geometry.now.lawful in
    let seen = g.D.Disk.seen c.args.disk.now in
    let chosen = c.in_ok-fields.ensures in
    let r = model_fields c.in_ok-fields.fields in
    let gathered = c.read_area.new.gathered in
    let all = c.in_ok-read_area.ensures.gathers.gathered h (c.in-Ok.ensures.empty seen r chosen.lawful) in
    let area = area_of_pages s seen r (area_in gathered) lawful chosen.lawful all.area in
    tells_found s lawful seen c.args.steps.now (c.read_area.new.steps + 2) _
    (whole_root s seen r _ (area_in gathered) (fields_same r (scales_of gathered.scales) gathered.parts.items gathered.table.items area.lawful.boundaries area.lawful.parts area.lawful.buckets) (chosen.found seen pages.zeroth_is pages.first_is) area)

pub returns-clause-lawful : goal.returns-clause-lawful
returns-clause-lawful g c =
    let s = c.args.geometry.now.shape in
    let chosen = c.in_ok-fields.ensures in
    let r = model_fields c.in_ok-fields.fields in
    let gathered = c.read_area.new.gathered in
    let begun : MayBeGathered s r 0 c.in-Ok.gathered = record { image = replicate (file_pages s * 4096) 0; long = zeros_long s; gathered = c.in-Ok.ensures.empty (replicate (file_pages s * 4096) 0) r chosen.lawful } in
    let area = area_lawful s r gathered c.args.geometry.now.lawful chosen.lawful (c.in_ok-read_area.ensures.gathers.lawful begun) in
    let is = same_root s r _ (area_in gathered) (fields_same r (scales_of gathered.scales) gathered.parts.items gathered.table.items area.boundaries area.parts area.buckets) chosen.lawful area in
    record { fields = is.0; area = is.1 }
