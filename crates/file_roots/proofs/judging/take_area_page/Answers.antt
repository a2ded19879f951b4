use Rattle.std.proofs.Common.{◌≡◌, ◌≤◌, ◌+◌, ◌∙◌, length, sym, ap, arith}
use Rattle.std.proofs.lemmas.Bool.{eqb-true, eqb-false}
use Rattle.grid_types.specs.Shapes.{area_pages}
use Rattle.grid_types.proofs.Places.{area-small}
use Rattle.grid_model.specs.Lawful.{pages_named}
use Rattle.root_pages.specs.Fields.{model_fields}
use Rattle.file_roots.specs.Gathering.{area_in}
use Rattle.file_roots.proofs.Agreeing.{one_table_of}
use Rattle.file_roots.proofs.judging.take_area_page.Goals as goal

pub overflow_add-i : goal.overflow_add-i
overflow_add-i g c = omega (arith, c.requires.inside, area-small c.args.geometry.now.shape c.args.geometry.now.lawful)

pub returns-clause-gathered : goal.returns-clause-gathered
returns-clause-gathered g c = λ image page had yes.
    let now = c.in_ok-take_entries.ensures.taken.gathered image page (record { spelled = had.area.spelled; marked = had.marked }) c.if-not-branch.false in
    let count : length (pages_named c.take_entries.new.gathered.table.items) ≡ c.args.fields.now.buckets = sym (c.count_named.ensures.value ∙ ap (λ ys. length (pages_named ys)) c.list.ensures.value) ∙ eqb-true c.count_named.result c.args.fields.now.buckets yes in
    record { area = record { spelled = now.spelled; buckets = λ le. count }; marked = now.marked }

pub returns-clause-refused : goal.returns-clause-refused
returns-clause-refused g c = λ image page had no a further.
    let s = c.args.geometry.now.shape in
    let r = model_fields c.args.fields.now in
    let new = c.take_entries.new.gathered in
    let now = c.in_ok-take_entries.ensures.taken.gathered image page (record { spelled = had.area.spelled; marked = had.marked }) c.if-not-branch.false in
    let last : area_pages s ≤ c.args.i + 1 = omega (arith, c.if-i-area_pages.false, c.area_pages.ensures.value) in
    let table = one_table_of s image r c.args.geometry.now.lawful c.requires.root (c.args.i + 1) (area_in new) a (omega (arith, c.requires.inside)) now.spelled further.spelled in
    let count : c.count_named.result ≡ c.args.fields.now.buckets = c.count_named.ensures.value ∙ ap (λ ys. length (pages_named ys)) (c.list.ensures.value ∙ table) ∙ further.buckets last in
    eqb-false c.count_named.result c.args.fields.now.buckets no count
