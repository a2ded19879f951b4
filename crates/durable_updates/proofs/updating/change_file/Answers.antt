use Rattle.std.proofs.Common.{◌≡◌, ◌∙◌, ◌+◌, ℕ, List, Option, None, Result, Ok, Err, sym, ap, subst, arith}
use Rattle.std.specs.Prelude.{IfErr}
use Rattle.std.specs.List.{count_by}
use Rattle.std.proofs.lemmas.Result.{err_from_is_err_and}
use Rattle.disk_trait.proofs.Calls.{changes_then}
use Rattle.grid_types.specs.declared.answer.Answer.{Answer}
use Rattle.grid_types.specs.declared.refusal.Refusal.{Refusal}
use Rattle.grid_types.specs.declared.shape.Shape.{Shape}
use Rattle.grid_model.specs.Lone.{change, free}
use Rattle.grid_model.specs.Notes.{updated_key}
use Rattle.page_states.specs.States.{is_free}
use Rattle.file_books.specs.Books.{Books}
use Rattle.file_updates.specs.declared.planning.Outcome.{Outcome}
use Rattle.file_updates.specs.Outcomes.{FitsUpdate, IsChosenPlan, IsOutcomeOf}
use Rattle.file_standing.specs.Open.{IsOpenInSession}
use Rattle.update_plans.specs.Plans.{IsPlanOf}
use Rattle.client_sessions.specs.Points.{Point, standing_of}
use Rattle.durable_updates.specs.Answers.{IsAnsweredAlone, UnlessFailed}
use Rattle.durable_updates.specs.Carried.{IsCarriedAlone, settled_at}
use Rattle.durable_updates.specs.Causes.{IsUpdateCause}
use Rattle.durable_updates.specs.Points.{IsAnsweredAt, reply_to, request_of}
use Rattle.durable_updates.proofs.Updates.{answer_is, answered_carried, answered_there, at_point, box_of, carried_alone, carried_refused, change_cause, change_placed, cut_numbers, failed_told, lone_change, made_told, nothing_alone, nothing_placed, nothing_told, open_settled, plan_cause, refused_alone, refused_told}
use Rattle.durable_updates.proofs.updating.change_file.Goals as goal

pub returns-in_err-plan_swept-clause-answers : goal.returns-in_err-plan_swept-clause-answers
returns-in_err-plan_swept-clause-answers g c = λ told p none is.
    let f = c.args.file.now in
    let new = c.plan_swept.new.file in
    let u = c.args.update.now in
    let m = p.at in
    let w = open_settled {K = g.row.K} {D = g.row.D.Denot} g.D.Disk f.books p f.disk none is in
    let box = box_of f.books.shape m.layout m.table (updated_key u) w.file.hold.stands c.spelled-update.ensures.lawful.key in
    let r = err_from_is_err_and c.from_residual.result c.from_residual.ensures.1 in
    let e = c.in_err-plan_swept.field-0.0 in
    let x = c.in_err-plan_swept.ensures in
    let room = c.plan_swept.new.room in
    let numbers = cut_numbers {K = g.row.K} {D = g.row.D.Denot} g.D.Disk f m.layout (g.D.Disk.read_count f.disk) (g.D.Disk.read_count new.disk) (updated_key u) room.found.value room.beside.value e w.file.hold.scales x.cause.refused in
    at_point (λ (q : Point g.row.K). IsAnsweredAt {K = g.row.K} {D = g.row.D.Denot} g.D.Disk f.books.shape q (request_of u) (reply_to u c.from_residual.result) f.disk new.books new.disk) p none
    (subst (λ (y : Result (Answer (Option (List ℕ))) Refusal). IsAnsweredAt {K = g.row.K} {D = g.row.D.Denot} g.D.Disk f.books.shape (settled_at m) (request_of u) (reply_to u y) f.disk new.books new.disk) (sym (r.1 ∙ ap Err r.2))
    (answered_there {K = g.row.K} {D = g.row.D.Denot} g.D.Disk f.books.shape f new x.same m w (request_of u) (reply_to u (Err e)) (refused_told f.books.shape m u e (x.honest told m box.0 w box.1) numbers)))

pub returns-in_err-plan_swept-clause-lone : goal.returns-in_err-plan_swept-clause-lone
returns-in_err-plan_swept-clause-lone g c = λ told s w unclaimed.
    let f = c.args.file.now in
    let new = c.plan_swept.new.file in
    let u = c.args.update.now in
    let box = box_of f.books.shape s.layout s.table (updated_key u) w.file.hold.stands c.spelled-update.ensures.lawful.key in
    let r = err_from_is_err_and c.from_residual.result c.from_residual.ensures.1 in
    let e = c.in_err-plan_swept.field-0.0 in
    let x = c.in_err-plan_swept.ensures in
    let room = c.plan_swept.new.room in
    let numbers = cut_numbers {K = g.row.K} {D = g.row.D.Denot} g.D.Disk f s.layout (g.D.Disk.read_count f.disk) (g.D.Disk.read_count new.disk) (updated_key u) room.found.value room.beside.value e w.file.hold.scales x.cause.refused in
    subst (λ (y : Result (Answer (Option (List ℕ))) Refusal). UnlessFailed y (IsAnsweredAlone {K = g.row.K} {D = g.row.D.Denot} g.D.Disk f.books.shape s (request_of u) (reply_to u y) new.books new.disk)) (sym (r.1 ∙ ap Err r.2))
    (refused_alone {K = g.row.K} {D = g.row.D.Denot} g.D.Disk f.books.shape s u new.books new.disk (x.swept (standing_of s) s w unclaimed) box.0 box.1 e
    (x.honest told (standing_of s) box.0 (record { kept = w.kept; file = w.file; session = w.session; meets = w.meets }) box.1) numbers)

pub returns-in_err-plan_swept-clause-refused : goal.returns-in_err-plan_swept-clause-refused
returns-in_err-plan_swept-clause-refused g c =
    let f = c.args.file.now in
    let new = c.plan_swept.new.file in
    let r = err_from_is_err_and c.from_residual.result c.from_residual.ensures.1 in
    subst (λ (y : Result (Answer (Option (List ℕ))) Refusal). IfErr y (IsUpdateCause {K = g.row.K} {D = g.row.D.Denot} g.D.Disk c.args.update.now f new c.plan_swept.new.room)) (sym (r.1 ∙ ap Err r.2))
    (plan_cause {K = g.row.K} {D = g.row.D.Denot} g.D.Disk c.args.update.now f new c.plan_swept.new.room c.in_err-plan_swept.field-0.0 c.in_err-plan_swept.ensures.cause.refused)

pub returns-in-Nothing-clause-answers : goal.returns-in-Nothing-clause-answers
returns-in-Nothing-clause-answers g c = λ told p none is.
    let f = c.args.file.now in
    let mid = c.plan_swept.new.file in
    let u = c.args.update.now in
    let x = c.in_ok-plan_swept.ensures in
    let first = c.plan_swept.new.room.first.value in
    let second = c.plan_swept.new.room.second.value in
    let m = p.at in
    let w = open_settled {K = g.row.K} {D = g.row.D.Denot} g.D.Disk f.books p f.disk none is in
    let box = box_of f.books.shape m.layout m.table (updated_key u) w.file.hold.stands c.spelled-update.ensures.lawful.key in
    let nothing = subst (λ (o : Outcome g.row.K). IsOutcomeOf f.books.shape (count_by is_free mid.books.pages) m.layout m.table box.0 u first second o) c.in-Nothing.is (x.planned told m box.0 w box.1) in
    let at : c.front.result ≡ m.place = c.front.ensures ∙ ap (λ (b : Books). b.front) c.state.ensures.books ∙ x.same.reading.front ∙ sym w.file.hold.place in
    at_point (λ (q : Point g.row.K). IsAnsweredAt {K = g.row.K} {D = g.row.D.Denot} g.D.Disk f.books.shape q (request_of u) (reply_to u (Ok record { at = c.front.result; value = None })) f.disk mid.books mid.disk) p none
    (answered_there {K = g.row.K} {D = g.row.D.Denot} g.D.Disk f.books.shape f mid x.same m w (request_of u) (reply_to u (Ok record { at = c.front.result; value = None })) (nothing_told f.books.shape m u c.front.result at nothing))

pub returns-in-Nothing-clause-lone : goal.returns-in-Nothing-clause-lone
returns-in-Nothing-clause-lone g c = λ told s w unclaimed.
    let f = c.args.file.now in
    let mid = c.plan_swept.new.file in
    let u = c.args.update.now in
    let x = c.in_ok-plan_swept.ensures in
    let first = c.plan_swept.new.room.first.value in
    let second = c.plan_swept.new.room.second.value in
    let m = standing_of s in
    let box = box_of f.books.shape s.layout s.table (updated_key u) w.file.hold.stands c.spelled-update.ensures.lawful.key in
    let there : IsOpenInSession {K = g.row.K} {D = g.row.D.Denot} g.D.Disk f.books m f.disk = record { kept = w.kept; file = w.file; session = w.session; meets = w.meets } in
    let swept = x.swept m s w unclaimed in
    let nothing = subst (λ (o : Outcome g.row.K). IsOutcomeOf f.books.shape (count_by is_free mid.books.pages) s.layout s.table box.0 u first second o) c.in-Nothing.is (x.planned told m box.0 there box.1) in
    let at : c.front.result ≡ s.front = c.front.ensures ∙ ap (λ (b : Books). b.front) c.state.ensures.books ∙ x.same.reading.front ∙ sym w.file.hold.place in
    nothing_alone {K = g.row.K} {D = g.row.D.Denot} g.D.Disk f.books.shape s u mid.books mid.disk swept box.0 box.1 c.front.result at nothing

pub returns-in_err-carry_out-in-Change-clause-answers : goal.returns-in_err-carry_out-in-Change-clause-answers
returns-in_err-carry_out-in-Change-clause-answers g c = λ told p none is.
    let f = c.args.file.now in
    let mid = c.plan_swept.new.file in
    let u = c.args.update.now in
    let x = c.in_ok-plan_swept.ensures in
    let first = c.plan_swept.new.room.first.value in
    let second = c.plan_swept.new.room.second.value in
    let m = p.at in
    let w = open_settled {K = g.row.K} {D = g.row.D.Denot} g.D.Disk f.books p f.disk none is in
    let box = box_of f.books.shape m.layout m.table (updated_key u) w.file.hold.stands c.spelled-update.ensures.lawful.key in
    let plan = c.in-Change.plan in
    let chosen = subst (λ (o : Outcome g.row.K). IsOutcomeOf f.books.shape (count_by is_free mid.books.pages) m.layout m.table box.0 u first second o) c.in-Change.is (x.planned told m box.0 w box.1) in
    let of = subst (λ (shape : Shape). IsPlanOf shape m.layout m.table u box.0 first second plan) (sym x.same.reading.shape) chosen.is in
    let new = c.carry_out.new.file in
    let r = err_from_is_err_and c.from_residual-in_err-carry_out-in-Change.result c.from_residual-in_err-carry_out-in-Change.ensures.1 in
    let e = c.in_err-carry_out-in-Change.field-0.0 in
    let carried = c.in_err-carry_out-in-Change.ensures.carried (x.same.changes.honest ∙ told) m box.0 (x.same.stays m w) of in
    at_point (λ (q : Point g.row.K). IsAnsweredAt {K = g.row.K} {D = g.row.D.Denot} g.D.Disk f.books.shape q (request_of u) (reply_to u c.from_residual-in_err-carry_out-in-Change.result) f.disk new.books new.disk) p none
    (subst (λ (y : Result (Answer (Option (List ℕ))) Refusal). IsAnsweredAt {K = g.row.K} {D = g.row.D.Denot} g.D.Disk f.books.shape (settled_at m) (request_of u) (reply_to u y) f.disk new.books new.disk) (sym (r.1 ∙ ap Err r.2))
    (answered_carried {K = g.row.K} {D = g.row.D.Denot} g.D.Disk f.books.shape f mid x.same m w {T = Unit} box.0 u plan.note (Err e) new.books new.disk (request_of u) (reply_to u (Err e)) carried (λ q leads. failed_told f.books.shape m u box.0 plan.note chosen.is.change e q leads)))

pub returns-in_err-carry_out-in-Change-clause-lone : goal.returns-in_err-carry_out-in-Change-clause-lone
returns-in_err-carry_out-in-Change-clause-lone g c = λ told s w unclaimed.
    let f = c.args.file.now in
    let mid = c.plan_swept.new.file in
    let u = c.args.update.now in
    let x = c.in_ok-plan_swept.ensures in
    let first = c.plan_swept.new.room.first.value in
    let second = c.plan_swept.new.room.second.value in
    let m = standing_of s in
    let box = box_of f.books.shape s.layout s.table (updated_key u) w.file.hold.stands c.spelled-update.ensures.lawful.key in
    let there : IsOpenInSession {K = g.row.K} {D = g.row.D.Denot} g.D.Disk f.books m f.disk = record { kept = w.kept; file = w.file; session = w.session; meets = w.meets } in
    let swept = x.swept m s w unclaimed in
    let plan = c.in-Change.plan in
    let planned = subst (λ (o : Outcome g.row.K). IsOutcomeOf f.books.shape (count_by is_free mid.books.pages) s.layout s.table box.0 u first second o) c.in-Change.is (x.planned told m box.0 there box.1) in
    let chosen = subst (λ (n : ℕ). IsChosenPlan f.books.shape n s.layout s.table box.0 u first second plan) (swept.counted ∙ ap (λ (shape : Shape). free shape s) x.same.reading.shape) planned in
    let of = subst (λ (shape : Shape). IsPlanOf shape s.layout s.table u box.0 first second plan) (sym x.same.reading.shape) chosen.is in
    let new = c.carry_out.new.file in
    let r = err_from_is_err_and c.from_residual-in_err-carry_out-in-Change.result c.from_residual-in_err-carry_out-in-Change.ensures.1 in
    let e = c.in_err-carry_out-in-Change.field-0.0 in
    let carried = subst (λ (shape : Shape). IsCarriedAlone {K = g.row.K} {T = Unit} g.D.Disk s u (change shape s box.0 u plan.note) (Err e) new.books new.disk) x.same.reading.shape (c.in_err-carry_out-in-Change.ensures.alone (x.same.changes.honest ∙ told) box.0 s swept of) in
    subst (λ (y : Result (Answer (Option (List ℕ))) Refusal). UnlessFailed y (IsAnsweredAlone {K = g.row.K} {D = g.row.D.Denot} g.D.Disk f.books.shape s (request_of u) (reply_to u y) new.books new.disk)) (sym (r.1 ∙ ap Err r.2))
    (carried_refused {K = g.row.K} {D = g.row.D.Denot} Unit g.D.Disk f.books.shape s u (change f.books.shape s box.0 u plan.note) e new.books new.disk (lone_change f.books.shape s box.0 u box.1 first second plan chosen) carried)

pub returns-in_err-carry_out-in-Change-clause-refused : goal.returns-in_err-carry_out-in-Change-clause-refused
returns-in_err-carry_out-in-Change-clause-refused g c =
    let f = c.args.file.now in
    let new = c.carry_out.new.file in
    let r = err_from_is_err_and c.from_residual-in_err-carry_out-in-Change.result c.from_residual-in_err-carry_out-in-Change.ensures.1 in
    let y = c.in_err-carry_out-in-Change.ensures in
    subst (λ (z : Result (Answer (Option (List ℕ))) Refusal). IfErr z (IsUpdateCause {K = g.row.K} {D = g.row.D.Denot} g.D.Disk c.args.update.now f new c.carry_out.new.room)) (sym (r.1 ∙ ap Err r.2))
    (change_cause {K = g.row.K} {D = g.row.D.Denot} g.D.Disk c.args.update.now f c.plan_swept.new.file new c.carry_out.new.room c.in_err-carry_out-in-Change.field-0.0 c.in_ok-plan_swept.ensures.same y.changes y.refused)

pub returns-in_err-carry_out-in-Change-clause-changes : goal.returns-in_err-carry_out-in-Change-clause-changes
returns-in_err-carry_out-in-Change-clause-changes g c = changes_then (λ x y step. step) (λ x y z one two. two ∙ one) c.in_ok-plan_swept.ensures.same.changes c.in_err-carry_out-in-Change.ensures.changes

pub returns-in_ok-carry_out-in-Change-clause-answers : goal.returns-in_ok-carry_out-in-Change-clause-answers
returns-in_ok-carry_out-in-Change-clause-answers g c = λ told p none is.
    let f = c.args.file.now in
    let mid = c.plan_swept.new.file in
    let u = c.args.update.now in
    let x = c.in_ok-plan_swept.ensures in
    let first = c.plan_swept.new.room.first.value in
    let second = c.plan_swept.new.room.second.value in
    let m = p.at in
    let w = open_settled {K = g.row.K} {D = g.row.D.Denot} g.D.Disk f.books p f.disk none is in
    let box = box_of f.books.shape m.layout m.table (updated_key u) w.file.hold.stands c.spelled-update.ensures.lawful.key in
    let plan = c.in-Change.plan in
    let chosen = subst (λ (o : Outcome g.row.K). IsOutcomeOf f.books.shape (count_by is_free mid.books.pages) m.layout m.table box.0 u first second o) c.in-Change.is (x.planned told m box.0 w box.1) in
    let of = subst (λ (shape : Shape). IsPlanOf shape m.layout m.table u box.0 first second plan) (sym x.same.reading.shape) chosen.is in
    let new = c.carry_out.new.file in
    let z = c.in_ok-carry_out-in-Change.ensures in
    let at : c.front-in-Change.result ≡ m.place + 1 = omega (arith, c.front-in-Change.ensures, ap (λ (b : Books). b.front) c.state-in-Change.ensures.books, z.moved, x.same.reading.front, w.file.hold.place) in
    let carried = z.carried (x.same.changes.honest ∙ told) m box.0 (x.same.stays m w) of in
    at_point (λ (q : Point g.row.K). IsAnsweredAt {K = g.row.K} {D = g.row.D.Denot} g.D.Disk f.books.shape q (request_of u) (reply_to u (Ok record { at = c.front-in-Change.result; value = plan.old })) f.disk new.books new.disk) p none
    (answered_carried {K = g.row.K} {D = g.row.D.Denot} g.D.Disk f.books.shape f mid x.same m w {T = Unit} box.0 u plan.note (Ok tt) new.books new.disk (request_of u) (reply_to u (Ok record { at = c.front-in-Change.result; value = plan.old })) carried
    (λ q leads. made_told f.books.shape m u box.0 plan.note chosen.is.change (record { at = c.front-in-Change.result; value = plan.old }) q (λ i. record { at = at i; value = chosen.is.old i }) leads))

pub returns-in_ok-carry_out-in-Change-clause-lone : goal.returns-in_ok-carry_out-in-Change-clause-lone
returns-in_ok-carry_out-in-Change-clause-lone g c = λ told s w unclaimed.
    let f = c.args.file.now in
    let mid = c.plan_swept.new.file in
    let u = c.args.update.now in
    let x = c.in_ok-plan_swept.ensures in
    let first = c.plan_swept.new.room.first.value in
    let second = c.plan_swept.new.room.second.value in
    let m = standing_of s in
    let box = box_of f.books.shape s.layout s.table (updated_key u) w.file.hold.stands c.spelled-update.ensures.lawful.key in
    let there : IsOpenInSession {K = g.row.K} {D = g.row.D.Denot} g.D.Disk f.books m f.disk = record { kept = w.kept; file = w.file; session = w.session; meets = w.meets } in
    let swept = x.swept m s w unclaimed in
    let plan = c.in-Change.plan in
    let planned = subst (λ (o : Outcome g.row.K). IsOutcomeOf f.books.shape (count_by is_free mid.books.pages) s.layout s.table box.0 u first second o) c.in-Change.is (x.planned told m box.0 there box.1) in
    let chosen = subst (λ (n : ℕ). IsChosenPlan f.books.shape n s.layout s.table box.0 u first second plan) (swept.counted ∙ ap (λ (shape : Shape). free shape s) x.same.reading.shape) planned in
    let of = subst (λ (shape : Shape). IsPlanOf shape s.layout s.table u box.0 first second plan) (sym x.same.reading.shape) chosen.is in
    let new = c.carry_out.new.file in
    let z = c.in_ok-carry_out-in-Change.ensures in
    let at : c.front-in-Change.result ≡ s.front + 1 = omega (arith, c.front-in-Change.ensures, ap (λ (b : Books). b.front) c.state-in-Change.ensures.books, z.moved, x.same.reading.front, w.file.hold.place) in
    let carried = subst (λ (shape : Shape). IsCarriedAlone {K = g.row.K} {T = Unit} g.D.Disk s u (change shape s box.0 u plan.note) (Ok tt) new.books new.disk) x.same.reading.shape (z.alone (x.same.changes.honest ∙ told) box.0 s swept of) in
    carried_alone {K = g.row.K} {D = g.row.D.Denot} {T = Unit} g.D.Disk f.books.shape s u (change f.books.shape s box.0 u plan.note) tt (record { at = c.front-in-Change.result; value = plan.old }) new.books new.disk (lone_change f.books.shape s box.0 u box.1 first second plan chosen)
    (answer_is f.books.shape s box.0 u box.1 c.front-in-Change.result plan.old (s.front + 1) at chosen.is.old) carried

pub returns-in_ok-carry_out-in-Change-clause-changes : goal.returns-in_ok-carry_out-in-Change-clause-changes
returns-in_ok-carry_out-in-Change-clause-changes g c = changes_then (λ x y step. step) (λ x y z one two. two ∙ one) c.in_ok-plan_swept.ensures.same.changes c.in_ok-carry_out-in-Change.ensures.changes

pub returns-in-Nothing-clause-placed : goal.returns-in-Nothing-clause-placed
returns-in-Nothing-clause-placed g c =
    let x = c.in_ok-plan_swept.ensures in
    let fits = subst (λ (o : Outcome g.row.K). FitsUpdate c.args.update.now o) c.in-Nothing.is x.fits in
    nothing_placed c.args.update.now c.args.file.now.books.front c.plan_swept.new.file.books.front c.front.result fits (c.front.ensures ∙ ap (λ (b : Books). b.front) c.state.ensures.books) x.same.reading.front

pub returns-in_ok-carry_out-in-Change-clause-placed : goal.returns-in_ok-carry_out-in-Change-clause-placed
returns-in_ok-carry_out-in-Change-clause-placed g c =
    let x = c.in_ok-plan_swept.ensures in
    let z = c.in_ok-carry_out-in-Change.ensures in
    change_placed c.args.update.now c.args.file.now.books.front c.carry_out.new.file.books.front (record { at = c.front-in-Change.result; value = c.in-Change.plan.old }) (c.front-in-Change.ensures ∙ ap (λ (b : Books). b.front) c.state-in-Change.ensures.books) (omega (arith, z.moved, x.same.reading.front))
