use Rattle.std.proofs.Common.{◌≡◌, ◌<◌, ◌≤◌, ◌+◌, ◌^◌, [], ◌∷◌, IfSome, Option, Some, ap, ◌∙◌, sym, subst, refl, arith, rules}
use Rattle.std.specs.List.{count_by}
use Rattle.grid_types.specs.declared.sizes.TheConstants.{MOST_ATTRIBUTES}
use Rattle.grid_types.proofs.Places.{within-limits}
use Rattle.page_states.specs.States.{is_free}
use Rattle.shadow_directory.specs.Calls.{IsFault}
use Rattle.shadow_directory.proofs.Faults.{err-goes}
use Rattle.file_books.specs.Books.{Books}
use Rattle.checkpoints.proofs.Disks.{keeps-then}
use Rattle.checkpoints.proofs.Standing.{standing-then}
use Rattle.grid_file.specs.Files.{OpenFile}
use Rattle.grid_file.proofs.Telling.{redo_readings_tell}
use Rattle.file_updates.specs.Ready.{IsReadyPlan}
use Rattle.file_updates.specs.Rooms.{HasRoomFor}
use Rattle.file_opening.specs.Redoing.{stands_at, IsReadyForSome}
use Rattle.file_opening.proofs.RedoChanges.{planned-front, planned-none, planned-changes}
use Rattle.file_opening.proofs.RedoSteps.{box, next-change, next-pinned, planned-way, planning-stands, no-plan, enough, next-plan}
use Rattle.file_opening.proofs.redoing.redo_update.Goals as goal

-- what a plan is that is there
some-is : {A : Type 0} (P : A → Type 0) (o : Option A) (x : A) → o ≡ Some x → IfSome o P → P x
some-is {A = A} P o x is holds = subst (λ (y : Option A). IfSome y P) is holds

pub plan_logged-requires : goal.plan_logged-requires
plan_logged-requires g c =
    let books = c.state-state.ensures.sound.books_are in
    let few : g.row.K ≤ MOST_ATTRIBUTES = omega (arith, (within-limits c.sweep.new.self.books.shape books.lawful).few_attributes, books.attributes) in
    let room : HasRoomFor c.sweep.new.self.books.shape c.args.room.now = subst (λ (h : OpenFile g.row.D.Denot). HasRoomFor h.books.shape c.args.room.now) (sym c.sweep.ensures.value) c.requires.room in
    search (rules, few, room)

pub returns-in_err-plan-clause-moments : goal.returns-in_err-plan-clause-moments
returns-in_err-plan-clause-moments g c = λ m rest w.
    planning-stands {K = g.row.K} {D = g.row.D.Denot} g.D.Disk c.args.file.now c.args.logged.now m rest w c.sweep.new.self c.sweep.ensures.value c.plan_logged.new.file c.plan_logged.ensures.same

pub returns-in_err-plan-clause-honest : goal.returns-in_err-plan-clause-honest
returns-in_err-plan-clause-honest g c = λ m rest told w.
    let at = stands_at w in
    let fault = c.in_err-plan.ensures.honest at.layout at.table (next-pinned g.D.Disk c.args.file.now c.args.logged.now m rest w c.sweep.new.self c.sweep.ensures.value (redo_readings_tell g.D.Disk g.met.D.Disk.seen_now) told) in
    err-goes c.from_residual.result _ IsFault c.from_residual.ensures.1 (subst IsFault (sym fault) tt)

pub returns-in_default-clause-redone : goal.returns-in_default-clause-redone
returns-in_default-clause-redone g c = λ m rest told w lawful.
    let f = c.args.file.now in
    let u = c.args.logged.now in
    let at = stands_at w in
    let clean = c.sweep.new.self in
    let e = box {K = g.row.K} {D = g.row.D.Denot} g.D.Disk f u m rest w clean c.sweep.ensures.value in
    let change = next-change {K = g.row.K} {D = g.row.D.Denot} g.D.Disk f u m rest w clean c.sweep.ensures.value in
    let pinned = next-pinned g.D.Disk f u m rest w clean c.sweep.ensures.value (redo_readings_tell g.D.Disk g.met.D.Disk.seen_now) told in
    no-plan {K = g.row.K} {D = g.row.D.Denot} g.D.Disk f u m rest w clean c.sweep.ensures.value c.plan_logged.new.file c.plan_logged.ensures.same c.plan_logged.new.room.first.value c.plan_logged.new.room.second.value c.in_ok-plan.field-0
    (c.in_ok-plan.ensures.planned at.layout at.table e pinned change.holds change.lawful) c.in_default.is

pub returns-in_default-clause-moments : goal.returns-in_default-clause-moments
returns-in_default-clause-moments g c = λ m rest w.
    planning-stands {K = g.row.K} {D = g.row.D.Denot} g.D.Disk c.args.file.now c.args.logged.now m rest w c.sweep.new.self c.sweep.ensures.value c.plan_logged.new.file c.plan_logged.ensures.same

pub returns-then-plan-free-clause-redone : goal.returns-then-plan-free-clause-redone
returns-then-plan-free-clause-redone g c = λ m rest told w lawful.
    let f = c.args.file.now in
    let u = c.args.logged.now in
    let at = stands_at w in
    let clean = c.sweep.new.self in
    let e = box {K = g.row.K} {D = g.row.D.Denot} g.D.Disk f u m rest w clean c.sweep.ensures.value in
    let change = next-change {K = g.row.K} {D = g.row.D.Denot} g.D.Disk f u m rest w clean c.sweep.ensures.value in
    let pinned = next-pinned g.D.Disk f u m rest w clean c.sweep.ensures.value (redo_readings_tell g.D.Disk g.met.D.Disk.seen_now) told in
    let free : c.in-Some.plan.pages ≤ count_by is_free c.plan_logged.new.file.books.pages =
    enough {K = g.row.K} {D = g.row.D.Denot} g.D.Disk f u m rest w clean c.sweep.ensures.value c.plan_logged.new.file c.plan_logged.ensures.same c.plan_logged.new.room.first.value c.plan_logged.new.room.second.value c.in_ok-plan.field-0
    (c.in_ok-plan.ensures.planned at.layout at.table e pinned change.holds change.lawful) c.in-Some.plan c.in-Some.is in
    let lack : count_by is_free c.plan_logged.new.file.books.pages < c.in-Some.plan.pages = omega (arith, c.free.ensures, ap (λ (b : Books). count_by is_free b.pages) c.state.ensures.books, c.if-plan-free.true) in
    absurd (omega (arith, free, lack))

pub returns-then-plan-free-clause-moments : goal.returns-then-plan-free-clause-moments
returns-then-plan-free-clause-moments g c = λ m rest w.
    planning-stands {K = g.row.K} {D = g.row.D.Denot} g.D.Disk c.args.file.now c.args.logged.now m rest w c.sweep.new.self c.sweep.ensures.value c.plan_logged.new.file c.plan_logged.ensures.same

pub redo_planned-requires : goal.redo_planned-requires
redo_planned-requires g c =
    let mid = c.plan_logged.new.file in
    let sound : IsReadyPlan c.sweep.new.self.books c.args.logged.now.update c.in-Some.plan = some-is (IsReadyPlan c.sweep.new.self.books c.args.logged.now.update) c.in_ok-plan.field-0 c.in-Some.plan c.in-Some.is c.in_ok-plan.ensures.ready in
    let ready : IsReadyForSome mid.books c.in-Some.plan = record { update = c.args.logged.now.update; ready = subst (λ (b : Books). IsReadyPlan b c.args.logged.now.update c.in-Some.plan) (sym c.plan_logged.ensures.same.books) sound } in
    let free : c.in-Some.plan.pages ≤ count_by is_free mid.books.pages = omega (arith, c.free.ensures, ap (λ (b : Books). count_by is_free b.pages) c.state.ensures.books, c.if-plan-free.false) in
    let none : mid.claimed ≡ [] = planned-none {K = g.row.K} {D = g.row.D.Denot} g.D.Disk c.args.file.now c.sweep.new.self mid c.sweep.ensures.value c.plan_logged.ensures.same c.requires.none in
    let place : mid.books.front + 1 < 2 ^ 63 = omega (arith, c.requires.place, planned-front {K = g.row.K} {D = g.row.D.Denot} g.D.Disk c.args.file.now c.sweep.new.self mid c.sweep.ensures.value c.plan_logged.ensures.same) in
    let books = c.state.ensures.sound.books_are in
    let few : g.row.K ≤ MOST_ATTRIBUTES = omega (arith, (within-limits mid.books.shape books.lawful).few_attributes, books.attributes) in
    search (rules, few, ready, free, none, place)

pub returns-in_err-redo_planned-clause-moments : goal.returns-in_err-redo_planned-clause-moments
returns-in_err-redo_planned-clause-moments g c = λ m rest w.
    let f = c.args.file.now in
    let u = c.args.logged.now in
    let reads = c.plan_logged.ensures.same in
    let changes = planned-changes {K = g.row.K} {D = g.row.D.Denot} g.D.Disk f c.sweep.new.self c.plan_logged.new.file c.sweep.ensures.value reads in
    standing-then {K = g.row.K} {D = g.row.D.Denot} g.D.Disk m changes.honest (planning-stands {K = g.row.K} {D = g.row.D.Denot} g.D.Disk f u m rest w c.sweep.new.self c.sweep.ensures.value c.plan_logged.new.file reads)
    (c.redo_planned.ensures.moments m (u ∷ rest) (planned-way {K = g.row.K} {D = g.row.D.Denot} g.D.Disk f u m rest w c.sweep.new.self c.sweep.ensures.value c.plan_logged.new.file reads))

pub returns-in_err-redo_planned-clause-honest : goal.returns-in_err-redo_planned-clause-honest
returns-in_err-redo_planned-clause-honest g c = λ m rest told w.
    let f = c.args.file.now in
    let u = c.args.logged.now in
    let at = stands_at w in
    let clean = c.sweep.new.self in
    let mid = c.plan_logged.new.file in
    let reads = c.plan_logged.ensures.same in
    let e = box {K = g.row.K} {D = g.row.D.Denot} g.D.Disk f u m rest w clean c.sweep.ensures.value in
    let change = next-change {K = g.row.K} {D = g.row.D.Denot} g.D.Disk f u m rest w clean c.sweep.ensures.value in
    let pinned = next-pinned g.D.Disk f u m rest w clean c.sweep.ensures.value (redo_readings_tell g.D.Disk g.met.D.Disk.seen_now) told in
    let changes = planned-changes {K = g.row.K} {D = g.row.D.Denot} g.D.Disk f clean mid c.sweep.ensures.value reads in
    let ready : IsReadyPlan clean.books u.update c.in-Some.plan = some-is (IsReadyPlan clean.books u.update) c.in_ok-plan.field-0 c.in-Some.plan c.in-Some.is c.in_ok-plan.ensures.ready in
    err-goes c.from_residual-in_err-redo_planned.result _ IsFault c.from_residual-in_err-redo_planned.ensures.1
    (c.in_err-redo_planned.ensures.honest m u rest (changes.honest ∙ told) (next-plan {K = g.row.K} {D = g.row.D.Denot} g.D.Disk f u m rest w clean c.sweep.ensures.value mid reads c.plan_logged.new.room.first.value c.plan_logged.new.room.second.value c.in_ok-plan.field-0
    (c.in_ok-plan.ensures.planned at.layout at.table e pinned change.holds change.lawful) c.in-Some.plan c.in-Some.is ready))

pub returns-in_err-redo_planned-clause-changes : goal.returns-in_err-redo_planned-clause-changes
returns-in_err-redo_planned-clause-changes g c =
    keeps-then {D = g.row.D.Denot} (planned-changes {K = g.row.K} {D = g.row.D.Denot} g.D.Disk c.args.file.now c.sweep.new.self c.plan_logged.new.file c.sweep.ensures.value c.plan_logged.ensures.same) c.redo_planned.ensures.changes

pub returns-clause-redone : goal.returns-clause-redone
returns-clause-redone g c = λ m rest told w lawful.
    let f = c.args.file.now in
    let u = c.args.logged.now in
    let at = stands_at w in
    let clean = c.sweep.new.self in
    let mid = c.plan_logged.new.file in
    let reads = c.plan_logged.ensures.same in
    let e = box {K = g.row.K} {D = g.row.D.Denot} g.D.Disk f u m rest w clean c.sweep.ensures.value in
    let change = next-change {K = g.row.K} {D = g.row.D.Denot} g.D.Disk f u m rest w clean c.sweep.ensures.value in
    let pinned = next-pinned g.D.Disk f u m rest w clean c.sweep.ensures.value (redo_readings_tell g.D.Disk g.met.D.Disk.seen_now) told in
    let changes = planned-changes {K = g.row.K} {D = g.row.D.Denot} g.D.Disk f clean mid c.sweep.ensures.value reads in
    let ready : IsReadyPlan clean.books u.update c.in-Some.plan = some-is (IsReadyPlan clean.books u.update) c.in_ok-plan.field-0 c.in-Some.plan c.in-Some.is c.in_ok-plan.ensures.ready in (
      refl,
      c.in_ok-redo_planned.ensures.redone m u rest (changes.honest ∙ told) (next-plan {K = g.row.K} {D = g.row.D.Denot} g.D.Disk f u m rest w clean c.sweep.ensures.value mid reads c.plan_logged.new.room.first.value c.plan_logged.new.room.second.value c.in_ok-plan.field-0
          (c.in_ok-plan.ensures.planned at.layout at.table e pinned change.holds change.lawful) c.in-Some.plan c.in-Some.is ready) lawful,
    )

pub returns-clause-moments : goal.returns-clause-moments
returns-clause-moments g c = λ m rest w.
    let f = c.args.file.now in
    let u = c.args.logged.now in
    let reads = c.plan_logged.ensures.same in
    let changes = planned-changes {K = g.row.K} {D = g.row.D.Denot} g.D.Disk f c.sweep.new.self c.plan_logged.new.file c.sweep.ensures.value reads in
    standing-then {K = g.row.K} {D = g.row.D.Denot} g.D.Disk m changes.honest (planning-stands {K = g.row.K} {D = g.row.D.Denot} g.D.Disk f u m rest w c.sweep.new.self c.sweep.ensures.value c.plan_logged.new.file reads)
    (c.redo_planned.ensures.moments m (u ∷ rest) (planned-way {K = g.row.K} {D = g.row.D.Denot} g.D.Disk f u m rest w c.sweep.new.self c.sweep.ensures.value c.plan_logged.new.file reads))

pub returns-clause-changes : goal.returns-clause-changes
returns-clause-changes g c =
    keeps-then {D = g.row.D.Denot} (planned-changes {K = g.row.K} {D = g.row.D.Denot} g.D.Disk c.args.file.now c.sweep.new.self c.plan_logged.new.file c.sweep.ensures.value c.plan_logged.ensures.same) c.redo_planned.ensures.changes
