use Rattle.std.proofs.Common.{rules, ◌≡◌, ◌≤◌, ℕ, sym, ap, subst, arith}
use Rattle.std.specs.Prelude.{IfOk, IfErr}
use Rattle.std.specs.List.{count_by}
use Rattle.grid_types.specs.declared.shape.Shape.{Shape}
use Rattle.grid_types.proofs.Places.{within-limits}
use Rattle.grid_types.specs.declared.sizes.TheConstants.{MOST_ATTRIBUTES}
use Rattle.grid_model.specs.Notes.{updated_key}
use Rattle.page_states.specs.States.{is_free}
use Rattle.query_paths.specs.Pinned.{Place}
use Rattle.grid_file.specs.Files.{OpenFile}
use Rattle.grid_file.specs.Pages.{front_place}
use Rattle.grid_file.proofs.Telling.{readings_tell}
use Rattle.file_updates.specs.Rooms.{HasRoomFor}
use Rattle.file_updates.specs.Outcomes.{HasUpdateCause, IsHonestRefusal, IsOutcomeOf}
use Rattle.durable_updates.proofs.Plannings.{planned-pinned, planned-place, planned-swept, planned-there}
use Rattle.durable_updates.proofs.planning.plan_swept.Goals as goal

pub plan_update-requires : goal.plan_update-requires
plan_update-requires g c =
    let books = c.state-state.ensures.sound.books_are in
    let few : g.row.K ≤ MOST_ATTRIBUTES = omega (arith, (within-limits c.sweep.new.self.books.shape books.lawful).few_attributes, books.attributes) in
    let room : HasRoomFor c.sweep.new.self.books.shape c.args.room.now = subst (λ (h : OpenFile g.row.D.Denot). HasRoomFor h.books.shape c.args.room.now) (sym c.sweep.ensures.value) c.requires.room in
    search (rules, few, room)

pub returns-clause-planned : goal.returns-clause-planned
returns-clause-planned g c = λ told m e w holds.
    let f = c.args.file.now in
    let clean = c.sweep.new.self in
    let new = c.plan_update.new.file in
    let reads = c.plan_update.ensures.same in
    let pinned = planned-pinned {K = g.row.K} {D = g.row.D.Denot} g.D.Disk f clean new c.sweep.ensures.value c.sweep.ensures.reading c.requires.none (λ x h left. g.met.D.Disk.only_now f.disk x h left) (λ x h left. g.met.D.Disk.only_now clean.disk x h left) reads (readings_tell g.D.Disk g.met.D.Disk.seen_now) told m w in
    subst (λ (z : Shape × ℕ). IfOk c.plan_update.result (IsOutcomeOf z.0 z.1 m.layout m.table e c.args.update.now c.plan_update.new.room.first.value c.plan_update.new.room.second.value))
    (λ i. (c.sweep.ensures.reading.shape i, count_by is_free (sym reads.books i).pages)) (c.plan_update.ensures.planned m.layout m.table e pinned holds)

pub returns-clause-swept : goal.returns-clause-swept
returns-clause-swept g c = λ m s w unclaimed.
    let f = c.args.file.now in
    let clean = c.sweep.new.self in
    planned-swept {K = g.row.K} {D = g.row.D.Denot} g.D.Disk f clean c.plan_update.new.file c.sweep.ensures.value c.sweep.ensures.reading c.requires.none (λ x h left. g.met.D.Disk.only_now f.disk x h left) (λ x h left. g.met.D.Disk.only_now clean.disk x h left) c.plan_update.ensures.same m s w unclaimed

pub returns-clause-honest : goal.returns-clause-honest
returns-clause-honest g c = λ told m e w holds.
    let f = c.args.file.now in
    let clean = c.sweep.new.self in
    let new = c.plan_update.new.file in
    let reads = c.plan_update.ensures.same in
    let pinned = planned-pinned {K = g.row.K} {D = g.row.D.Denot} g.D.Disk f clean new c.sweep.ensures.value c.sweep.ensures.reading c.requires.none (λ x h left. g.met.D.Disk.only_now f.disk x h left) (λ x h left. g.met.D.Disk.only_now clean.disk x h left) reads (readings_tell g.D.Disk g.met.D.Disk.seen_now) told m w in
    subst (λ (z : Shape). IfErr c.plan_update.result (IsHonestRefusal z m.layout m.table c.args.update.now)) c.sweep.ensures.reading.shape (c.plan_update.ensures.honest m.layout m.table e pinned holds)

pub returns-clause-cause : goal.returns-clause-cause
returns-clause-cause g c =
    let f = c.args.file.now in
    let clean = c.sweep.new.self in
    let new = c.plan_update.new.file in
    let place : front_place g.D.Disk clean ≡ front_place g.D.Disk f = planned-place {K = g.row.K} {D = g.row.D.Denot} g.D.Disk f clean new c.sweep.ensures.value c.sweep.ensures.reading c.requires.none (λ x h left. g.met.D.Disk.only_now f.disk x h left) (λ x h left. g.met.D.Disk.only_now clean.disk x h left) c.plan_update.ensures.same in
    let disk : clean.disk ≡ f.disk = ap (λ (x : OpenFile g.row.D.Denot). x.disk) c.sweep.ensures.value in
    subst (λ (z : Place × ℕ). HasUpdateCause g.row.K z.0 z.1 (g.D.Disk.read_count new.disk) (updated_key c.args.update.now) c.plan_update.new.room.found.value c.plan_update.new.room.beside.value c.plan_update.result)
    (λ i. (place i, g.D.Disk.read_count (disk i))) c.plan_update.ensures.cause

pub returns-clause-same : goal.returns-clause-same
returns-clause-same g c =
    let f = c.args.file.now in
    let clean = c.sweep.new.self in
    planned-there {K = g.row.K} {D = g.row.D.Denot} g.D.Disk f clean c.plan_update.new.file c.sweep.ensures.value c.sweep.ensures.reading c.requires.none (λ x h left. g.met.D.Disk.only_now f.disk x h left) (λ x h left. g.met.D.Disk.only_now clean.disk x h left) c.plan_update.ensures.same
