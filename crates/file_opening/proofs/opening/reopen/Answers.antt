use Rattle.std.proofs.Common.{◌+◌, ◌^◌, ◌<◌, Err, sym, ap, subst, ◌∙◌, length, arith}
use Rattle.disk_trait.specs.Calls.{Changes, HasCauses}
use Rattle.disk_trait.proofs.Calls.{causes_on, causes_after}
use Rattle.file_images.specs.Leads.{updates_in}
use Rattle.file_standing.specs.Open.{StaysStanding}
use Rattle.file_updates.specs.Rooms.{HasRoomFor}
use Rattle.checkpoints.specs.Disks.{KeepsLength}
use Rattle.checkpoints.proofs.Disks.{keeps-then}
use Rattle.checkpoints.proofs.Standing.{standing-then}
use Rattle.grid_file.specs.Files.{OpenFile}
use Rattle.journal_slots.specs.Scans.{AreLawfulOf}
use Rattle.file_opening.specs.declared.redo_batches.Redo.{Redo}
use Rattle.file_opening.specs.Redoing.{MayRefuseRedo}
use Rattle.file_opening.proofs.Reopening.{between, way-of, told-of, reopened-of, parts-change, has-come, whole-fault}
use Rattle.file_opening.proofs.opening.reopen.Goals as goal

pub redo_all-redone-requires : goal.redo_all-redone-requires
redo_all-redone-requires g c =
    let is = sym c.of-file.ensures in
    let lawful = c.requires.lawful in (
      omega arith,
      (
        omega arith,
        (
          omega arith,
          (
            subst (λ (f : OpenFile g.row.D.Denot). HasRoomFor {K = g.row.K} f.books.shape c.args.begun.room) is lawful.updates,
            (
              ap (λ (f : OpenFile g.row.D.Denot). f.claimed) c.of-file.ensures,
              (
                subst (λ (f : OpenFile g.row.D.Denot). AreLawfulOf {K = g.row.K} f.books.session c.args.begun.taken) is lawful.taken,
                subst (λ (f : OpenFile g.row.D.Denot). f.books.front + length (updates_in {K = g.row.K} c.args.begun.taken) < 2 ^ 63) is lawful.small,
              ),
            ),
          ),
        ),
      ),
    )

pub returns-in-Err-clause-moments : goal.returns-in-Err-clause-moments
returns-in-Err-clause-moments g c = λ h m w.
    let f = c.of-file.result in
    let way = way-of {D = g.row.D.Denot} f c.args.disk.value c.args.begun.state c.of-file.ensures {K = g.row.K} g.D.Disk m (updates_in c.args.begun.taken) w in
    between {D = g.row.D.Denot} f c.args.disk.value c.args.begun.state c.of-file.ensures (λ x y. StaysStanding {K = g.row.K} g.D.Disk m x y) c.redo_all-redone.new.file.disk c.into_parts-disk.result.0.value c.into_parts-disk.ensures.disk (c.redo_all-redone.ensures.moments m way)

pub returns-in-Err-clause-honest : goal.returns-in-Err-clause-honest
returns-in-Err-clause-honest g c = λ h m w.
    let f = c.of-file.result in
    let way = way-of {D = g.row.D.Denot} f c.args.disk.value c.args.begun.state c.of-file.ensures {K = g.row.K} g.D.Disk m (updates_in c.args.begun.taken) w in
    c.in-Err.ensures.honest (told-of {D = g.row.D.Denot} f c.args.disk.value c.args.begun.state c.of-file.ensures g.D.Disk h) m way

pub returns-in-Err-clause-causes : goal.returns-in-Err-clause-causes
returns-in-Err-clause-causes g c =
    causes_on {D = g.row.D.Denot} {g = g.D.Disk}
    (between {D = g.row.D.Denot} c.of-file.result c.args.disk.value c.args.begun.state c.of-file.ensures (λ x y. HasCauses {T = Redo} g.D.Disk MayRefuseRedo x y (Err c.in-Err.refusal)) c.redo_all-redone.new.file.disk c.into_parts-disk.result.0.value c.into_parts-disk.ensures.disk c.in-Err.ensures.causes)

pub returns-in-Ok-finish-clause-reopened : goal.returns-in-Ok-finish-clause-reopened
returns-in-Ok-finish-clause-reopened g c = λ h m w.
    let come = has-come {D = g.row.D.Denot} g.D.Disk c.of-file.result c.redo_all-redone.new.file c.args.disk.value c.args.begun.state c.of-file.ensures c.into_parts-disk.result.1 c.deref_mut.result.now c.into_parts-disk.ensures.books (c.deref_mut.ensures.value ∙ c.into_parts-disk.ensures.disk) {K = g.row.K}
    m (updates_in c.args.begun.taken) c.in-Ok.redo c.in-Ok.ensures.redone c.redo_all-redone.ensures.moments h w in
    reopened-of {D = g.row.D.Denot} c.of.result c.finish.new.disk c.finish.new.state c.of.ensures {K = g.row.K} g.D.Disk m (c.in-Ok-finish.ensures.reopened m come.whole come.redone)

pub returns-in-Ok-finish-clause-moments : goal.returns-in-Ok-finish-clause-moments
returns-in-Ok-finish-clause-moments g c = λ h m w.
    let come = has-come {D = g.row.D.Denot} g.D.Disk c.of-file.result c.redo_all-redone.new.file c.args.disk.value c.args.begun.state c.of-file.ensures c.into_parts-disk.result.1 c.deref_mut.result.now c.into_parts-disk.ensures.books (c.deref_mut.ensures.value ∙ c.into_parts-disk.ensures.disk) {K = g.row.K}
    m (updates_in c.args.begun.taken) c.in-Ok.redo c.in-Ok.ensures.redone c.redo_all-redone.ensures.moments h w in
    let changes = parts-change {D = g.row.D.Denot} g.D.Disk c.of-file.result c.redo_all-redone.new.file c.args.disk.value c.args.begun.state c.of-file.ensures c.into_parts-disk.result.1 c.deref_mut.result.now c.into_parts-disk.ensures.books (c.deref_mut.ensures.value ∙ c.into_parts-disk.ensures.disk) c.redo_all-redone.ensures.changes in
    subst (λ (x : OpenFile g.row.D.Denot). StaysStanding {K = g.row.K} g.D.Disk m c.args.disk.value x.disk) (sym c.of.ensures)
    (standing-then {K = g.row.K} {D = g.row.D.Denot} g.D.Disk m changes.honest come.stays (c.in-Ok-finish.ensures.moments m come.whole come.redone))

pub returns-in-Ok-finish-clause-changes : goal.returns-in-Ok-finish-clause-changes
returns-in-Ok-finish-clause-changes g c =
    let changes = parts-change {D = g.row.D.Denot} g.D.Disk c.of-file.result c.redo_all-redone.new.file c.args.disk.value c.args.begun.state c.of-file.ensures c.into_parts-disk.result.1 c.deref_mut.result.now c.into_parts-disk.ensures.books (c.deref_mut.ensures.value ∙ c.into_parts-disk.ensures.disk) c.redo_all-redone.ensures.changes in
    subst (λ (x : OpenFile g.row.D.Denot). Changes g.D.Disk KeepsLength c.args.disk.value x.disk) (sym c.of.ensures) (keeps-then {D = g.row.D.Denot} changes c.finish.ensures.changes)

pub returns-in-Err-finish-clause-moments : goal.returns-in-Err-finish-clause-moments
returns-in-Err-finish-clause-moments g c = λ h m w.
    let come = has-come {D = g.row.D.Denot} g.D.Disk c.of-file.result c.redo_all-redone.new.file c.args.disk.value c.args.begun.state c.of-file.ensures c.into_parts-disk.result.1 c.deref_mut.result.now c.into_parts-disk.ensures.books (c.deref_mut.ensures.value ∙ c.into_parts-disk.ensures.disk) {K = g.row.K}
    m (updates_in c.args.begun.taken) c.in-Ok.redo c.in-Ok.ensures.redone c.redo_all-redone.ensures.moments h w in
    let changes = parts-change {D = g.row.D.Denot} g.D.Disk c.of-file.result c.redo_all-redone.new.file c.args.disk.value c.args.begun.state c.of-file.ensures c.into_parts-disk.result.1 c.deref_mut.result.now c.into_parts-disk.ensures.books (c.deref_mut.ensures.value ∙ c.into_parts-disk.ensures.disk) c.redo_all-redone.ensures.changes in
    standing-then {K = g.row.K} {D = g.row.D.Denot} g.D.Disk m changes.honest come.stays (c.finish.ensures.moments m come.whole come.redone)

pub returns-in-Err-finish-clause-honest : goal.returns-in-Err-finish-clause-honest
returns-in-Err-finish-clause-honest g c = λ h m w.
    let come = has-come {D = g.row.D.Denot} g.D.Disk c.of-file.result c.redo_all-redone.new.file c.args.disk.value c.args.begun.state c.of-file.ensures c.into_parts-disk.result.1 c.deref_mut.result.now c.into_parts-disk.ensures.books (c.deref_mut.ensures.value ∙ c.into_parts-disk.ensures.disk) {K = g.row.K}
    m (updates_in c.args.begun.taken) c.in-Ok.redo c.in-Ok.ensures.redone c.redo_all-redone.ensures.moments h w in
    let changes = parts-change {D = g.row.D.Denot} g.D.Disk c.of-file.result c.redo_all-redone.new.file c.args.disk.value c.args.begun.state c.of-file.ensures c.into_parts-disk.result.1 c.deref_mut.result.now c.into_parts-disk.ensures.books (c.deref_mut.ensures.value ∙ c.into_parts-disk.ensures.disk) c.redo_all-redone.ensures.changes in
    let books = c.into_parts-disk.result.1 in
    whole-fault g.row.K books.shape (g.D.Disk.seen c.deref_mut.result.now) books.session c.in-Ok.redo c.in-Err-finish.refusal come.whole (c.in-Err-finish.ensures.told (changes.honest ∙ h))

pub returns-in-Err-finish-clause-changes : goal.returns-in-Err-finish-clause-changes
returns-in-Err-finish-clause-changes g c =
    let changes = parts-change {D = g.row.D.Denot} g.D.Disk c.of-file.result c.redo_all-redone.new.file c.args.disk.value c.args.begun.state c.of-file.ensures c.into_parts-disk.result.1 c.deref_mut.result.now c.into_parts-disk.ensures.books (c.deref_mut.ensures.value ∙ c.into_parts-disk.ensures.disk) c.redo_all-redone.ensures.changes in
    keeps-then {D = g.row.D.Denot} changes c.finish.ensures.changes

pub returns-in-Err-finish-clause-causes : goal.returns-in-Err-finish-clause-causes
returns-in-Err-finish-clause-causes g c =
    let changes = parts-change {D = g.row.D.Denot} g.D.Disk c.of-file.result c.redo_all-redone.new.file c.args.disk.value c.args.begun.state c.of-file.ensures c.into_parts-disk.result.1 c.deref_mut.result.now c.into_parts-disk.ensures.books (c.deref_mut.ensures.value ∙ c.into_parts-disk.ensures.disk) c.redo_all-redone.ensures.changes in
    causes_on {D = g.row.D.Denot} {g = g.D.Disk} (causes_after {D = g.row.D.Denot} {g = g.D.Disk} changes.reads changes.writes c.in-Err-finish.ensures.causes)
