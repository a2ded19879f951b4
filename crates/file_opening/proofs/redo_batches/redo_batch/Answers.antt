use Rattle.std.proofs.Common.{◌+◌, ◌++◌, ℕ, drop, ◌∙◌, sym, subst, refl, arith}
use Rattle.std.proofs.lemmas.Bool.{false≢true}
use Rattle.grid_types.specs.declared.shape.Shape.{Shape}
use Rattle.disk_trait.proofs.Calls.{changes_none}
use Rattle.shadow_directory.specs.Calls.{IsFault}
use Rattle.shadow_directory.proofs.Faults.{err-goes}
use Rattle.checkpoints.proofs.Disks.{keeps-then}
use Rattle.file_updates.specs.Rooms.{HasRoomFor}
use Rattle.file_opening.proofs.RedoChanges.{root-then}
use Rattle.file_opening.proofs.Redoes.{redoes-none, redoes-then, redoes-to, stays-then, from-update, behind-updates, lawful-update}
use Rattle.file_opening.proofs.redo_batches.redo_batch.Goals as goal

pub loop-logged-init : goal.loop-logged-init
loop-logged-init g c =
    let disk = c.args.file.now.disk in
    record {
      redoes = λ rest. redoes-none {a = c.args.file.now} (c.args.updates.now ++ rest) (λ k told left. g.met.D.Disk.only_now disk k told left);
      root = record { shape = refl; session = refl; number = refl };
      changes = changes_none (λ x. refl) (λ k told left. g.met.D.Disk.only_now disk k told left);
      front = omega arith;
      none = c.requires.none;
      room = c.requires.room;
    }

pub loop-logged-preserved : goal.loop-logged-preserved
loop-logged-preserved g c =
    let was = c.loop-logged.invariant in
    let updates = c.args.updates.now in
    let i : ℕ = c.loop-logged.logged-index in
    let u = c.logged-item.result in
    let low = c.loop-logged-test.true in
    let lawful = lawful-update updates i u low c.logged-item.is c.requires.lawful in
    let now = c.in_ok-redo_update.ensures in
    record {
      redoes = λ rest. redoes-then (redoes-to (was.redoes rest) (from-update updates rest i u low c.logged-item.is)) was.changes.honest (record {
        goes = λ told m w. (now.redone m (drop (i + 1) updates ++ rest) told w lawful).1;
        stays = λ m w. now.moments m (drop (i + 1) updates ++ rest) w;
      });
      root = root-then was.root now.same;
      changes = keeps-then {D = g.row.D.Denot} was.changes now.changes;
      front = omega (arith, was.front, now.front c.if-not-branch.false);
      none = now.none;
      room = subst (λ (s : Shape). HasRoomFor s c.redo_update.new.room) was.root.shape now.room;
    }

pub returns-in_err-redo_update-clause-moments : goal.returns-in_err-redo_update-clause-moments
returns-in_err-redo_update-clause-moments g c = λ m rest w.
    let was = c.loop-logged.invariant in
    let updates = c.args.updates.now in
    let i : ℕ = c.loop-logged.logged-index in
    stays-then c.redo_update.new.file (redoes-to (was.redoes rest) (from-update updates rest i c.logged-item.result c.loop-logged-test.true c.logged-item.is)) was.changes.honest
    (λ n v. c.redo_update.ensures.moments n (drop (i + 1) updates ++ rest) v) m w

pub returns-in_err-redo_update-clause-honest : goal.returns-in_err-redo_update-clause-honest
returns-in_err-redo_update-clause-honest g c = λ m rest told w.
    let was = c.loop-logged.invariant in
    let updates = c.args.updates.now in
    let i : ℕ = c.loop-logged.logged-index in
    let first = redoes-to (was.redoes rest) (from-update updates rest i c.logged-item.result c.loop-logged-test.true c.logged-item.is) in
    err-goes c.from_residual.result _ IsFault c.from_residual.ensures.1 (c.in_err-redo_update.ensures.honest m (drop (i + 1) updates ++ rest) (was.changes.honest ∙ told) (first.goes told m w))

pub returns-in_err-redo_update-clause-changes : goal.returns-in_err-redo_update-clause-changes
returns-in_err-redo_update-clause-changes g c = keeps-then {D = g.row.D.Denot} c.loop-logged.invariant.changes c.redo_update.ensures.changes

pub returns-then-not-branch-clause-redone : goal.returns-then-not-branch-clause-redone
returns-then-not-branch-clause-redone g c = λ m rest told w.
    let was = c.loop-logged.invariant in
    let updates = c.args.updates.now in
    let i : ℕ = c.loop-logged.logged-index in
    let u = c.logged-item.result in
    let low = c.loop-logged-test.true in
    let first = redoes-to (was.redoes rest) (from-update updates rest i u low c.logged-item.is) in
    let done = c.in_ok-redo_update.ensures.redone m (drop (i + 1) updates ++ rest) (was.changes.honest ∙ told) (first.goes told m w) (lawful-update updates i u low c.logged-item.is c.requires.lawful) in
    absurd (false≢true (sym c.if-not-branch.true ∙ done.0))

pub returns-then-not-branch-clause-moments : goal.returns-then-not-branch-clause-moments
returns-then-not-branch-clause-moments g c = λ m rest w.
    let was = c.loop-logged.invariant in
    let updates = c.args.updates.now in
    let i : ℕ = c.loop-logged.logged-index in
    stays-then c.redo_update.new.file (redoes-to (was.redoes rest) (from-update updates rest i c.logged-item.result c.loop-logged-test.true c.logged-item.is)) was.changes.honest
    (λ n v. c.redo_update.ensures.moments n (drop (i + 1) updates ++ rest) v) m w

pub returns-then-not-branch-clause-changes : goal.returns-then-not-branch-clause-changes
returns-then-not-branch-clause-changes g c = keeps-then {D = g.row.D.Denot} c.loop-logged.invariant.changes c.redo_update.ensures.changes

pub returns-clause-redone : goal.returns-clause-redone
returns-clause-redone g c = λ m rest told w.
    let all = redoes-to (c.loop-logged.invariant.redoes rest) (behind-updates c.args.updates.now rest c.loop-logged.logged-index c.loop-logged-test.false) in
    (refl, all.goes told m w)

pub returns-clause-moments : goal.returns-clause-moments
returns-clause-moments g c = λ m rest w. (c.loop-logged.invariant.redoes rest).stays m w
