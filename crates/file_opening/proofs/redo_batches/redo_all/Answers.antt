use Rattle.std.proofs.Common.{◌≡◌, ◌<◌, ◌≤◌, ◌+◌, ◌^◌, ℕ, drop, length, ap, ◌∙◌, sym, subst, refl, arith, rules}
use Rattle.std.specs.Prelude.{All}
use Rattle.std.proofs.lemmas.Bool.{false≢true}
use Rattle.grid_types.specs.declared.shape.Shape.{Shape}
use Rattle.grid_types.specs.declared.sizes.TheConstants.{MOST_ATTRIBUTES}
use Rattle.grid_types.proofs.Places.{within-limits}
use Rattle.disk_trait.proofs.Calls.{changes_none}
use Rattle.grid_model.specs.Lawful.{IsLoggedUpdate}
use Rattle.shadow_directory.specs.Calls.{IsFault}
use Rattle.shadow_directory.proofs.Faults.{err-goes}
use Rattle.file_books.specs.Books.{Books, AreBooksOf}
use Rattle.file_images.specs.Leads.{updates_in}
use Rattle.checkpoints.proofs.Disks.{keeps-then}
use Rattle.file_updates.specs.Rooms.{HasRoomFor}
use Rattle.file_opening.proofs.RedoChanges.{root-then}
use Rattle.file_opening.proofs.Redoes.{redoes-none, redoes-then, redoes-to, stays-then, from-batch, count-batch, lawful-updates, first-of, behind-batches}
use Rattle.file_opening.proofs.redo_batches.redo_all.Goals as goal

-- a file has few attributes
few-attributes : (K : ℕ) (b : Books) → AreBooksOf K b → K ≤ MOST_ATTRIBUTES
few-attributes K b books = omega (arith, (within-limits b.shape books.lawful).few_attributes, books.attributes)

pub list-batch-items-requires : goal.list-batch-items-requires
list-batch-items-requires g c =
    let few : g.row.K ≤ MOST_ATTRIBUTES = few-attributes g.row.K c.args.file.now.books c.state-state.ensures.sound.books_are in
    search (rules, few)

pub as_slice-requires : goal.as_slice-requires
as_slice-requires g c =
    let few : g.row.K ≤ MOST_ATTRIBUTES = few-attributes g.row.K c.args.file.now.books c.state-state.ensures.sound.books_are in
    search (rules, few)

pub loop-batch-init : goal.loop-batch-init
loop-batch-init g c =
    let disk = c.args.file.now.disk in
    record {
      redoes = redoes-none {a = c.args.file.now} (updates_in c.args.taken.now) (λ k told left. g.met.D.Disk.only_now disk k told left);
      root = record { shape = refl; session = refl; number = refl };
      changes = changes_none (λ x. refl) (λ k told left. g.met.D.Disk.only_now disk k told left);
      count = refl;
      none = c.requires.none;
      room = c.requires.room;
    }

pub redo_batch-requires : goal.redo_batch-requires
redo_batch-requires g c =
    let was = c.loop-batch.invariant in
    let items = c.list-batch-items.result.now in
    let taken = c.args.taken.now in
    let i : ℕ = c.loop-batch.batch-index in
    let b = c.batch-item.result in
    let updates = c.as_slice.result.now in
    let few : g.row.K ≤ MOST_ATTRIBUTES = few-attributes g.row.K c.args.file.now.books c.state-state.ensures.sound.books_are in
    let room : HasRoomFor c.loop-batch.file.books.shape c.loop-batch.room = subst (λ (s : Shape). HasRoomFor s c.loop-batch.room) (sym was.root.shape) was.room in
    let lawful : All IsLoggedUpdate updates = lawful-updates items taken c.list-batch-items.ensures i b c.loop-batch-test.true c.batch-item.is updates c.as_slice.ensures.value c.args.file.now.books.session c.requires.lawful in
    let count = count-batch items taken c.list-batch-items.ensures i b c.loop-batch-test.true c.batch-item.is updates c.as_slice.ensures.value in
    let places : c.loop-batch.file.books.front + length updates < 2 ^ 63 = omega (arith, was.count, count, c.requires.places) in
    search (rules, few, room, was.none, lawful, places)

pub loop-batch-preserved : goal.loop-batch-preserved
loop-batch-preserved g c =
    let was = c.loop-batch.invariant in
    let items = c.list-batch-items.result.now in
    let taken = c.args.taken.now in
    let i : ℕ = c.loop-batch.batch-index in
    let b = c.batch-item.result in
    let updates = c.as_slice.result.now in
    let now = c.in_ok-redo_batch.ensures in
    let left = from-batch items taken c.list-batch-items.ensures i b c.loop-batch-test.true c.batch-item.is updates c.as_slice.ensures.value in
    let count = count-batch items taken c.list-batch-items.ensures i b c.loop-batch-test.true c.batch-item.is updates c.as_slice.ensures.value in
    record {
      redoes = redoes-then (redoes-to was.redoes left) was.changes.honest (record {
        goes = λ told m w. (now.redone m (updates_in (drop (i + 1) taken)) told w).1;
        stays = λ m w. now.moments m (updates_in (drop (i + 1) taken)) w;
      });
      root = root-then was.root now.same;
      changes = keeps-then {D = g.row.D.Denot} was.changes now.changes;
      count = omega (arith, was.count, count, now.front c.if-not-branch.false);
      none = now.none;
      room = subst (λ (s : Shape). HasRoomFor s c.redo_batch.new.room) was.root.shape now.room;
    }

pub returns-in_err-redo_batch-clause-moments : goal.returns-in_err-redo_batch-clause-moments
returns-in_err-redo_batch-clause-moments g c = λ m w.
    let was = c.loop-batch.invariant in
    let taken = c.args.taken.now in
    let i : ℕ = c.loop-batch.batch-index in
    let left = from-batch c.list-batch-items.result.now taken c.list-batch-items.ensures i c.batch-item.result c.loop-batch-test.true c.batch-item.is c.as_slice.result.now c.as_slice.ensures.value in
    stays-then c.redo_batch.new.file (redoes-to was.redoes left) was.changes.honest (λ n v. c.redo_batch.ensures.moments n (updates_in (drop (i + 1) taken)) v) m w

pub returns-in_err-redo_batch-clause-honest : goal.returns-in_err-redo_batch-clause-honest
returns-in_err-redo_batch-clause-honest g c = λ told m w.
    let was = c.loop-batch.invariant in
    let taken = c.args.taken.now in
    let i : ℕ = c.loop-batch.batch-index in
    let left = from-batch c.list-batch-items.result.now taken c.list-batch-items.ensures i c.batch-item.result c.loop-batch-test.true c.batch-item.is c.as_slice.result.now c.as_slice.ensures.value in
    let first = redoes-to was.redoes left in
    err-goes c.from_residual.result _ IsFault c.from_residual.ensures.1 (c.in_err-redo_batch.ensures.honest m (updates_in (drop (i + 1) taken)) (was.changes.honest ∙ told) (first.goes told m w))

pub returns-in_err-redo_batch-clause-changes : goal.returns-in_err-redo_batch-clause-changes
returns-in_err-redo_batch-clause-changes g c = keeps-then {D = g.row.D.Denot} c.loop-batch.invariant.changes c.redo_batch.ensures.changes

pub returns-then-not-branch-clause-redone : goal.returns-then-not-branch-clause-redone
returns-then-not-branch-clause-redone g c = λ told m w.
    let was = c.loop-batch.invariant in
    let taken = c.args.taken.now in
    let i : ℕ = c.loop-batch.batch-index in
    let left = from-batch c.list-batch-items.result.now taken c.list-batch-items.ensures i c.batch-item.result c.loop-batch-test.true c.batch-item.is c.as_slice.result.now c.as_slice.ensures.value in
    let first = redoes-to was.redoes left in
    let done = c.in_ok-redo_batch.ensures.redone m (updates_in (drop (i + 1) taken)) (was.changes.honest ∙ told) (first.goes told m w) in
    absurd (false≢true (sym c.if-not-branch.true ∙ done.0))

pub returns-then-not-branch-clause-moments : goal.returns-then-not-branch-clause-moments
returns-then-not-branch-clause-moments g c = λ m w.
    let was = c.loop-batch.invariant in
    let taken = c.args.taken.now in
    let i : ℕ = c.loop-batch.batch-index in
    let left = from-batch c.list-batch-items.result.now taken c.list-batch-items.ensures i c.batch-item.result c.loop-batch-test.true c.batch-item.is c.as_slice.result.now c.as_slice.ensures.value in
    stays-then c.redo_batch.new.file (redoes-to was.redoes left) was.changes.honest (λ n v. c.redo_batch.ensures.moments n (updates_in (drop (i + 1) taken)) v) m w

pub returns-then-not-branch-clause-changes : goal.returns-then-not-branch-clause-changes
returns-then-not-branch-clause-changes g c = keeps-then {D = g.row.D.Denot} c.loop-batch.invariant.changes c.redo_batch.ensures.changes

pub returns-then-not-branch-clause-far : goal.returns-then-not-branch-clause-far
returns-then-not-branch-clause-far g c =
    first-of c.list-batch-items.result.now c.args.taken.now c.list-batch-items.ensures c.loop-batch.batch-index c.batch-item.result c.loop-batch-test.true c.batch-item.is c.as_slice.result.now c.as_slice.ensures.value

pub returns-clause-far : goal.returns-clause-far
returns-clause-far g c =
    let none : length (updates_in (drop c.loop-batch.batch-index c.args.taken.now)) ≡ 0 =
    ap (λ us. length us) (behind-batches c.list-batch-items.result.now c.args.taken.now c.loop-batch.batch-index c.list-batch-items.ensures c.loop-batch-test.false) in
    omega (arith, c.loop-batch.invariant.count, none)

pub returns-clause-redone : goal.returns-clause-redone
returns-clause-redone g c = λ told m w.
    let all = redoes-to c.loop-batch.invariant.redoes (behind-batches c.list-batch-items.result.now c.args.taken.now c.loop-batch.batch-index c.list-batch-items.ensures c.loop-batch-test.false) in
    (refl, all.goes told m w)
