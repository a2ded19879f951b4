use Rattle.std.proofs.Common.{◌≡◌, ap, subst, arith}
use Rattle.disk_trait.proofs.Calls.{changes_wider}
use Rattle.grid_model.specs.Lone.{published}
use Rattle.file_images.specs.Leads.{behind}
use Rattle.file_images.specs.Meets.{Meets}
use Rattle.file_books.specs.Effects.{committed_books, published_books}
use Rattle.file_state.specs.declared.change.Change.{Change}
use Rattle.file_state.specs.Memories.{publishing_of}
use Rattle.file_standing.specs.Files.{IsAlone}
use Rattle.file_standing.specs.Open.{IsOpenAlone, IsOpenInSession}
use Rattle.file_standing.specs.Steps.{batch_of_one, with_fresh}
use Rattle.commits.specs.Commits.{IsCommitting, IsDoubtful, StaysOrMoves}
use Rattle.grid_file.specs.Files.{OpenFile}
use Rattle.durable_updates.proofs.Commits.{committed_carried, committed_claims, committed_goes, doubted_carried, rose_higher}
use Rattle.durable_updates.proofs.committing.commit_plan.Goals as goal

pub returns-in-Ok-clause-carried : goal.returns-in-Ok-clause-carried
returns-in-Ok-clause-carried g c = λ k m e fresh is meets.
    let d = c.args.file.now.disk in
    let b = c.args.file.now.books in
    let u = c.args.update.now in
    let pages = c.args.file.now.claimed in
    let new = c.commit.new.self in
    let moves = subst (λ (x : Change g.row.K). IsCommitting b k m e u (publishing_of x pages) fresh → Meets g.D.Disk (with_fresh k fresh) d → StaysOrMoves g.D.Disk m (batch_of_one b u x.note) d new.disk) c.change_of.ensures (c.in-Ok.ensures.moments k m e fresh) is meets in
    let there = subst (λ (x : Change g.row.K). IsCommitting b k m e u (publishing_of x pages) fresh → Meets g.D.Disk (with_fresh k fresh) d → IsOpenInSession g.D.Disk new.books (behind m (batch_of_one b u x.note)) new.disk) c.change_of.ensures (c.in-Ok.ensures.committed k m e fresh) is meets in
    committed_carried {K = g.row.K} {D = g.row.D.Denot} g.D.Disk b m e u c.args.plan.now.note d new.disk moves new.books there

pub returns-in-Ok-clause-alone : goal.returns-in-Ok-clause-alone
returns-in-Ok-clause-alone g c = λ k m e fresh s is alone meets.
    let d = c.args.file.now.disk in
    let b = c.args.file.now.books in
    let u = c.args.update.now in
    let pages = c.args.file.now.claimed in
    let new = c.commit.new.self in
    subst (λ (x : Change g.row.K). IsCommitting b k m e u (publishing_of x pages) fresh → IsAlone b k m s → Meets g.D.Disk (with_fresh k fresh) d → IsOpenAlone g.D.Disk new.books (behind m (batch_of_one b u x.note)) (published e u x.note s) new.disk) c.change_of.ensures (c.in-Ok.ensures.alone k m e fresh s) is alone meets

pub returns-in-Ok-clause-claims : goal.returns-in-Ok-clause-claims
returns-in-Ok-clause-claims g c =
    let b = c.args.file.now.books in
    let pages = c.args.file.now.claimed in
    let books = subst (λ (x : Change g.row.K). c.commit.new.self.books ≡ committed_books (published_books b (publishing_of x pages))) c.change_of.ensures (ap (λ (f : OpenFile g.row.D.Denot). f.books) c.in-Ok.ensures.value) in
    committed_claims {K = g.row.K} b c.commit.new.self.books (publishing_of record { bucket = c.args.plan.now.bucket; note = c.args.plan.now.note; directory = c.args.plan.now.directory; records = c.args.plan.now.records } pages) c.requires.publishable books

pub returns-in-Ok-clause-same : goal.returns-in-Ok-clause-same
returns-in-Ok-clause-same g c = committed_goes {K = g.row.K} {D = g.row.D.Denot} c.args.file.now c.commit.new.self (publishing_of c.change_of.result c.args.file.now.claimed) c.in-Ok.ensures.value

pub returns-in-Ok-clause-changes : goal.returns-in-Ok-clause-changes
returns-in-Ok-clause-changes g c = changes_wider (λ x y step. step.elsewhere.same_length) c.in-Ok.ensures.changes

pub returns-in-Err-clause-carried : goal.returns-in-Err-clause-carried
returns-in-Err-clause-carried g c = λ k m e fresh is meets.
    let d = c.args.file.now.disk in
    let b = c.args.file.now.books in
    let u = c.args.update.now in
    let pages = c.args.file.now.claimed in
    let new = c.commit.new.self in
    let moves = subst (λ (x : Change g.row.K). IsCommitting b k m e u (publishing_of x pages) fresh → Meets g.D.Disk (with_fresh k fresh) d → StaysOrMoves g.D.Disk m (batch_of_one b u x.note) d new.disk) c.change_of.ensures (c.in-Err.ensures.moments k m e fresh) is meets in
    let there = subst (λ (x : Change g.row.K). IsCommitting b k m e u (publishing_of x pages) fresh → Meets g.D.Disk (with_fresh k fresh) d → IsDoubtful g.D.Disk new.books m (batch_of_one b u x.note) new.disk) c.change_of.ensures (c.in-Err.ensures.doubted k m e fresh) is meets in
    let low = c.write_faults-before.type_inv in
    let lower = c.write_faults.type_inv in
    let now = c.write_faults.ensures in
    let was = c.write_faults-before.ensures in
    let rose = c.in-Err.ensures.cause.failed in
    doubted_carried {K = g.row.K} {D = g.row.D.Denot} g.D.Disk b m e u c.args.plan.now.note d new.disk moves new.books c.write_faults.result c.write_faults-before.result (rose_higher c.write_faults-before.result c.write_faults.result low lower (omega (arith, rose, now, was))) there

pub returns-in-Err-clause-changes : goal.returns-in-Err-clause-changes
returns-in-Err-clause-changes g c = changes_wider (λ x y step. step.elsewhere.same_length) c.in-Err.ensures.changes
