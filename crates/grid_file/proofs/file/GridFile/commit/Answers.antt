use Rattle.std.proofs.Common.{rules, ◌≤◌, subst, sym, arith}
use Rattle.grid_types.proofs.Places.{within-limits}
use Rattle.grid_model.specs.Lone.{published}
use Rattle.file_images.specs.Leads.{behind}
use Rattle.file_images.specs.Meets.{Meets}
use Rattle.file_books.specs.Books.{Books}
use Rattle.file_state.specs.Claims.{given_back_books}
use Rattle.file_state.specs.Memories.{publishing_of}
use Rattle.file_standing.specs.Files.{IsAlone}
use Rattle.file_standing.specs.Open.{IsOpenInSession, IsOpenAlone}
use Rattle.file_standing.specs.Steps.{batch_of_one, with_fresh}
use Rattle.commits.specs.Commits.{IsCommitting, StaysOrMoves, IsDoubtful}
use Rattle.grid_file.specs.Files.{OpenFile, client}
use Rattle.grid_file.proofs.Doubts.{said_of, given-doubtful}
use Rattle.grid_file.proofs.file.GridFile.commit.Goals as goal

pub commit_update-requires : goal.commit_update-requires
commit_update-requires g c =
    let few : g.row.K ≤ 4 = omega (arith, (within-limits c.self.inside.state.shape c.geometry-geometry.ensures.books.lawful).few_attributes, c.geometry-geometry.ensures.books.attributes) in
    search (rules, few)

pub returns-in-Ok-clause-moments : goal.returns-in-Ok-clause-moments
returns-in-Ok-clause-moments g c = λ k m e fresh.
    said_of c.self.view_is c.deref_mut-disk.ensures.value c.list-pages.ensures.pages
    (λ d b ps. IsCommitting b k m e c.args.update.now (publishing_of {K = g.row.K} c.args.change.now ps) fresh → Meets g.D.Disk (with_fresh k fresh) d → StaysOrMoves g.D.Disk m (batch_of_one b c.args.update.now c.args.change.now.note) d c.commit_update.new.disk)
    (c.commit_update.ensures.moments k m e fresh)

pub returns-in-Ok-clause-committed : goal.returns-in-Ok-clause-committed
returns-in-Ok-clause-committed g c = λ k m e fresh.
    said_of c.self.view_is c.deref_mut-disk.ensures.value c.list-pages.ensures.pages
    (λ d b ps. IsCommitting b k m e c.args.update.now (publishing_of {K = g.row.K} c.args.change.now ps) fresh → Meets g.D.Disk (with_fresh k fresh) d
    → IsOpenInSession g.D.Disk c.commit_update.new.state (behind m (batch_of_one b c.args.update.now c.args.change.now.note)) c.commit_update.new.disk)
    (c.in-Ok.ensures.committed k m e fresh)

pub returns-in-Ok-clause-alone : goal.returns-in-Ok-clause-alone
returns-in-Ok-clause-alone g c = λ k m e fresh s.
    said_of c.self.view_is c.deref_mut-disk.ensures.value c.list-pages.ensures.pages
    (λ d b ps. IsCommitting b k m e c.args.update.now (publishing_of {K = g.row.K} c.args.change.now ps) fresh → IsAlone b k m s → Meets g.D.Disk (with_fresh k fresh) d
    → IsOpenAlone g.D.Disk c.commit_update.new.state (behind m (batch_of_one b c.args.update.now c.args.change.now.note)) (published e c.args.update.now c.args.change.now.note s) c.commit_update.new.disk)
    (c.in-Ok.ensures.alone k m e fresh s)

pub returns-in-Err-clause-moments : goal.returns-in-Err-clause-moments
returns-in-Err-clause-moments g c = λ k m e fresh.
    said_of c.self.view_is c.deref_mut-disk.ensures.value c.list-pages.ensures.pages
    (λ d b ps. IsCommitting b k m e c.args.update.now (publishing_of {K = g.row.K} c.args.change.now ps) fresh → Meets g.D.Disk (with_fresh k fresh) d → StaysOrMoves g.D.Disk m (batch_of_one b c.args.update.now c.args.change.now.note) d c.give_back.new.self.disk)
    (λ is was. subst (λ (f : OpenFile g.row.D.Denot). StaysOrMoves g.D.Disk m (batch_of_one c.self.inside.state c.args.update.now c.args.change.now.note) c.deref_mut-disk.result.now f.disk) (sym c.give_back.ensures)
    (c.commit_update.ensures.moments k m e fresh is was))

pub returns-in-Err-clause-doubted : goal.returns-in-Err-clause-doubted
returns-in-Err-clause-doubted g c = λ k m e fresh.
    said_of c.self.view_is c.deref_mut-disk.ensures.value c.list-pages.ensures.pages
    (λ d b ps. IsCommitting b k m e c.args.update.now (publishing_of {K = g.row.K} c.args.change.now ps) fresh → Meets g.D.Disk (with_fresh k fresh) d
    → IsDoubtful g.D.Disk c.give_back.new.self.books m (batch_of_one b c.args.update.now c.args.change.now.note) c.give_back.new.self.disk)
    (λ is was.
    let d = batch_of_one c.self.inside.state c.args.update.now c.args.change.now.note in
    subst (λ (f : OpenFile g.row.D.Denot). IsDoubtful g.D.Disk f.books m d f.disk) (sym c.give_back.ensures)
    (subst (λ (b : Books). IsDoubtful g.D.Disk (given_back_books client b) m d c.commit_update.new.disk) (sym c.in-Err.ensures.unpublished)
    (given-doubtful client c.self.inside.state g.D.Disk m d c.commit_update.new.disk (c.in-Err.ensures.doubted k m e fresh is was))))
