use Rattle.std.proofs.Common.{◌≤◌, inl, refl, arith}
use Rattle.std.proofs.lemmas.Result.{err_from_is_err_and}
use Rattle.disk_trait.proofs.Moments.{started}
use Rattle.grid_types.proofs.Places.{within-limits}
use Rattle.grid_store.proofs.opening.open_store.Goals as goal

pub unreachable-requires : goal.unreachable-requires
unreachable-requires g c =
    omega (arith, c.if-this-gt-MOST_ATTRIBUTES.true, (within-limits c.in-Ok.opened.file.books.shape c.state-state.ensures.sound.books_are.lawful).few_attributes, c.state-state.ensures.sound.books_are.attributes)

pub returns-in_default-clause-moments : goal.returns-in_default-clause-moments
returns-in_default-clause-moments g c = λ h m has.
    started g.D.Disk.moment g.D.Disk.left_since c.args.disk.value _ (λ image left. inl (g.met.D.Disk.only_now c.args.disk.value image h left))

pub returns-in_err-file-clause-moments : goal.returns-in_err-file-clause-moments
returns-in_err-file-clause-moments g c = let p = err_from_is_err_and c.from_residual.result c.from_residual.ensures.1 in rw (p.1, p.2) (λ h m has. c.in_err-file.ensures.moments h m has)

pub returns-in_err-file-clause-standing : goal.returns-in_err-file-clause-standing
returns-in_err-file-clause-standing g c = let p = err_from_is_err_and c.from_residual.result c.from_residual.ensures.1 in rw (p.1, p.2) (λ h m has. c.in_err-file.ensures.standing h m has)

pub returns-clause-reopened : goal.returns-clause-reopened
returns-clause-reopened g c = λ h m has. let was = c.in_ok-file.ensures.reopened h m has in record { file = was.alone; stop = refl; unclaimed = was.unclaimed }
