use Rattle.std.proofs.Common.{◌+◌, List, map, take, drop, sym, subst}
use Rattle.grid_types.specs.declared.owner.Owner.{Owner}
use Rattle.shadow_directory.specs.Pages.{BeganFor}
use Rattle.shadow_directory.specs.Calls.{IsCause}
use Rattle.shadow_directory.specs.NewPages.{bucket_pages}
use Rattle.shadow_directory.proofs.Faults.{err-goes, err-there}
use Rattle.shadow_directory.proofs.Keeping.{cause-behind}
use Rattle.shadow_directory.proofs.Owners.{owner, owners-split, owners-of}
use Rattle.shadow_directory.proofs.Written.{began-among}
use Rattle.shadow_directory.proofs.writing.write_buckets.Goals as goal

pub returns-in_err-write_page-clause-began : goal.returns-in_err-write_page-clause-began
returns-in_err-write_page-clause-began g c =
    let buckets = c.args.buckets.now in
    let n = c.loop-bucket.bucket-index in
    let old = g.P.ChangePages.written c.args.pages.now in
    let mid = g.P.ChangePages.written c.loop-bucket.pages in
    let new = g.P.ChangePages.written c.write_page.new.pages in
    err-there c.from_residual.result (BeganFor (map owner buckets) old new)
    (subst (λ (os : List Owner). BeganFor os old new) (sym (owners-split buckets n _ c.loop-bucket-test.true))
    (began-among (map owner (take n buckets)) (map owner (drop (n + 1) buckets)) _ old mid new (bucket_pages (take n buckets)) c.loop-bucket.invariant.written (owners-of (take n buckets)) c.in_err-write_page.ensures.began))

pub returns-in_err-write_page-clause-cause : goal.returns-in_err-write_page-clause-cause
returns-in_err-write_page-clause-cause g c = λ ns bytes.
    err-goes c.from_residual.result _ (IsCause g.P.ChangePages ns c.args.pages.now c.write_page.new.pages bytes) c.from_residual.ensures.1
    (cause-behind c.args.pages.now c.loop-bucket.pages c.write_page.new.pages ns bytes _ c.loop-bucket.invariant.keeps (c.in_err-write_page.ensures.cause ns bytes))
