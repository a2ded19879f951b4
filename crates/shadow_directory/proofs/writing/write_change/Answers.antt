use Rattle.std.proofs.Common.{◌++◌, map}
use Rattle.std.proofs.lemmas.Result.{on_ok_weaker}
use Rattle.grid_types.specs.declared.owner.Owner.TheVariants.{Part}
use Rattle.grid_model.specs.Layouts.{directory, directory_part}
use Rattle.grid_model.specs.Notes.{after_note_at}
use Rattle.directory_changes.specs.Changes.{parts_changed}
use Rattle.shadow_directory.specs.Pages.{BeganFor}
use Rattle.shadow_directory.specs.Calls.{IsCause}
use Rattle.shadow_directory.specs.NewPages.{bucket_pages}
use Rattle.shadow_directory.proofs.Began.{began-behind}
use Rattle.shadow_directory.proofs.Faults.{err-goes, err-weaker}
use Rattle.shadow_directory.proofs.Keeping.{tells-on}
use Rattle.shadow_directory.proofs.Owners.{owner, owners-of}
use Rattle.shadow_directory.proofs.Told.{tells-layout, pages-of-change, parts-are-after}
use Rattle.shadow_directory.proofs.writing.write_change.Goals as goal

pub returns-in_err-write_buckets-clause-cause : goal.returns-in_err-write_buckets-clause-cause
returns-in_err-write_buckets-clause-cause g c =
    err-goes c.from_residual.result _ (IsCause g.P.ChangePages c.args.dims.now.intervals c.args.pages.now c.write_buckets.new.pages c.args.room.now.old_page) c.from_residual.ensures.1
    (c.in_err-write_buckets.ensures.cause c.args.dims.now.intervals c.args.room.now.old_page)

pub returns-clause-honest : goal.returns-clause-honest
returns-clause-honest g c = λ shape L t u n e told h same.
    c.write_parts.ensures.honest (directory L) (tells-on c.in_ok-write_buckets.ensures.same (tells-layout shape L t u g.P.ChangePages c.args.pages.now c.args.dims.now.intervals h.stands same told))

pub returns-clause-written : goal.returns-clause-written
returns-clause-written g c = λ shape L t u n e told h same is given.
    let ns = c.args.dims.now.intervals in
    let change = c.args.change.now in
    let tells = tells-on c.in_ok-write_buckets.ensures.same (tells-layout shape L t u g.P.ChangePages c.args.pages.now ns h.stands same told) in
    on_ok_weaker c.write_parts.result
    (pages-of-change shape L t u n e ns change c.args.buckets.now (g.P.ChangePages.written c.args.pages.now) (g.P.ChangePages.written c.write_buckets.new.pages) (g.P.ChangePages.written c.write_parts.new.pages) h same is given c.in_ok-write_buckets.ensures.written)
    (c.write_parts.ensures.written (directory L) (directory_part (after_note_at L e n)) tells (parts-are-after shape L t u n e ns change h same is))

pub returns-clause-began : goal.returns-clause-began
returns-clause-began g c =
    let buckets = c.args.buckets.now in
    let old = g.P.ChangePages.written c.args.pages.now in
    let mid = g.P.ChangePages.written c.write_buckets.new.pages in
    let new = g.P.ChangePages.written c.write_parts.new.pages in
    let parts = map Part (parts_changed {K = g.row.K} c.args.dims.now.intervals c.args.change.now) in
    err-weaker c.write_parts.result (BeganFor parts mid new) (BeganFor (map owner buckets ++ parts) old new)
    (began-behind (map owner buckets) parts old mid new (bucket_pages buckets) c.in_ok-write_buckets.ensures.written (owners-of buckets)) c.write_parts.ensures.began
