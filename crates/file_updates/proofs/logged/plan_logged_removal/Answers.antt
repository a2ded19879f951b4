use Rattle.std.proofs.Common.{◌≡◌, ◌∙◌, ℕ, [], sym, ap, subst}
use Rattle.std.specs.Prelude.{IfOk}
use Rattle.grid_types.specs.declared.layout_change.LayoutChange.{LayoutChange}
use Rattle.grid_types.specs.declared.layout_change.LayoutChange.TheVariants as note
use Rattle.grid_types.specs.declared.owner.Owner.TheVariants.{Bucket}
use Rattle.grid_types.specs.declared.update.Update.TheVariants.{Remove}
use Rattle.bucket_page.specs.declared.head.Head.{Head}
use Rattle.bucket_page.specs.OnPage.{head_told}
use Rattle.history_pages.specs.PageLaws.{IsChange}
use Rattle.query_paths.specs.Finding.{IsBoxFound}
use Rattle.file_books.specs.Books.{has_page}
use Rattle.grid_file.specs.CallLaws.{reads_none}
use Rattle.file_updates.specs.Plans.{IsPlannedAs}
use Rattle.file_updates.proofs.Numbers.{among_books}
use Rattle.file_updates.proofs.Planned.{planned_as, removal_uncut}
use Rattle.file_updates.proofs.logged.plan_logged_removal.Goals as goal

pub returns-in-Plain-clause-same : goal.returns-in-Plain-clause-same
returns-in-Plain-clause-same g c = reads_none {K = g.row.K} c.args.file.now (λ image h left. g.met.D.Disk.only_now c.args.file.now.disk image h left)

pub returns-in-Plain-clause-planned : goal.returns-in-Plain-clause-planned
returns-in-Plain-clause-planned g c = λ L t e pin found change.
    let s = c.args.file.now.books.shape in
    let k = c.args.key.now in
    let bytes = c.args.room.now.found.value in
    let first = c.plan_found_removal.new.room.first.value in
    let second = c.plan_found_removal.new.room.second.value in
    let told : IsBoxFound {K = g.row.K} s L t k.numbers e bytes (head_told g.row.K bytes) = subst (λ (h : Head g.row.K). IsBoxFound {K = g.row.K} s L t k.numbers e bytes h) c.requires.found.head_is found in
    subst (λ (n : LayoutChange). IsPlannedAs {K = g.row.K} s L t (Remove k) e n first second c.plan_found_removal.result) (sym c.in-Plain.is)
    (planned_as {K = g.row.K} s L t (Remove k) e first second [] c.plan_found_removal.result note.Plain (c.plan_found_removal.ensures.exactly s L t e told ∙ change.lawful.0) c.plan_found_removal.ensures.note (c.plan_found_removal.ensures.plan s L t e told))

pub returns-in-Plain-clause-ready : goal.returns-in-Plain-clause-ready
returns-in-Plain-clause-ready g c =
    let b = c.args.file.now.books in
    let bytes = c.args.room.now.found.value in
    let number : c.args.head.now.number ≡ (head_told g.row.K bytes).number = ap (λ (h : Head g.row.K). h.number) c.requires.found.head_is in
    c.plan_found_removal.ensures.ready b c.state-state.ensures.sound.books_are
    (ap (λ (n : ℕ). has_page b (Bucket n)) (sym number) ∙ sym (among_books b c.state-state.ensures.sound.books_are.owners c.args.head.now.number) ∙ c.requires.found.among)

pub returns-in-Cut-clause-planned : goal.returns-in-Cut-clause-planned
returns-in-Cut-clause-planned g c = λ L t e pin found change.
    let cut : IsChange {K = g.row.K} c.args.file.now.books.shape L t (Remove c.args.key.now) (note.Cut c.in-Cut.cut c.in-Cut.right) e = subst (λ (n : LayoutChange). IsChange {K = g.row.K} c.args.file.now.books.shape L t (Remove c.args.key.now) n e) c.in-Cut.is change in
    removal_uncut {K = g.row.K} c.args.file.now.books.shape L t c.args.key.now c.in-Cut.cut c.in-Cut.right cut.lawful

pub returns-in-Cut-clause-same : goal.returns-in-Cut-clause-same
returns-in-Cut-clause-same g c = reads_none {K = g.row.K} c.args.file.now (λ image h left. g.met.D.Disk.only_now c.args.file.now.disk image h left)

pub returns-in-Merge-clause-planned : goal.returns-in-Merge-clause-planned
returns-in-Merge-clause-planned g c = λ L t e pin found change.
    let s = c.args.file.now.books.shape in
    let first = c.plan_logged_merge.new.room.first.value in
    let second = c.plan_logged_merge.new.room.second.value in
    subst (λ (n : LayoutChange). IfOk c.plan_logged_merge.result (IsPlannedAs {K = g.row.K} s L t (Remove c.args.key.now) e n first second)) (sym c.in-Merge.is)
    (c.plan_logged_merge.ensures.planned L t e pin found (subst (λ (n : LayoutChange). IsChange {K = g.row.K} s L t (Remove c.args.key.now) n e) c.in-Merge.is change))
