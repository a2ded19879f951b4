use Rattle.std.proofs.Common.{◌≡◌, ◌∙◌, ℕ, Some, IfSome, true, is_some, sym, ap, subst, true≢false}
use Rattle.grid_types.specs.declared.layout_change.LayoutChange.TheVariants as note
use Rattle.grid_types.specs.declared.owner.Owner.TheVariants.{Bucket}
use Rattle.grid_types.specs.declared.update.Update.TheVariants.{Remove}
use Rattle.bucket_page.specs.declared.head.Head.{Head}
use Rattle.bucket_page.specs.OnPage.{head_told}
use Rattle.change_plans.specs.Plans.{IsPageBeside}
use Rattle.history_pages.specs.OwnerPages.{owner_page}
use Rattle.history_pages.specs.PageLaws.{IsChange}
use Rattle.query_paths.specs.Finding.{IsBoxFound}
use Rattle.file_books.specs.Books.{Books, OwnersHavePages, has_page}
use Rattle.grid_file.specs.CallLaws.{reads_none}
use Rattle.grid_file.specs.Pages.{pages_given, file_page}
use Rattle.file_updates.specs.Plans.{IsPlannedAs}
use Rattle.file_updates.specs.Ready.{IsReadyPlan}
use Rattle.file_updates.proofs.Numbers.{among_books, among_boxes}
use Rattle.file_updates.proofs.Planned.{merges_two, beside_read, page_read}
use Rattle.file_updates.proofs.logged.plan_logged_merge.Goals as goal

pub returns-then-with-head-clause-planned : goal.returns-then-with-head-clause-planned
returns-then-with-head-clause-planned g c = λ L t e pin found change.
    let two = merges_two {K = g.row.K} c.args.file.now.books.shape L t c.args.key.now e c.args.with change in
    absurd (two.2 (sym (c.if-with-head.true ∙ found.number)))

pub returns-in-Ok-None-clause-planned : goal.returns-in-Ok-None-clause-planned
returns-in-Ok-None-clause-planned g c = λ L t e pin found change.
    let two = merges_two {K = g.row.K} c.args.file.now.books.shape L t c.args.key.now e c.args.with change in
    let there : is_some c.in-Ok-None.field-0 ≡ true = c.in-Ok-None.ensures.there.1 (among_boxes {K = g.row.K} g.D.Disk c.args.file.now L t pin c.args.with ∙ ap is_some two.1) in
    absurd (true≢false (sym there ∙ ap is_some c.in-Ok-None.field-0-is))

pub returns-in-Ok-Some-clause-planned : goal.returns-in-Ok-Some-clause-planned
returns-in-Ok-Some-clause-planned g c = λ L t e pin found change.
    let f = c.args.file.now in
    let k = c.args.key.now in
    let m = c.args.with in
    let bytes = c.args.room.now.found.value in
    let two = merges_two {K = g.row.K} f.books.shape L t k e m change in
    let books : c.state.result.now ≡ f.books = c.state.ensures.books ∙ c.read_bucket.ensures.stays.books in
    let page : owner_page L t (Bucket m) ≡ Some c.read_bucket.new.page = page_read (pages_given g.D.Disk f) (file_page f.books) (Bucket m) c.read_bucket.new.page c.read_bucket.result c.in-Ok-Some.field-0 c.in-Ok-Some.field-0-0 (owner_page L t) c.in-Ok-Some.is c.in-Ok-Some.field-0-is c.read_bucket.ensures.read pin.pages_are in
    let told : IsBoxFound f.books.shape L t k.numbers e bytes (head_told g.row.K bytes) = subst (λ (h : Head g.row.K). IsBoxFound f.books.shape L t k.numbers e bytes h) c.requires.found.head_is found in
    subst (λ (b : Books). IsPlannedAs b.shape L t (Remove k) e (note.Merge m) c.plan_found_merge.new.room.first.value c.plan_found_merge.new.room.second.value c.plan_found_merge.result) books
    (c.plan_found_merge.ensures.planned L t e two.0 (ap (λ (b : Books). b.scales) books ∙ pin.scales_are)
    (subst (λ (b : Books). IsBoxFound b.shape L t k.numbers e bytes (head_told g.row.K bytes)) (sym books) told)
    (subst (λ (b : Books). IsPageBeside b.shape L t e (m, two.0) c.read_bucket.new.page) (sym books) (beside_read {K = g.row.K} f.books.shape L t k e m change two.0 c.read_bucket.new.page two.1 two.2 page))
    (subst (λ (b : Books). IsChange b.shape L t (Remove k) (note.Merge m) e) (sym books) change))

pub returns-in-Ok-Some-clause-ready : goal.returns-in-Ok-Some-clause-ready
returns-in-Ok-Some-clause-ready g c =
    let f = c.args.file.now in
    let m = c.args.with in
    let bytes = c.args.room.now.found.value in
    let books : c.state.result.now ≡ f.books = c.state.ensures.books ∙ c.read_bucket.ensures.stays.books in
    let owners : OwnersHavePages f.books = subst (λ (b : Books). OwnersHavePages b) (sym (sym c.read_bucket.ensures.stays.books)) c.state.ensures.sound.books_are.owners in
    let number : c.args.head.now.number ≡ (head_told g.row.K bytes).number = ap (λ (h : Head g.row.K). h.number) c.requires.found.head_is in
    let there : has_page f.books (Bucket (head_told g.row.K bytes).number) ≡ true = ap (λ (n : ℕ). has_page f.books (Bucket n)) (sym number) ∙ sym (among_books f.books owners c.args.head.now.number) ∙ c.requires.found.among in
    let has : has_page f.books (Bucket m) ≡ true = sym (among_books f.books owners m) ∙ c.in-Ok-Some.ensures.there.0 (ap is_some c.in-Ok-Some.field-0-is) in
    subst (λ (b : Books). IfSome c.plan_found_merge.result (IsReadyPlan b (Remove c.args.key.now))) books
    (c.plan_found_merge.ensures.ready (ap (λ (b : Books). has_page b (Bucket (head_told g.row.K bytes).number)) books ∙ there) (ap (λ (b : Books). has_page b (Bucket m)) books ∙ has)
    (λ same. c.if-with-head.false (same ∙ sym number)))

pub returns-then-with-head-clause-same : goal.returns-then-with-head-clause-same
returns-then-with-head-clause-same g c = reads_none {K = g.row.K} c.args.file.now (λ image h left. g.met.D.Disk.only_now c.args.file.now.disk image h left)
