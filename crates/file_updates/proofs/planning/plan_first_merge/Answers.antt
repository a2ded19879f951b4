use Rattle.std.proofs.Common.{◌≡◌, ◌∙◌, ℕ, Option, Some, IfSome, true, sym, ap, subst, arith}
use Rattle.std.specs.List.{count_by}
use Rattle.grid_types.specs.declared.layout_change.LayoutChange.TheVariants as note
use Rattle.grid_types.specs.declared.owner.Owner.TheVariants.{Bucket}
use Rattle.grid_types.specs.declared.update.Update.TheVariants.{Remove}
use Rattle.page_states.specs.States.{is_free}
use Rattle.bucket_page.specs.declared.head.Head.{Head}
use Rattle.bucket_page.specs.OnPage.{head_told}
use Rattle.change_plans.specs.Plans.{IsPageBeside}
use Rattle.history_pages.specs.PageLaws.{IsChange}
use Rattle.query_paths.specs.Finding.{IsBoxFound}
use Rattle.merge_paths.specs.Partners.{IsFirstPartner, IsLosing, IsNeighbourFound}
use Rattle.merge_paths.proofs.Found.{merge-lawful, other-number}
use Rattle.file_books.specs.Books.{Books, OwnersHavePages, has_page}
use Rattle.grid_file.specs.Pages.{front_place}
use Rattle.file_updates.specs.Plans.{IsPlannedAs}
use Rattle.file_updates.specs.Ready.{IsReadyPlan}
use Rattle.file_updates.proofs.Chosen.{none_first, merge_first}
use Rattle.file_updates.proofs.Numbers.{among_books}
use Rattle.file_updates.proofs.Planned.{noted_of}
use Rattle.file_updates.proofs.planning.plan_first_merge.Goals as goal

pub returns-in_default-clause-planned : goal.returns-in_default-clause-planned
returns-in_default-clause-planned g c = λ L t e pin found there.
    let b = c.args.file.now.books in
    let k = c.args.key.now in
    let head = c.args.head.now in
    let page = c.find_partner.new.beside in
    let losing : IsLosing {K = g.row.K} b.shape L t k.numbers e head = record { page = c.args.room.now.found.value; found = found; there = there } in
    none_first {K = g.row.K} b.shape (count_by is_free b.pages) L t k e head losing page c.args.room.now.first.value c.args.room.now.second.value
    (subst (IsFirstPartner {K = g.row.K} b.shape L t k.numbers e page) c.in_default.is (c.in_ok-other.ensures.answer L t k.numbers e pin losing))

pub returns-clause-planned : goal.returns-clause-planned
returns-clause-planned g c = λ L t e pin found there.
    let b = c.args.file.now.books in
    let k = c.args.key.now in
    let head = c.args.head.now in
    let other = c.in-Some.other in
    let n = note.Merge other.number in
    let bytes = c.args.room.now.found.value in
    let page = c.find_partner.new.beside in
    let first = c.plan_found_merge-plan.new.room.first.value in
    let second = c.plan_found_merge-plan.new.room.second.value in
    let losing : IsLosing {K = g.row.K} b.shape L t k.numbers e head = record { page = bytes; found = found; there = there } in
    let partner : IsFirstPartner {K = g.row.K} b.shape L t k.numbers e page (Some other) = subst (IsFirstPartner {K = g.row.K} b.shape L t k.numbers e page) c.in-Some.is (c.in_ok-other.ensures.answer L t k.numbers e pin losing) in
    let books : c.state-state.result.now ≡ b = c.state-state.ensures.books ∙ c.find_partner.ensures.same.same_rest.books in
    let free : c.free.result ≡ count_by is_free b.pages = c.free.ensures ∙ ap (λ (x : Books). count_by is_free x.pages) books in
    let told : IsBoxFound {K = g.row.K} b.shape L t k.numbers e bytes (head_told g.row.K bytes) = subst (λ (h : Head g.row.K). IsBoxFound {K = g.row.K} b.shape L t k.numbers e bytes h) c.requires.found.head_is found in
    let planned : IsPlannedAs {K = g.row.K} b.shape L t (Remove k) e n first second c.plan_found_merge-plan.result =
    subst (λ (x : Books). IsPlannedAs {K = g.row.K} x.shape L t (Remove k) e n first second c.plan_found_merge-plan.result) books
    (c.plan_found_merge-plan.ensures.planned L t e partner.page.other (ap (λ (x : Books). x.scales) books ∙ pin.scales_are)
    (subst (λ (x : Books). IsBoxFound {K = g.row.K} x.shape L t k.numbers e bytes (head_told g.row.K bytes)) (sym books) told)
    (subst (λ (x : Books). IsPageBeside {K = g.row.K} x.shape L t e (other.number, partner.page.other) page) (sym books) partner.page.beside)
    (subst (λ (x : Books). IsChange {K = g.row.K} x.shape L t (Remove k) n e) (sym books) (merge-lawful {K = g.row.K} b.shape L t k e head losing page other partner))) in
    merge_first {K = g.row.K} b.shape (count_by is_free b.pages) L t k e head losing page first second other partner c.plan_found_merge-plan.result c.if_afforded.result planned
    (λ p is few. c.if_afforded.ensures.taken p is (omega (arith, few, free))) (λ p is less. c.if_afforded.ensures.left p is (omega (arith, less, free)))

pub returns-clause-ready : goal.returns-clause-ready
returns-clause-ready g c =
    let f = c.args.file.now in
    let head = c.args.head.now in
    let other = c.in-Some.other in
    let bytes = c.args.room.now.found.value in
    let page = c.find_partner.new.beside in
    let same = c.find_partner.ensures.same.same_rest.books in
    let books : c.state-state.result.now ≡ f.books = c.state-state.ensures.books ∙ same in
    let owners : OwnersHavePages f.books = subst (λ (b : Books). OwnersHavePages b) same c.state-state.ensures.sound.books_are.owners in
    let neighbour : IsNeighbourFound {K = g.row.K} (front_place g.D.Disk f) head page other = subst (λ (o : Option (Head g.row.K)). IfSome o (IsNeighbourFound {K = g.row.K} (front_place g.D.Disk f) head page)) c.in-Some.is c.in_ok-other.ensures.expected in
    let number : head.number ≡ (head_told g.row.K bytes).number = ap (λ (h : Head g.row.K). h.number) c.requires.found.head_is in
    let there : has_page f.books (Bucket (head_told g.row.K bytes).number) ≡ true = ap (λ (n : ℕ). has_page f.books (Bucket n)) (sym number) ∙ sym (among_books f.books owners head.number) ∙ c.requires.found.among in
    let has : has_page f.books (Bucket other.number) ≡ true = sym (among_books f.books owners other.number) ∙ neighbour.found.among in
    noted_of {K = g.row.K} c.plan_found_merge-plan.result c.if_afforded.result (IsReadyPlan {K = g.row.K} f.books (Remove c.args.key.now)) c.if_afforded.ensures.from
    (subst (λ (b : Books). IfSome c.plan_found_merge-plan.result (IsReadyPlan {K = g.row.K} b (Remove c.args.key.now))) books
    (c.plan_found_merge-plan.ensures.ready (ap (λ (b : Books). has_page b (Bucket (head_told g.row.K bytes).number)) books ∙ there) (ap (λ (b : Books). has_page b (Bucket other.number)) books ∙ has)
    (λ is. other-number {K = g.row.K} (front_place g.D.Disk f) head page other neighbour (is ∙ sym number))))
