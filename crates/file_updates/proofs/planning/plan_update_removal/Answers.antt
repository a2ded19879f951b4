use Rattle.std.proofs.Common.{◌≡◌, ◌∙◌, ℕ, List, is_some, true, sym, ap, subst}
use Rattle.std.proofs.lemmas.Result.{err_from_is_err_and}
use Rattle.std.specs.List.{count_by}
use Rattle.grid_types.specs.declared.owner.Owner.TheVariants.{Bucket}
use Rattle.grid_model.specs.Tables.{get}
use Rattle.page_states.specs.States.{is_free}
use Rattle.bucket_page.specs.declared.head.Head.{Head}
use Rattle.bucket_page.specs.OnPage.{head_told}
use Rattle.query_paths.specs.Finding.{IsBoxFound}
use Rattle.file_books.specs.Books.{has_page}
use Rattle.grid_file.specs.CallLaws.{reads_none}
use Rattle.file_updates.specs.Outcomes.{IsFirstMerge}
use Rattle.file_updates.proofs.Chosen.{merge_chosen, plain_chosen, none_there}
use Rattle.file_updates.proofs.Numbers.{among_books}
use Rattle.file_updates.proofs.planning.plan_update_removal.Goals as goal

pub returns-then-not-is_there-clause-planned : goal.returns-then-not-is_there-clause-planned
returns-then-not-is_there-clause-planned g c = λ L t e pin found.
    none_there (get t c.args.key.now.numbers) (sym (c.is_there.ensures c.args.file.now.books.shape L t e found) ∙ c.if-not-is_there.true)

pub returns-then-not-is_there-clause-same : goal.returns-then-not-is_there-clause-same
returns-then-not-is_there-clause-same g c = reads_none {K = g.row.K} c.args.file.now (λ image h left. g.met.D.Disk.only_now c.args.file.now.disk image h left)

pub returns-in_err-plan-clause-honest : goal.returns-in_err-plan-clause-honest
returns-in_err-plan-clause-honest g c = λ L t pin.
    let p = err_from_is_err_and c.from_residual.result c.from_residual.ensures.1 in
    rw (p.1, p.2) (c.in_err-plan.ensures.honest L t pin)

pub returns-in-Some-clause-planned : goal.returns-in-Some-clause-planned
returns-in-Some-clause-planned g c = λ L t e pin found.
    let b = c.args.file.now.books in
    let k = c.args.key.now in
    let free = count_by is_free b.pages in
    let first = c.plan_first_merge.new.room.first.value in
    let second = c.plan_first_merge.new.room.second.value in
    let there : is_some (get t k.numbers) ≡ true = sym (c.is_there.ensures b.shape L t e found) ∙ c.if-not-is_there.false in
    merge_chosen {K = g.row.K} b.shape free L t k e first second c.in-Some.plan
    (subst (IsFirstMerge {K = g.row.K} b.shape free L t k e first second) c.in-Some.is (c.in_ok-plan.ensures.planned L t e pin found there))

pub returns-in-Some-plan_found_removal-clause-planned : goal.returns-in-Some-plan_found_removal-clause-planned
returns-in-Some-plan_found_removal-clause-planned g c = λ L t e pin found.
    let b = c.args.file.now.books in
    let k = c.args.key.now in
    let free = count_by is_free b.pages in
    let bytes = c.args.room.now.found.value in
    let third = c.plan_first_merge.new.room.first.value in
    let fourth = c.plan_first_merge.new.room.second.value in
    let there : is_some (get t k.numbers) ≡ true = sym (c.is_there.ensures b.shape L t e found) ∙ c.if-not-is_there.false in
    let told : IsBoxFound {K = g.row.K} b.shape L t k.numbers e bytes (head_told g.row.K bytes) = subst (λ (h : Head g.row.K). IsBoxFound {K = g.row.K} b.shape L t k.numbers e bytes h) c.requires.found.head_is found in
    let page : c.plan_first_merge.new.room.found.value ≡ bytes = λ i. (c.plan_first_merge.ensures.found i).value in
    let here : IsBoxFound {K = g.row.K} b.shape L t k.numbers e c.plan_first_merge.new.room.found.value (head_told g.row.K c.plan_first_merge.new.room.found.value) =
    subst (λ (x : List ℕ). IsBoxFound {K = g.row.K} b.shape L t k.numbers e x (head_told g.row.K x)) (sym page) told in
    plain_chosen {K = g.row.K} b.shape free L t k e c.plan_found_removal.new.room.first.value c.plan_found_removal.new.room.second.value third fourth c.in-Some-plan_found_removal.plan
    (subst (IsFirstMerge {K = g.row.K} b.shape free L t k e third fourth) c.in_default.is (c.in_ok-plan.ensures.planned L t e pin found there))
    (c.in-Some-plan_found_removal.ensures.plan b.shape L t e here) c.in-Some-plan_found_removal.ensures.note

pub returns-in-Some-plan_found_removal-clause-ready : goal.returns-in-Some-plan_found_removal-clause-ready
returns-in-Some-plan_found_removal-clause-ready g c =
    let b = c.args.file.now.books in
    let head = c.args.head.now in
    let are = c.state-state.ensures.sound.books_are in
    let number : head.number ≡ (head_told g.row.K c.plan_first_merge.new.room.found.value).number =
    ap (λ (h : Head g.row.K). h.number) c.requires.found.head_is ∙ sym (λ i. (head_told g.row.K (c.plan_first_merge.ensures.found i).value).number) in
    c.in-Some-plan_found_removal.ensures.ready b are (ap (λ (n : ℕ). has_page b (Bucket n)) (sym number) ∙ sym (among_books b are.owners head.number) ∙ c.requires.found.among)

pub returns-in-None-clause-planned : goal.returns-in-None-clause-planned
returns-in-None-clause-planned g c = λ L t e pin found.
    let b = c.args.file.now.books in
    let k = c.args.key.now in
    let bytes = c.args.room.now.found.value in
    let told : IsBoxFound {K = g.row.K} b.shape L t k.numbers e bytes (head_told g.row.K bytes) = subst (λ (h : Head g.row.K). IsBoxFound {K = g.row.K} b.shape L t k.numbers e bytes h) c.requires.found.head_is found in
    let page : c.plan_first_merge.new.room.found.value ≡ bytes = λ i. (c.plan_first_merge.ensures.found i).value in
    let here : IsBoxFound {K = g.row.K} b.shape L t k.numbers e c.plan_first_merge.new.room.found.value (head_told g.row.K c.plan_first_merge.new.room.found.value) =
    subst (λ (x : List ℕ). IsBoxFound {K = g.row.K} b.shape L t k.numbers e x (head_told g.row.K x)) (sym page) told in
    none_there (get t k.numbers) (sym (c.plan_found_removal.ensures.exactly b.shape L t e here) ∙ ap is_some c.in-None.is)
