use Rattle.std.proofs.Common.{◌≡◌, ◌∙◌, ℕ, List, None, sym, ap, subst}
use Rattle.std.proofs.lemmas.Result.{err_from_is_err_and}
use Rattle.std.specs.Prelude.{IfOk}
use Rattle.std.specs.List.{count_by}
use Rattle.grid_types.specs.declared.shape.Shape.{Shape}
use Rattle.grid_types.specs.declared.update.Update.{Update}
use Rattle.grid_model.specs.Layouts.{holder}
use Rattle.grid_model.specs.Cells.{cells}
use Rattle.grid_model.specs.Lone.{boundaries}
use Rattle.grid_model.specs.Notes.{put_note, updated_key}
use Rattle.page_states.specs.States.{is_free}
use Rattle.bucket_page.specs.declared.head.Head.{Head}
use Rattle.bucket_page.specs.OnPage.{head_told}
use Rattle.query_paths.specs.Pinned.{Place, IsPinnedTo}
use Rattle.query_paths.specs.Finding.{IsBoxFound}
use Rattle.query_paths.specs.Paths.{IsGetRefusal}
use Rattle.merge_paths.specs.Partners.{HasPartnerCause}
use Rattle.file_books.specs.Books.{Books}
use Rattle.grid_file.specs.CallLaws.{reads_on}
use Rattle.grid_file.specs.Pages.{front_place}
use Rattle.file_updates.specs.Outcomes.{FitsUpdate, IfChange, IsChosenPlan, IsOutcomeOf}
use Rattle.file_updates.specs.Ready.{IsReadyPlan}
use Rattle.file_updates.proofs.UpdateCauses.{by_get, cause_by_beside, honest_cut, honest_reading}
use Rattle.file_updates.proofs.planning.plan_update.Goals as goal

pub returns-in_err-head-clause-cause : goal.returns-in_err-head-clause-cause
returns-in_err-head-clause-cause g c =
    let place = front_place g.D.Disk c.args.file.now in
    let before = g.D.Disk.read_count c.args.file.now.disk in
    let now = g.D.Disk.read_count c.find_bucket.new.pinned.disk in
    let bytes = c.find_bucket.new.page in
    let why = c.in_err-head.field-0.0 in
    let refused : IsGetRefusal g.row.K place before now (updated_key c.args.update.now) bytes why = subst (λ (k : List ℕ). IsGetRefusal g.row.K place before now k bytes why) c.key_of.ensures c.in_err-head.ensures.cause.refused in
    let p = err_from_is_err_and c.from_residual.result c.from_residual.ensures.1 in
    rw (p.1, p.2) (record { later = c.find_bucket.ensures.cause.later; refused = by_get g.row.K place before now (updated_key c.args.update.now) bytes c.args.room.now.beside.value why refused })

pub returns-in_err-plan_found_put-in-Put-clause-honest : goal.returns-in_err-plan_found_put-in-Put-clause-honest
returns-in_err-plan_found_put-in-Put-clause-honest g c = λ L t e pin holds.
    let f = c.args.file.now in
    let s = f.books.shape in
    let r = c.in-Put.row in
    let bytes = c.find_bucket.new.page in
    let books : c.find_bucket.new.pinned.books ≡ f.books = c.find_bucket.ensures.same.same_rest.books in
    let key : c.key_of.result.now.numbers ≡ r.key.numbers = c.key_of.ensures ∙ ap (λ (u : Update g.row.K). updated_key u) c.in-Put.is in
    let found : IsBoxFound {K = g.row.K} s L t c.key_of.result.now.numbers e bytes c.in_ok-head.head = c.in_ok-head.ensures.answer L t e pin (ap (holder L) c.key_of.ensures ∙ holds) in
    let here : IsBoxFound {K = g.row.K} c.find_bucket.new.pinned.books.shape L t r.key.numbers e bytes (head_told g.row.K bytes) =
    subst (λ (z : Shape × List ℕ × Head g.row.K). IsBoxFound {K = g.row.K} z.0 L t z.1 e bytes z.2) (λ i. ((sym books i).shape, key i, c.in_ok-head.ensures.expected.head_is i)) found in
    let pinned : IsPinnedTo {K = g.row.K} (front_place g.D.Disk c.find_bucket.new.pinned) L t = subst (λ (p : Place). IsPinnedTo {K = g.row.K} p L t) (sym c.find_bucket.ensures.same.same_place) pin in
    let none : put_note {K = g.row.K} s L t r.key.numbers ≡ None = ap (λ (b : Books). put_note {K = g.row.K} b.shape L t r.key.numbers) (sym books) ∙ c.in_err-plan_found_put-in-Put.ensures.refused L t e pinned here in
    let p = err_from_is_err_and c.from_residual-in_err-plan_found_put-in-Put.result c.from_residual-in_err-plan_found_put-in-Put.ensures.1 in
    rw (p.1, p.2) (honest_cut {K = g.row.K} s L t c.args.update.now r c.in_err-plan_found_put-in-Put.field-0.0 (cells c.find_bucket.new.pinned.books.scales) (boundaries c.find_bucket.new.pinned.books.scales) c.in_err-plan_found_put-in-Put.ensures.cause c.in-Put.is none)

pub returns-in_ok-plan_found_put-in-Put-clause-planned : goal.returns-in_ok-plan_found_put-in-Put-clause-planned
returns-in_ok-plan_found_put-in-Put-clause-planned g c = λ L t e pin holds.
    let f = c.args.file.now in
    let s = f.books.shape in
    let r = c.in-Put.row in
    let bytes = c.find_bucket.new.page in
    let books : c.find_bucket.new.pinned.books ≡ f.books = c.find_bucket.ensures.same.same_rest.books in
    let key : c.key_of.result.now.numbers ≡ r.key.numbers = c.key_of.ensures ∙ ap (λ (u : Update g.row.K). updated_key u) c.in-Put.is in
    let found : IsBoxFound {K = g.row.K} s L t c.key_of.result.now.numbers e bytes c.in_ok-head.head = c.in_ok-head.ensures.answer L t e pin (ap (holder L) c.key_of.ensures ∙ holds) in
    let here : IsBoxFound {K = g.row.K} c.find_bucket.new.pinned.books.shape L t r.key.numbers e bytes (head_told g.row.K bytes) =
    subst (λ (z : Shape × List ℕ × Head g.row.K). IsBoxFound {K = g.row.K} z.0 L t z.1 e bytes z.2) (λ i. ((sym books i).shape, key i, c.in_ok-head.ensures.expected.head_is i)) found in
    let pinned : IsPinnedTo {K = g.row.K} (front_place g.D.Disk c.find_bucket.new.pinned) L t = subst (λ (p : Place). IsPinnedTo {K = g.row.K} p L t) (sym c.find_bucket.ensures.same.same_place) pin in
    let first = c.plan_found_put.new.room.first.value in
    let second = c.plan_found_put.new.room.second.value in
    let plan = c.in_ok-plan_found_put-in-Put.field-0 in
    subst (λ (z : Books × Update g.row.K). IsChosenPlan {K = g.row.K} z.0.shape (count_by is_free z.0.pages) L t e z.1 first second plan) (λ i. (books i, sym c.in-Put.is i))
    (record { is = c.in_ok-plan_found_put-in-Put.ensures.plan L t e pinned here; chosen = c.in_ok-plan_found_put-in-Put.ensures.note L t e pinned here })

pub returns-in-Remove-clause-planned : goal.returns-in-Remove-clause-planned
returns-in-Remove-clause-planned g c = λ L t e pin holds.
    let f = c.args.file.now in
    let s = f.books.shape in
    let k = c.in-Remove.key in
    let bytes = c.find_bucket.new.page in
    let first = c.plan_update_removal.new.room.first.value in
    let second = c.plan_update_removal.new.room.second.value in
    let books : c.find_bucket.new.pinned.books ≡ f.books = c.find_bucket.ensures.same.same_rest.books in
    let key : c.key_of.result.now.numbers ≡ k.numbers = c.key_of.ensures ∙ ap (λ (u : Update g.row.K). updated_key u) c.in-Remove.is in
    let found : IsBoxFound {K = g.row.K} s L t c.key_of.result.now.numbers e bytes c.in_ok-head.head = c.in_ok-head.ensures.answer L t e pin (ap (holder L) c.key_of.ensures ∙ holds) in
    let here : IsBoxFound {K = g.row.K} c.find_bucket.new.pinned.books.shape L t k.numbers e bytes c.in_ok-head.head =
    subst (λ (z : Books × List ℕ). IsBoxFound {K = g.row.K} z.0.shape L t z.1 e bytes c.in_ok-head.head) (λ i. (sym books i, key i)) found in
    subst (λ (z : Books × Update g.row.K). IfOk c.plan_update_removal.result (IsOutcomeOf {K = g.row.K} z.0.shape (count_by is_free z.0.pages) L t e z.1 first second)) (λ i. (books i, sym c.in-Remove.is i))
    (c.plan_update_removal.ensures.planned L t e (subst (λ (p : Place). IsPinnedTo {K = g.row.K} p L t) (sym c.find_bucket.ensures.same.same_place) pin) here)

pub returns-in-Remove-clause-ready : goal.returns-in-Remove-clause-ready
returns-in-Remove-clause-ready g c =
    subst (λ (z : Books × Update g.row.K). IfOk c.plan_update_removal.result (IfChange (IsReadyPlan {K = g.row.K} z.0 z.1))) (λ i. (c.find_bucket.ensures.same.same_rest.books i, sym c.in-Remove.is i)) c.plan_update_removal.ensures.ready

pub returns-in-Remove-clause-fits : goal.returns-in-Remove-clause-fits
returns-in-Remove-clause-fits g c = subst (λ (u : Update g.row.K). IfOk c.plan_update_removal.result (FitsUpdate u)) (sym c.in-Remove.is) c.plan_update_removal.ensures.fits

pub returns-in-Remove-clause-honest : goal.returns-in-Remove-clause-honest
returns-in-Remove-clause-honest g c = λ L t e pin holds.
    honest_reading {K = g.row.K} c.args.file.now.books.shape L t c.args.update.now c.plan_update_removal.result
    (c.plan_update_removal.ensures.honest L t (subst (λ (p : Place). IsPinnedTo {K = g.row.K} p L t) (sym c.find_bucket.ensures.same.same_place) pin))

pub returns-in-Remove-clause-cause : goal.returns-in-Remove-clause-cause
returns-in-Remove-clause-cause g c =
    let before = g.D.Disk.read_count c.args.file.now.disk in
    let mid = g.D.Disk.read_count c.find_bucket.new.pinned.disk in
    let now = g.D.Disk.read_count c.plan_update_removal.new.file.disk in
    let bytes = c.plan_update_removal.new.room.found.value in
    let beside = c.plan_update_removal.new.room.beside.value in
    let region = c.in_ok-head.head.region in
    let told : region ≡ (head_told g.row.K bytes).region = ap (λ (h : Head g.row.K). h.region) c.in_ok-head.ensures.expected.head_is ∙ sym (λ i. (head_told g.row.K (c.plan_update_removal.ensures.found i).value).region) in
    cause_by_beside g.row.K (front_place g.D.Disk c.args.file.now) before now (updated_key c.args.update.now) bytes beside mid c.find_bucket.ensures.cause.later region told c.plan_update_removal.result
    (subst (λ (p : Place). HasPartnerCause {K = g.row.K} p mid now region beside c.plan_update_removal.result) c.find_bucket.ensures.same.same_place c.plan_update_removal.ensures.cause)

pub returns-in-Remove-clause-same : goal.returns-in-Remove-clause-same
returns-in-Remove-clause-same g c = reads_on c.find_bucket.ensures.same.same_rest c.plan_update_removal.ensures.same
