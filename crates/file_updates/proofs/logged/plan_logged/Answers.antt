use Rattle.std.proofs.Common.{◌≡◌, ◌∙◌, ℕ, List, Some, None, IfSome, sym, ap, subst, arith}
use Rattle.std.specs.Prelude.{IfOk}
use Rattle.grid_types.specs.declared.shape.Shape.{Shape}
use Rattle.grid_types.specs.declared.update.Update.{Update}
use Rattle.grid_types.specs.declared.update.Update.TheVariants.{Put, Remove}
use Rattle.grid_model.specs.Layouts.{holder}
use Rattle.grid_model.specs.Notes.{put_note, updated_key}
use Rattle.bucket_page.specs.declared.head.Head.{Head}
use Rattle.bucket_page.specs.OnPage.{head_told}
use Rattle.history_pages.specs.PageLaws.{IsChange}
use Rattle.query_paths.specs.Pinned.{Place, IsPinnedTo}
use Rattle.query_paths.specs.Finding.{IsBoxFound}
use Rattle.file_books.specs.Books.{Books}
use Rattle.grid_file.specs.CallLaws.{reads_on}
use Rattle.grid_file.specs.Pages.{front_place}
use Rattle.update_plans.specs.Plans.{IsPlanOf}
use Rattle.file_updates.specs.Plans.{IsPlannedAs}
use Rattle.file_updates.specs.Ready.{IsReadyPlan}
use Rattle.file_updates.proofs.Planned.{put_planned, put_refused, err_gives, noted_of, read_refusal}
use Rattle.file_updates.proofs.logged.plan_logged.Goals as goal

pub returns-in-Ok-clause-planned : goal.returns-in-Ok-clause-planned
returns-in-Ok-clause-planned g c = λ L t e pin holds lawful.
    let f = c.args.file.now in
    let s = f.books.shape in
    let r = c.in-Put.row in
    let bytes = c.find_bucket.new.page in
    let place : front_place g.D.Disk c.find_bucket.new.pinned ≡ front_place g.D.Disk f = c.find_bucket.ensures.same.same_place in
    let key : c.key_of.result.now.numbers ≡ r.key.numbers = c.key_of.ensures ∙ ap (λ (u : Update g.row.K). updated_key u) c.in-Put.is in
    let found : IsBoxFound {K = g.row.K} s L t c.key_of.result.now.numbers e bytes c.in_ok-head.head = c.in_ok-head.ensures.answer L t e pin (ap (holder L) c.key_of.ensures ∙ holds) in
    let here : IsBoxFound {K = g.row.K} c.find_bucket.new.pinned.books.shape L t r.key.numbers e bytes (head_told g.row.K bytes) =
    subst (λ (z : Shape × List ℕ × Head g.row.K). IsBoxFound {K = g.row.K} z.0 L t z.1 e bytes z.2) (λ i. ((sym place i).shape, key i, c.in_ok-head.ensures.expected.head_is i)) found in
    let pinned : IsPinnedTo {K = g.row.K} (front_place g.D.Disk c.find_bucket.new.pinned) L t = subst (λ (p : Place). IsPinnedTo {K = g.row.K} p L t) (sym place) pin in
    put_planned {K = g.row.K} s L t c.args.logged.now.update r e c.args.logged.now.note c.in-Put.is lawful c.plan_found_put.new.room.first.value c.plan_found_put.new.room.second.value c.in-Ok.plan c.as_noted.result
    (subst (λ (p : Place). IsPlanOf {K = g.row.K} p.shape L t (Put r) e c.plan_found_put.new.room.first.value c.plan_found_put.new.room.second.value c.in-Ok.plan) place (c.in-Ok.ensures.plan L t e pinned here))
    (subst (λ (p : Place). put_note {K = g.row.K} p.shape L t r.key.numbers ≡ Some c.in-Ok.plan.note) place (c.in-Ok.ensures.note L t e pinned here)) c.as_noted.ensures.same

pub returns-in-Ok-clause-ready : goal.returns-in-Ok-clause-ready
returns-in-Ok-clause-ready g c =
    noted_of {K = g.row.K} (Some c.in-Ok.plan) c.as_noted.result (λ p. IsReadyPlan c.args.file.now.books c.args.logged.now.update p) c.as_noted.ensures.from
    (subst (λ (z : Books × Update g.row.K). IsReadyPlan z.0 z.1 c.in-Ok.plan) (λ i. (c.find_bucket.ensures.same.same_rest.books i, sym c.in-Put.is i)) c.in-Ok.ensures.ready)

pub returns-in-Err-clause-planned : goal.returns-in-Err-clause-planned
returns-in-Err-clause-planned g c = λ L t e pin holds lawful.
    let f = c.args.file.now in
    let s = f.books.shape in
    let r = c.in-Put.row in
    let bytes = c.find_bucket.new.page in
    let place : front_place g.D.Disk c.find_bucket.new.pinned ≡ front_place g.D.Disk f = c.find_bucket.ensures.same.same_place in
    let key : c.key_of.result.now.numbers ≡ r.key.numbers = c.key_of.ensures ∙ ap (λ (u : Update g.row.K). updated_key u) c.in-Put.is in
    let found : IsBoxFound {K = g.row.K} s L t c.key_of.result.now.numbers e bytes c.in_ok-head.head = c.in_ok-head.ensures.answer L t e pin (ap (holder L) c.key_of.ensures ∙ holds) in
    let here : IsBoxFound {K = g.row.K} c.find_bucket.new.pinned.books.shape L t r.key.numbers e bytes (head_told g.row.K bytes) =
    subst (λ (z : Shape × List ℕ × Head g.row.K). IsBoxFound {K = g.row.K} z.0 L t z.1 e bytes z.2) (λ i. ((sym place i).shape, key i, c.in_ok-head.ensures.expected.head_is i)) found in
    let pinned : IsPinnedTo {K = g.row.K} (front_place g.D.Disk c.find_bucket.new.pinned) L t = subst (λ (p : Place). IsPinnedTo {K = g.row.K} p L t) (sym place) pin in
    put_refused {K = g.row.K} s L t c.args.logged.now.update r e c.args.logged.now.note c.in-Put.is lawful (ap (λ (p : Place). put_note {K = g.row.K} p.shape L t r.key.numbers) (sym place) ∙ err_gives (put_note {K = g.row.K} c.find_bucket.new.pinned.books.shape L t r.key.numbers ≡ None) c.plan_found_put.result c.in-Err.field-0 c.in-Err.is (c.plan_found_put.ensures.refused L t e pinned here))

pub returns-in-Remove-clause-planned : goal.returns-in-Remove-clause-planned
returns-in-Remove-clause-planned g c = λ L t e pin holds lawful.
    let f = c.args.file.now in
    let s = f.books.shape in
    let k = c.in-Remove.key in
    let n = c.args.logged.now.note in
    let bytes = c.find_bucket.new.page in
    let first = c.plan_logged_removal.new.room.first.value in
    let second = c.plan_logged_removal.new.room.second.value in
    let place : front_place g.D.Disk c.find_bucket.new.pinned ≡ front_place g.D.Disk f = c.find_bucket.ensures.same.same_place in
    let key : c.key_of.result.now.numbers ≡ k.numbers = c.key_of.ensures ∙ ap (λ (u : Update g.row.K). updated_key u) c.in-Remove.is in
    let found : IsBoxFound {K = g.row.K} s L t c.key_of.result.now.numbers e bytes c.in_ok-head.head = c.in_ok-head.ensures.answer L t e pin (ap (holder L) c.key_of.ensures ∙ holds) in
    let here : IsBoxFound {K = g.row.K} c.find_bucket.new.pinned.books.shape L t k.numbers e bytes c.in_ok-head.head =
    subst (λ (z : Shape × List ℕ). IsBoxFound {K = g.row.K} z.0 L t z.1 e bytes c.in_ok-head.head) (λ i. ((sym place i).shape, key i)) found in
    let change : IsChange {K = g.row.K} s L t c.args.logged.now.update n e = record { stands = pin.stands; lawful = lawful; holds = holds } in
    let changes : IsChange {K = g.row.K} c.find_bucket.new.pinned.books.shape L t (Remove k) n e = subst (λ (z : Place × Update g.row.K). IsChange {K = g.row.K} z.0.shape L t z.1 n e) (λ i. (sym place i, c.in-Remove.is i)) change in
    subst (λ (z : Place × Update g.row.K). IfOk c.plan_logged_removal.result (IsPlannedAs {K = g.row.K} z.0.shape L t z.1 e n first second)) (λ i. (place i, sym c.in-Remove.is i))
    (c.plan_logged_removal.ensures.planned L t e (subst (λ (p : Place). IsPinnedTo {K = g.row.K} p L t) (sym place) pin) here changes)

pub returns-in-Remove-clause-ready : goal.returns-in-Remove-clause-ready
returns-in-Remove-clause-ready g c =
    subst (λ (z : Books × Update g.row.K). IfOk c.plan_logged_removal.result (λ o. IfSome o (IsReadyPlan {K = g.row.K} z.0 z.1))) (λ i. (c.find_bucket.ensures.same.same_rest.books i, sym c.in-Remove.is i)) c.plan_logged_removal.ensures.ready

pub returns-in-Remove-clause-cause : goal.returns-in-Remove-clause-cause
returns-in-Remove-clause-cause g c =
    let before = g.D.Disk.read_count c.args.file.now.disk in
    let mid = g.D.Disk.read_count c.find_bucket.new.pinned.disk in
    let now = g.D.Disk.read_count c.plan_logged_removal.new.file.disk in
    record {
      later = omega (arith, c.find_bucket.ensures.cause.later, c.plan_logged_removal.ensures.later);
      refused = read_refusal g.row.K (front_place g.D.Disk c.args.file.now) before mid now (updated_key c.args.logged.now.update) c.plan_logged_removal.new.room.found.value c.plan_logged_removal.result c.find_bucket.ensures.cause.later
          c.plan_logged_removal.ensures.fault c.plan_logged_removal.ensures.cause;
    }

pub returns-in-Remove-clause-same : goal.returns-in-Remove-clause-same
returns-in-Remove-clause-same g c = reads_on c.find_bucket.ensures.same.same_rest c.plan_logged_removal.ensures.same
