use Rattle.std.proofs.Common.{◌≡◌, ℕ, List, sym, ap, ◌∙◌, subst, length, arith}
use Rattle.query_paths.specs.Pinned.{Place, IsPinnedTo}
use Rattle.file_books.specs.Books.{Books}
use Rattle.file_books.specs.Effects.{IsPublishable}
use Rattle.update_plans.specs.Plans.{IsPlanOf}
use Rattle.grid_file.specs.Files.{OpenFile}
use Rattle.grid_file.specs.Keeping.{KeepsFile}
use Rattle.grid_file.specs.Pages.{front_place}
use Rattle.file_updates.specs.Writing.{publishing_by}
use Rattle.file_updates.proofs.Places.{claim_place}
use Rattle.file_updates.proofs.Refusing.{refusal_claimed}
use Rattle.file_updates.proofs.Counting.{few_pages, publishable_claimed}
use Rattle.file_updates.proofs.writing.write_update.Goals as goal

pub claim-requires : goal.claim-requires
claim-requires g c =
    let none : length c.args.file.now.claimed ≡ 0 = ap (λ (ps : List ℕ). length ps) c.requires.none in
    (omega arith, (c.requires.free, omega (arith, none, few_pages c.args.file.now.books c.args.plan.now c.state-state.ensures.sound.books_are c.requires.counts)))

pub returns-in-Ok-clause-written : goal.returns-in-Ok-clause-written
returns-in-Ok-clause-written g c = λ L t u e pinned is.
    let place : front_place g.D.Disk c.claim.new.self ≡ front_place g.D.Disk c.args.file.now = ap (λ (f : OpenFile g.row.D.Denot). front_place g.D.Disk f) c.claim.ensures.value ∙ claim_place g.D.Disk c.args.file.now c.state-state.ensures.sound.books_are.owners c.args.plan.now.pages in
    c.in-Ok.ensures.written L t u e (subst (λ (p : Place). IsPinnedTo {K = g.row.K} p L t) (sym place) pinned)
    (subst (λ (f : OpenFile g.row.D.Denot). IsPlanOf {K = g.row.K} f.books.shape L t u e c.args.room.now.first.value c.args.room.now.second.value c.args.plan.now) (sym c.claim.ensures.value) is)

pub returns-in-Ok-clause-publishable : goal.returns-in-Ok-clause-publishable
returns-in-Ok-clause-publishable g c = λ u ready place.
    subst (λ (z : Books × List ℕ). IsPublishable {K = g.row.K} z.0 (publishing_by c.args.plan.now z.1))
    (λ i. (sym (c.in-Ok.ensures.same.books ∙ ap (λ (f : OpenFile g.row.D.Denot). f.books) c.claim.ensures.value) i, sym (c.in-Ok.ensures.same.claimed ∙ ap (λ (f : OpenFile g.row.D.Denot). f.claimed) c.claim.ensures.value) i))
    (publishable_claimed {K = g.row.K} g.D.Disk c.args.file.now c.state-state.ensures.sound u c.args.plan.now ready c.requires.none c.requires.free place)

pub returns-in-Err-clause-honest : goal.returns-in-Err-clause-honest
returns-in-Err-clause-honest g c = λ L t u e pinned is.
    let place : front_place g.D.Disk c.claim.new.self ≡ front_place g.D.Disk c.args.file.now = ap (λ (f : OpenFile g.row.D.Denot). front_place g.D.Disk f) c.claim.ensures.value ∙ claim_place g.D.Disk c.args.file.now c.state-state.ensures.sound.books_are.owners c.args.plan.now.pages in
    c.in-Err.ensures.honest L t u e (subst (λ (p : Place). IsPinnedTo {K = g.row.K} p L t) (sym place) pinned)
    (subst (λ (f : OpenFile g.row.D.Denot). IsPlanOf {K = g.row.K} f.books.shape L t u e c.args.room.now.first.value c.args.room.now.second.value c.args.plan.now) (sym c.claim.ensures.value) is)

pub returns-in-Err-clause-undone : goal.returns-in-Err-clause-undone
returns-in-Err-clause-undone g c = record {
  failed = c.write_pages.new.file;
  keeps = subst (λ (f : OpenFile g.row.D.Denot). KeepsFile g.row.K g.D.Disk f c.write_pages.new.file) c.claim.ensures.value c.in-Err.ensures.same;
  back = c.give_back.ensures;
}

pub returns-in-Err-clause-cause : goal.returns-in-Err-clause-cause
returns-in-Err-clause-cause g c =
    refusal_claimed {K = g.row.K} g.D.Disk c.args.file.now c.state-state.ensures.sound c.args.plan.now.pages c.claim.new.self c.write_pages.new.file c.give_back.new.self c.claim.ensures.value c.give_back.ensures c.write_pages.new.room.parts.value.old_page c.in-Err.refusal
    c.in-Err.ensures.cause
