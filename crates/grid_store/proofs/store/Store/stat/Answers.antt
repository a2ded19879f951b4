use Rattle.std.proofs.Common.{◌∙◌, refl, sym, subst}
use Rattle.grid_types.specs.declared.answer.Answer.{Answer}
use Rattle.grid_types.specs.declared.shape.Stat.{Stat}
use Rattle.grid_types.specs.declared.request.Reply.TheVariants.{Stood}
use Rattle.grid_types.specs.declared.request.Request.TheVariants.{Stat as AskStat}
use Rattle.grid_model.specs.Lone.{State}
use Rattle.grid_store.specs.Answered.{IsAnswered, IsAnsweredLone}
use Rattle.grid_store.specs.Stores.{OpenStore, IsStoreAlone}
use Rattle.grid_store.proofs.Answering.{seen_answered}
use Rattle.grid_store.proofs.Counting.{stat_answered, stat_lone}
use Rattle.grid_store.proofs.store.Store.stat.Goals as goal

pub returns-clause-answers : goal.returns-clause-answers
returns-clause-answers g c =
    let s = c.self.inside in
    let e = c.count_file.ensures in
    let old : OpenStore g.row.K g.row.D.Denot = record { file = s.file; next = s.next; room = s.room; query = s.query; page = s.page.value; stop = s.stop; opened = s.opened } in
    let new : OpenStore g.row.K g.row.D.Denot = record { file = c.count_file.new.file; next = s.next; room = s.room; query = s.query; page = s.page.value; stop = s.stop; opened = s.opened } in
    seen_answered {K = g.row.K} {D = g.row.D.Denot} g.D.Disk c.args.self.now old new AskStat (Stood c.count_file.result) c.self.view_is
    (λ told p is. subst (λ (a : Answer Stat). IsAnswered {K = g.row.K} g.D.Disk p AskStat (Stood a) old new) (sym e.value)
    (stat_answered {K = g.row.K} {D = g.row.D.Denot} g.D.Disk old new (λ running. e.swept (c.is_some.ensures ∙ running)) (λ stopped. e.same (c.is_some.ensures ∙ stopped)) e.disk e.reading refl (λ x h left. g.met.D.Disk.only_now s.file.disk x h left) told p is))

pub returns-clause-lone : goal.returns-clause-lone
returns-clause-lone g c =
    let s = c.self.inside in
    let e = c.count_file.ensures in
    let old : OpenStore g.row.K g.row.D.Denot = record { file = s.file; next = s.next; room = s.room; query = s.query; page = s.page.value; stop = s.stop; opened = s.opened } in
    let new : OpenStore g.row.K g.row.D.Denot = record { file = c.count_file.new.file; next = s.next; room = s.room; query = s.query; page = s.page.value; stop = s.stop; opened = s.opened } in
    subst (λ (seen : OpenStore g.row.K g.row.D.Denot). (t : State g.row.K) → IsStoreAlone g.D.Disk seen t → IsAnsweredLone g.D.Disk t AskStat (Stood c.count_file.result) seen new) c.self.view_is
    (λ t is. subst (λ (a : Answer Stat). IsAnsweredLone {K = g.row.K} g.D.Disk t AskStat (Stood a) old new) (sym e.value)
    (stat_lone {K = g.row.K} {D = g.row.D.Denot} g.D.Disk old new (λ running. e.swept (c.is_some.ensures ∙ running)) (λ stopped. e.same (c.is_some.ensures ∙ stopped)) e.disk e.reading refl t is))
