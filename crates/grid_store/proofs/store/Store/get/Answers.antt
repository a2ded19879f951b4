use Rattle.std.specs.Prelude.{OnOk}
use Rattle.std.proofs.Common.{IsTrue, refl, subst}
use Rattle.grid_types.specs.declared.request.Reply.TheVariants.{Got}
use Rattle.grid_types.specs.declared.request.Request.TheVariants.{Get}
use Rattle.grid_model.specs.Lone.{State}
use Rattle.grid_store.specs.Answered.{IsAnsweredLone, told_by}
use Rattle.grid_store.specs.Stores.{OpenStore, IsStoreAlone}
use Rattle.grid_store.proofs.Answering.{read_answered, seen_answered}
use Rattle.grid_store.proofs.Staying.{stays_alone, got_lone}
use Rattle.grid_store.proofs.store.Store.get.Goals as goal

pub returns-clause-answers : goal.returns-clause-answers
returns-clause-answers g c =
    let s = c.self.inside in
    let r = Get c.args.key.now in
    let reply = told_by Got c.read_key.result in
    let old : OpenStore g.row.K g.row.D.Denot = record { file = s.file; next = s.next; room = s.room; query = s.query; page = s.page.value; stop = s.stop; opened = s.opened } in
    let new : OpenStore g.row.K g.row.D.Denot = record { file = c.read_key.new.file; next = s.next; room = s.room; query = s.query; page = c.read_key.new.page; stop = s.stop; opened = s.opened } in
    seen_answered {K = g.row.K} {D = g.row.D.Denot} g.D.Disk c.args.self.now old new r reply c.self.view_is
    (λ told p is. read_answered {K = g.row.K} {D = g.row.D.Denot} g.D.Disk old new c.read_key.ensures.same refl p r reply is (c.read_key.ensures.told told p is.file))

pub returns-clause-lone : goal.returns-clause-lone
returns-clause-lone g c =
    let s = c.self.inside in
    let result = c.read_key.result in
    let old : OpenStore g.row.K g.row.D.Denot = record { file = s.file; next = s.next; room = s.room; query = s.query; page = s.page.value; stop = s.stop; opened = s.opened } in
    let new : OpenStore g.row.K g.row.D.Denot = record { file = c.read_key.new.file; next = s.next; room = s.room; query = s.query; page = c.read_key.new.page; stop = s.stop; opened = s.opened } in
    subst (λ (seen : OpenStore g.row.K g.row.D.Denot). IsTrue (g.D.Disk.honest seen.file.disk) → (t : State g.row.K) → IsStoreAlone g.D.Disk seen t → OnOk result (IsAnsweredLone g.D.Disk t (Get c.args.key.now) (told_by Got result) seen new)) c.self.view_is
    (λ told t is. got_lone {K = g.row.K} {D = g.row.D.Denot} g.D.Disk old new c.read_key.ensures.same refl t c.args.key.now result (c.read_key.ensures.told told) is)

pub returns-clause-alone : goal.returns-clause-alone
returns-clause-alone g c =
    let s = c.self.inside in
    let old : OpenStore g.row.K g.row.D.Denot = record { file = s.file; next = s.next; room = s.room; query = s.query; page = s.page.value; stop = s.stop; opened = s.opened } in
    let new : OpenStore g.row.K g.row.D.Denot = record { file = c.read_key.new.file; next = s.next; room = s.room; query = s.query; page = c.read_key.new.page; stop = s.stop; opened = s.opened } in
    subst (λ (seen : OpenStore g.row.K g.row.D.Denot). (t : State g.row.K) → IsStoreAlone g.D.Disk seen t → IsStoreAlone g.D.Disk new t) c.self.view_is
    (stays_alone {K = g.row.K} {D = g.row.D.Denot} g.D.Disk old new c.read_key.ensures.same refl)
