use Rattle.std.specs.Prelude.{OnOk}
use Rattle.std.proofs.Common.{true, inr, IsTrue, refl, sym, subst, ◌∙◌}
use Rattle.grid_types.specs.declared.refusal.Refusal.TheVariants.{BadQuery}
use Rattle.grid_types.specs.declared.request.Reply.TheVariants.{Listed, Refused}
use Rattle.grid_types.specs.declared.request.Request.TheVariants.{List}
use Rattle.grid_model.specs.Lone.{State}
use Rattle.query_paths.specs.Paths.{AreJudged, HasQueryCause}
use Rattle.query_paths.specs.Rooms.{bucket_bytes, part_bytes}
use Rattle.grid_file.specs.CallLaws.{reads_none}
use Rattle.grid_file.specs.Pages.{front_place}
use Rattle.grid_store.specs.Answered.{IsAnsweredLone, told_by}
use Rattle.grid_store.specs.Stores.{OpenStore, IsStoreAlone}
use Rattle.grid_store.proofs.Answering.{read_answered, seen_answered}
use Rattle.grid_store.proofs.Staying.{stays_alone, listed_lone}
use Rattle.grid_store.proofs.store.Store.list.Goals as goal

pub returns-then-not-lawful-clause-answers : goal.returns-then-not-lawful-clause-answers
returns-then-not-lawful-clause-answers g c = λ told p is.
    let s = c.args.self.now in
    let none = reads_none {K = g.row.K} {D = g.row.D.Denot} {g = g.D.Disk} s.file (λ x h left. g.met.D.Disk.only_now s.file.disk x h left) in
    read_answered {K = g.row.K} {D = g.row.D.Denot} g.D.Disk s s none refl p (List c.args.query.now) (Refused BadQuery) is (refl, inr (inr (refl, sym c.lawful.ensures ∙ c.if-not-lawful.true)))

pub returns-clause-answers : goal.returns-clause-answers
returns-clause-answers g c =
    let s = c.self.inside in
    let r = List c.args.query.now in
    let reply = told_by Listed c.list_matching.result in
    let old : OpenStore g.row.K g.row.D.Denot = record { file = s.file; next = s.next; room = s.room; query = s.query; page = s.page.value; stop = s.stop; opened = s.opened } in
    let new : OpenStore g.row.K g.row.D.Denot = record { file = c.list_matching.new.file; next = s.next; room = s.room; query = c.list_matching.new.room; page = s.page.value; stop = s.stop; opened = s.opened } in
    seen_answered {K = g.row.K} {D = g.row.D.Denot} g.D.Disk c.args.self.now old new r reply c.self.view_is
    (λ told p is. read_answered {K = g.row.K} {D = g.row.D.Denot} g.D.Disk old new c.list_matching.ensures.same refl p r reply is (c.list_matching.ensures.told told p is.file))

pub returns-clause-judged : goal.returns-clause-judged
returns-clause-judged g c = subst (λ (s : OpenStore g.row.K g.row.D.Denot). OnOk c.list_matching.result (AreJudged g.row.K (front_place g.D.Disk s.file) c.args.query.now.sides)) c.self.view_is c.list_matching.ensures.judged

pub returns-clause-cause : goal.returns-clause-cause
returns-clause-cause g c = λ lawful.
    let room = c.list_matching.new.room in
    subst (λ (s : OpenStore g.row.K g.row.D.Denot). HasQueryCause g.row.K true (front_place g.D.Disk s.file) c.args.query.now.sides (part_bytes room) (bucket_bytes room) (g.D.Disk.read_count s.file.disk) (g.D.Disk.read_count c.list_matching.new.file.disk) c.list_matching.result) c.self.view_is c.list_matching.ensures.cause

pub returns-clause-lone : goal.returns-clause-lone
returns-clause-lone g c =
    let s = c.self.inside in
    let result = c.list_matching.result in
    let old : OpenStore g.row.K g.row.D.Denot = record { file = s.file; next = s.next; room = s.room; query = s.query; page = s.page.value; stop = s.stop; opened = s.opened } in
    let new : OpenStore g.row.K g.row.D.Denot = record { file = c.list_matching.new.file; next = s.next; room = s.room; query = c.list_matching.new.room; page = s.page.value; stop = s.stop; opened = s.opened } in
    subst (λ (seen : OpenStore g.row.K g.row.D.Denot). IsTrue (g.D.Disk.honest seen.file.disk) → (t : State g.row.K) → IsStoreAlone g.D.Disk seen t → OnOk result (IsAnsweredLone g.D.Disk t (List c.args.query.now) (told_by Listed result) seen new)) c.self.view_is
    (λ told t is. listed_lone {K = g.row.K} {D = g.row.D.Denot} g.D.Disk old new c.list_matching.ensures.same refl t c.args.query.now result (c.list_matching.ensures.told told) is)

pub returns-clause-alone : goal.returns-clause-alone
returns-clause-alone g c =
    let s = c.self.inside in
    let old : OpenStore g.row.K g.row.D.Denot = record { file = s.file; next = s.next; room = s.room; query = s.query; page = s.page.value; stop = s.stop; opened = s.opened } in
    let new : OpenStore g.row.K g.row.D.Denot = record { file = c.list_matching.new.file; next = s.next; room = s.room; query = c.list_matching.new.room; page = s.page.value; stop = s.stop; opened = s.opened } in
    subst (λ (seen : OpenStore g.row.K g.row.D.Denot). (t : State g.row.K) → IsStoreAlone g.D.Disk seen t → IsStoreAlone g.D.Disk new t) c.self.view_is
    (stays_alone {K = g.row.K} {D = g.row.D.Denot} g.D.Disk old new c.list_matching.ensures.same refl)
