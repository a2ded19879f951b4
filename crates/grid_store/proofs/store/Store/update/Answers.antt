use Rattle.std.proofs.Common.{rules, ◌≤◌, IsTrue, subst, arith}
use Rattle.grid_types.proofs.Places.{within-limits}
use Rattle.grid_model.specs.Lone.{State}
use Rattle.client_sessions.specs.Points.{Point}
use Rattle.durable_updates.specs.Points.{reply_to, request_of}
use Rattle.durable_updates.specs.Answers.{UnlessFailed}
use Rattle.grid_store.specs.Stores.{OpenStore, IsStoreAlone}
use Rattle.grid_store.specs.Answered.{IsAnsweredLone}
use Rattle.grid_store.proofs.Changed.{update-stopped, stopped-answered, updated-alone}
use Rattle.grid_store.proofs.store.Store.update.Goals as goal

pub returns-in-Some-clause-answers : goal.returns-in-Some-clause-answers
returns-in-Some-clause-answers g c = λ h p at.
    stopped-answered {K = g.row.K} {D = g.row.D.Denot} g.D.Disk c.args.self.now p c.in-Some.faults c.self.inside.opened (request_of c.args.update.now) (search (rules, c.self.view_is, c.in-Some.is)) at
    (update-stopped c.args.self.now.file.books.shape p c.args.update.now c.in-Some.faults c.self.inside.opened) (λ image told left. g.met.D.Disk.only_now c.args.self.now.file.disk image told left)

pub update_file-outcome-requires : goal.update_file-outcome-requires
update_file-outcome-requires g c =
    let few : g.row.K ≤ 4 = omega (arith, (within-limits c.self.inside.file.books.shape c.state-state.ensures.sound.books_are.lawful).few_attributes, c.state-state.ensures.sound.books_are.attributes) in
    (search (rules, few), (search (rules, few), (search (rules, few), (search (rules, few), (search (rules, few), (c.self.invariant.next, (c.self.invariant.updates, c.self.invariant.unclaimed)))))))

pub returns-clause-lone : goal.returns-clause-lone
returns-clause-lone g c = updated-alone {K = g.row.K} {D = g.row.D.Denot} g.D.Disk _ c.self.view_is c.args.update.now c.update_file-outcome.result c.stop_of-self-inside.ensures c.update_file-outcome.ensures.lone
