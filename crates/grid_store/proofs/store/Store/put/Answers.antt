use Rattle.std.proofs.Common.{rules, ◌≡◌, ◌≤◌, arith}
use Rattle.grid_types.specs.declared.update.Record.{Record}
use Rattle.grid_types.proofs.Places.{within-limits}
use Rattle.grid_store.proofs.Changed.{put-alone}
use Rattle.grid_store.proofs.store.Store.put.Goals as goal

pub update-requires : goal.update-requires
update-requires g c =
    let few : g.row.K ≤ 4 = omega (arith, (within-limits c.self.inside.file.books.shape c.state-state.ensures.sound.books_are.lawful).few_attributes, c.state-state.ensures.sound.books_are.attributes) in
    search (rules, few)

pub returns-clause-lone : goal.returns-clause-lone
returns-clause-lone g c = λ h s was.
    put-alone {K = g.row.K} {D = g.row.D.Denot} g.D.Disk c.args.self.now c.update.new.self (λ i. record { key = c.args.row.now.key; value = c.copy.ensures i }) c.update.result s (c.update.ensures.lone h s was)
