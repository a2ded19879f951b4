use Rattle.std.proofs.Common.{rules, ◌≤◌, arith}
use Rattle.grid_types.proofs.Places.{within-limits}
use Rattle.grid_store.proofs.store.Store.remove.Goals as goal

pub update-requires : goal.update-requires
update-requires g c =
    let few : g.row.K ≤ 4 = omega (arith, (within-limits c.self.inside.file.books.shape c.state-state.ensures.sound.books_are.lawful).few_attributes, c.state-state.ensures.sound.books_are.attributes) in
    search (rules, few)
