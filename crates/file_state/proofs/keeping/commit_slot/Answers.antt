use Rattle.std.proofs.Common.{◌+◌, ◌≤◌, ℕ, ◌∙◌, ap, arith}
use Rattle.grid_types.proofs.Places.{within-limits}
use Rattle.grid_types.specs.Halves.{half_number}
use Rattle.file_books.specs.Effects.{with_used}
use Rattle.file_state.specs.Memories.{books_of}
use Rattle.file_state.specs.declared.memory.Journal.{Journal}
use Rattle.file_state.proofs.Journals.{used_same, with_same}
use Rattle.file_state.proofs.keeping.commit_slot.Goals as goal

pub overflow_add-used : goal.overflow_add-used
overflow_add-used g c =
    let few : c.args.memory.now.geometry.shape.slots ≤ 4000 = (within-limits c.args.memory.now.geometry.shape c.requires.memory.books.lawful).few_slots in
    omega (arith, c.used-used.ensures, used_same c.args.memory.now (half_number c.args.memory.now.journal.half), c.requires.free, few)

pub returns-clause-books : goal.returns-clause-books
returns-clause-books g c =
    ap (λ (j : Journal). books_of {K = g.row.K} (record c.args.memory.now { journal = j })) c.set_used.ensures
    ∙ with_same c.args.memory.now (half_number c.args.memory.now.journal.half) (c.used-used.result + 1)
    ∙ ap (λ (n : ℕ). with_used (books_of c.args.memory.now) (half_number c.args.memory.now.journal.half) (n + 1)) (c.used-used.ensures ∙ used_same c.args.memory.now (half_number c.args.memory.now.journal.half))
