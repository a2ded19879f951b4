use Rattle.std.proofs.Common.{sym, subst, List, ◌∷◌, []}
use Rattle.file_state.specs.Memories.{IsMemory}
use Rattle.page_states.specs.declared.page_state.PageState.{PageState}
use Rattle.file_state.proofs.Kept.{sweep_kept}
use Rattle.file_state.proofs.keeping.sweep.Goals as goal

pub returns-in-None-clause-memory : goal.returns-in-None-clause-memory
returns-in-None-clause-memory g c =
    subst (λ (states : List PageState). IsMemory {K = g.row.K} (record c.args.memory.now { pages = states })) (sym c.sweep.ensures)
    (sweep_kept c.args.memory.now (c.args.memory.now.roots.place ∷ []) c.requires)

pub returns-in-Some-clause-memory : goal.returns-in-Some-clause-memory
returns-in-Some-clause-memory g c =
    subst (λ (states : List PageState). IsMemory {K = g.row.K} (record c.args.memory.now { pages = states })) (sym c.sweep-in-Some.ensures)
    (sweep_kept c.args.memory.now (c.args.memory.now.roots.place ∷ c.in-Some.trying ∷ []) c.requires)
