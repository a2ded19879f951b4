use Rattle.std.proofs.Common.{sym, subst, List}
use Rattle.file_state.specs.Memories.{IsMemory}
use Rattle.page_states.specs.declared.page_state.PageState.{PageState}
use Rattle.file_state.proofs.Kept.{giving_back_kept}
use Rattle.file_state.proofs.keeping.give_back.Goals as goal

pub returns-clause-memory : goal.returns-clause-memory
returns-clause-memory g c =
    subst (λ (states : List PageState). IsMemory {K = g.row.K} (record c.args.memory.now { pages = states })) (sym c.give_back.ensures)
    (giving_back_kept c.args.memory.now c.args.seat c.requires)
