use Rattle.std.proofs.Common.{sym, subst, List}
use Rattle.file_state.specs.Memories.{IsMemory}
use Rattle.page_states.specs.declared.page_state.PageState.{PageState}
use Rattle.std.specs.Prelude.{length}
use Rattle.file_state.proofs.Kept.{claim_kept}
use Rattle.file_state.proofs.keeping.claim.Goals as goal

pub returns-clause-memory : goal.returns-clause-memory
returns-clause-memory g c =
    subst (λ (states : List PageState). IsMemory {K = g.row.K} (record c.args.memory.now { pages = states })) (sym c.claim.ensures.states)
    (claim_kept c.args.memory.now c.args.seat (length c.args.out.now) c.claim.new.out c.requires.memory c.claim.ensures.pages)
