use Rattle.std.proofs.Common.{sym, ◌∙◌}
use Rattle.file_state.proofs.Journals.{cleaned_full, cleaned_not_full}
use Rattle.file_state.proofs.keeping.cleaned.Goals as goal

pub returns-then-used-memory-clause-books : goal.returns-then-used-memory-clause-books
returns-then-used-memory-clause-books g c = cleaned_full c.args.memory.now c.other-idle.result c.set_used.new.self c.other-idle.ensures c.set_used.ensures (sym c.used.ensures ∙ c.if-used-memory.true)

pub returns-else-used-memory-clause-books : goal.returns-else-used-memory-clause-books
returns-else-used-memory-clause-books g c = cleaned_not_full c.args.memory.now c.other-idle.result c.set_used.new.self c.other-idle.ensures c.set_used.ensures (λ e. c.if-used-memory.false (c.used.ensures ∙ e))
