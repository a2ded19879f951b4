use Rattle.std.proofs.Common.{refl, sym, true≢false}
use Rattle.query_paths.proofs.Telling.{is-below, not-below}
use Rattle.query_paths.proofs.pages_in_memory.PagesPinned2.read_bucket.Goals as goal

pub returns-then-number-self-clause-there : goal.returns-then-number-self-clause-there
returns-then-number-self-clause-there g c = (λ e. absurd (true≢false (sym e)), λ e. absurd (not-below c.args.self.now.count c.args.number c.if-number-self.true e))

pub returns-clause-there : goal.returns-clause-there
returns-clause-there g c = (λ e. is-below c.args.self.now.count c.args.number c.if-number-self.false, λ e. refl)
