use Rattle.std.proofs.Common.{◌+◌, ◌∙◌, ℕ, sym, subst, arith}
use Rattle.std.proofs.lemmas.Bool.{false≢true}
use Rattle.std.proofs.lemmas.List.{length-take-le, length-drop}
use Rattle.grid_types.specs.Halves.{half_number}
use Rattle.grid_types.proofs.HalvesLemmas.{half_small}
use Rattle.page_fields.specs.Fields.{AreZeros}
use Rattle.journal_slots.specs.Gates.{gates_in}
use Rattle.journal_slots.proofs.GatePages.{gates_joined, head_there, zeros_there}
use Rattle.journal_slots.proofs.gates.is_gate_page.Goals as goal

pub returns-then-has_head-clause-gates : goal.returns-then-has_head-clause-gates
returns-then-has_head-clause-gates c = λ yes.
    gates_joined (half_number c.args.half) c.args.slots c.args.page.now (half_small c.args.half) c.requires.few c.told-page (c.has_head.ensures.0 c.if-has_head.true) (c.zeros.ensures.0 yes)

pub returns-then-has_head-clause-judged : goal.returns-then-has_head-clause-judged
returns-then-has_head-clause-judged c = (
  λ yes. record {
    gates = gates_in c.args.slots c.args.page.now;
    count = length-take-le c.args.slots _ (simp length-drop (omega (arith, c.told-page, c.requires.few)));
    spelled = returns-then-has_head-clause-gates c yes;
  },
  λ p. c.zeros.ensures.1 (subst (λ (n : ℕ). AreZeros (96 + n) 4096 c.args.page.now) p.count (zeros_there (half_number c.args.half) p.gates c.args.page.now p.spelled (omega (arith, p.count, c.requires.few)))),
)

pub returns-else-has_head-clause-judged : goal.returns-else-has_head-clause-judged
returns-else-has_head-clause-judged c = (
  λ yes. absurd (false≢true (sym c.if-has_head.false ∙ yes)),
  λ p. c.has_head.ensures.1 (head_there (half_number c.args.half) p.gates c.args.page.now p.spelled (half_small c.args.half)),
)
