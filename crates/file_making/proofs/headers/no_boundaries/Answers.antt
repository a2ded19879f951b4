use Rattle.std.proofs.Common.{length, [], ◌∷◌, ◌++◌, ℕ, List, ap, ◌∙◌, arith}
use Rattle.std.proofs.lemmas.List.{length-replicate, replicate-append-replicate}
use Rattle.file_making.proofs.headers.no_boundaries.Goals as goal

pub push-requires : goal.push-requires
push-requires c = (omega arith, omega (arith, ap length c.loop-a.invariant, length-replicate {A = ℕ} c.loop-a._a 0, c.loop-a-test.true, c.requires.few))

pub loop-a-preserved : goal.loop-a-preserved
loop-a-preserved c = c.push.ensures.items ∙ ap (λ (ns : List ℕ). ns ++ 0 ∷ []) c.loop-a.invariant ∙ replicate-append-replicate {A = ℕ} c.loop-a._a 1 0
